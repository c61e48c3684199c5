use Rattle.std.proofs.Common.{◌≡◌, ◌+◌, ◌<◌, ◌*◌, ◌^◌, ap, ◌∙◌, sym, length, map, get_or, arith}
use Rattle.std.proofs.lemmas.List.{length-map}
use Rattle.std.proofs.Math.ListN.{get_or-map}
use Rattle.chan_syntax.specs.Reading.{part_of}
use Rattle.outline_rules.proofs.Terms.{term_more, looser}
use Rattle.outline_rules.proofs.sums.add_term.Goals as goal

pub add_part-requires-clause-within : goal.add_part-requires-clause-within
add_part-requires-clause-within c = looser (length c.args.ints.now) (2 ^ 246 + c.loop-part.part-index * 2 ^ 126) (2 ^ 247) c.loop-part.sums (omega arith) (c.loop-part.invariant.within (2 ^ 246) c.requires.within)

below : (c : goal.After-add_part) → c.loop-part.part-index < length (map part_of c.args.parts.now)
below c = rw (length-map c.args.parts.now part_of) c.loop-part-test.true

at_part : (c : goal.After-add_part) → get_or (map part_of c.args.parts.now) c.loop-part.part-index (part_of c.part-item.result) ≡ part_of c.part-item.result
at_part c = get_or-map part_of c.args.parts.now c.loop-part.part-index c.part-item.result ∙ ap part_of (sym c.part-item.is)

pub loop-part-preserved : goal.loop-part-preserved
loop-part-preserved c = record {
  adds = term_more c.args.ints.now _ (map part_of c.args.parts.now) c.loop-part.part-index (part_of c.part-item.result) c.args.sums.now c.loop-part.sums c.add_part.new.sums (below c) (at_part c) c.loop-part.invariant.adds c.add_part.ensures.adds;
  within = λ size w. looser (length c.args.ints.now) ((size + c.loop-part.part-index * 2 ^ 126) + 2 ^ 126) _ c.add_part.new.sums (omega arith) (c.add_part.ensures.within (size + c.loop-part.part-index * 2 ^ 126) (c.loop-part.invariant.within size w));
}

pub returns-clause-within : goal.returns-clause-within
returns-clause-within c = λ size w. looser (length c.args.ints.now) (size + c.loop-part.part-index * 2 ^ 126) (size + 2 ^ 185) c.loop-part.sums (omega arith) (c.loop-part.invariant.within size w)
