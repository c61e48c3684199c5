use Rattle.std.proofs.Common.{◌≡◌, ◌+◌, ◌<◌, ◌*◌, ◌^◌, ℤ, pos, ap, ◌∙◌, sym, length, map, get_or, arith}
use Rattle.std.specs.List.{range_with_len}
use Rattle.std.proofs.lemmas.List.{length-map}
use Rattle.std.proofs.Math.ListN.{get_or-map}
use Rattle.chan_syntax.specs.Reading.{part_of}
use Rattle.outline_rules.specs.Naming.{int_names_of}
use Rattle.outline_rules.proofs.Terms.{form_more, looser, start_form, start_within}
use Rattle.outline_rules.proofs.sums.sums_of.Goals as goal

pub loop-part-init : goal.loop-part-init
loop-part-init c = record {
  form = start_form (int_names_of c.args.names.now) c.in_ok-sums.sums zeros c.in_ok-sums.ensures.constant;
  within = start_within (length c.args.names.now.ints) c.in_ok-sums.sums zeros c.in_ok-sums.ensures.constant;
}
  where
    zeros : c.in_ok-sums.sums.coefficients.items ≡ map {B = ℤ} (λ i. pos 0) (range_with_len 0 (length c.args.names.now.ints))
    zeros = rw c.len.ensures at c.in_ok-sums.ensures.coefficients

below : (c : goal.After-add_meaning) → c.loop-part.part-index < length (map part_of c.args.parts.now)
below c = rw (length-map c.args.parts.now part_of) c.loop-part-test.true

at_part : (c : goal.After-add_meaning) → get_or (map part_of c.args.parts.now) c.loop-part.part-index (part_of c.part-item.result) ≡ part_of c.part-item.result
at_part c = get_or-map part_of c.args.parts.now c.loop-part.part-index c.part-item.result ∙ ap part_of (sym c.part-item.is)

pub loop-part-preserved : goal.loop-part-preserved
loop-part-preserved c = record {
  form = form_more (int_names_of c.args.names.now) (map part_of c.args.parts.now) c.loop-part.part-index (part_of c.part-item.result) c.loop-part.sums c.add_meaning.new.sums (below c) (at_part c) c.loop-part.invariant.form c.add_meaning.ensures.adds;
  within = looser (length c.args.names.now.ints) (c.loop-part.part-index * 2 ^ 185 + 2 ^ 185) _ c.add_meaning.new.sums (omega arith) (c.add_meaning.ensures.within (c.loop-part.part-index * 2 ^ 185) c.loop-part.invariant.within);
}
