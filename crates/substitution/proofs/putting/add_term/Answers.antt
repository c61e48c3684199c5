use Rattle.std.proofs.Common.{◌+◌, ◌*◌, ◌^◌, sym, subst, arith}
use Rattle.substitution.specs.Places.{token_of}
use Rattle.substitution.specs.Sums.{HasSums, HasPlaces}
use Rattle.substitution.proofs.Tokens.{tokens_more}
use Rattle.substitution.proofs.Added.{looser}
use Rattle.substitution.proofs.Lists.{scaled_more}
use Rattle.substitution.proofs.putting.add_term.Goals as goal

pub add_part-requires-clause-within : goal.add_part-requires-clause-within
add_part-requires-clause-within c = looser (2 ^ 246 + c.loop-part.part-index * 2 ^ 126) (2 ^ 247) c.loop-part.sums (omega arith) (c.loop-part.invariant.within (2 ^ 246) c.requires.within)

pub loop-part-preserved : goal.loop-part-preserved
loop-part-preserved c = record {
  sums = λ sum h. subst (HasSums c.add_part.new.sums) (scaled_more sum _ c.args.parts.now c.loop-part.part-index c.part-item.result c.loop-part-test.true (sym c.part-item.is)) (c.in_ok-add_part.ensures.sums _ (c.loop-part.invariant.sums sum h));
  places = λ tokens h. subst (HasPlaces c.add_part.new.sums) (tokens_more token_of tokens c.args.parts.now c.loop-part.part-index c.part-item.result c.loop-part-test.true (sym c.part-item.is)) (c.in_ok-add_part.ensures.places _ (c.loop-part.invariant.places tokens h));
  within = λ size w. looser ((size + c.loop-part.part-index * 2 ^ 126) + 2 ^ 126) _ c.add_part.new.sums (omega arith) (c.in_ok-add_part.ensures.within (size + c.loop-part.part-index * 2 ^ 126) (c.loop-part.invariant.within size w));
}

pub returns-clause-within : goal.returns-clause-within
returns-clause-within c = λ size w. looser (size + c.loop-part.part-index * 2 ^ 126) (size + 2 ^ 185) c.loop-part.sums (omega arith) (c.loop-part.invariant.within size w)
