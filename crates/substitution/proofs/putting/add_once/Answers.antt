use Rattle.std.proofs.Common.{◌+◌, ◌*ℤ◌, ◌++◌, ◌∷◌, [], pos, Some, ◌^◌, to_z, of_z, arith}
use Rattle.std.specs.Int.{w128}
use Rattle.wide_sums.proofs.Sizes.{kept}
use Rattle.linear_forms.specs.Terms.{times_of}
use Rattle.linear_forms.specs.Replacing.{counting}
use Rattle.chan_syntax.specs.Reading.{part_of}
use Rattle.substitution.specs.Sums.{HasSums}
use Rattle.substitution.proofs.Added.{looser, one_times}
use Rattle.substitution.proofs.putting.add_once.Goals as goal

pub returns-clause-sums : goal.returns-clause-sums
returns-clause-sums c = λ sum h.
    let adds : HasSums c.add_name.new.self (sum ++ counting (pos 1 *ℤ to_z w128 (of_z w128 c.times.result)) (Some c.args.name.now) ∷ []) = c.in_ok-add_name.ensures.sums sum h in
    rw (kept c.times.result (omega arith), c.times.ensures.value, one_times (times_of (part_of c.args.part.now))) at adds

pub returns-clause-within : goal.returns-clause-within
returns-clause-within c = λ size h. looser (size + 2 ^ 126) (size + 2 ^ 185) _ (omega arith) (c.in_ok-add_name.ensures.within size h)
