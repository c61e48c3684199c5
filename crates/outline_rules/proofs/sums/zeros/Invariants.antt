use Rattle.std.proofs.Common.{◌≡◌, pos, map}
use Rattle.std.specs.List.{range_with_len}
use Rattle.outline_rules.proofs.sums.zeros.Given as goal

abbrev pub invariant-loop : goal.invariant-loop
invariant-loop l = l.coefficients.items ≡ map (λ i. pos 0) (range_with_len 0 l.counter)
