use Rattle.std.proofs.Common.{◌≡◌, length}
use Rattle.holds_bench.proofs.row.Given as goal

abbrev pub invariant-loop : goal.invariant-loop
invariant-loop l = length l.coefficients ≡ l.counter
