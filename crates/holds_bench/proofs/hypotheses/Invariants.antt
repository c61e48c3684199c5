use Rattle.std.proofs.Common.{All}
use Rattle.farkas_check.specs.Rows.{IsNarrow}
use Rattle.holds_bench.proofs.hypotheses.Given as goal

abbrev pub invariant-loop : goal.invariant-loop
invariant-loop l = All IsNarrow l.hyps
