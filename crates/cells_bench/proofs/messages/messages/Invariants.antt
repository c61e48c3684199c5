use Rattle.cell_turns.specs.Crew.{HasSpare}
use Rattle.cells_bench.proofs.messages.messages.Given as goal

abbrev pub invariant-loop : goal.invariant-loop
invariant-loop g l = HasSpare l.cells l.hand l.spare
