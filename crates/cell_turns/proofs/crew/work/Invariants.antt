use Rattle.cell_turns.specs.Crew.{HasSpare}
use Rattle.cell_turns.proofs.crew.work.Given as goal

abbrev pub invariant-loop-i : goal.invariant-loop-i
invariant-loop-i l = HasSpare l.cells l.hand l.spare
