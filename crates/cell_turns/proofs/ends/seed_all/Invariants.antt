use Rattle.cell_turns.specs.Crew.{IsIdle}
use Rattle.cell_turns.proofs.ends.seed_all.Given as goal

abbrev pub invariant-loop-number : goal.invariant-loop-number
invariant-loop-number l = IsIdle l.cells l.hand
