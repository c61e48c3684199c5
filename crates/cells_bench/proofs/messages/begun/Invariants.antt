use Rattle.std.proofs.Common.{◌<◌}
use Rattle.cell_turns.specs.Crew.{IsIdle}
use Rattle.cells_bench.proofs.messages.begun.Given as goal

abbrev pub invariant-loop : goal.invariant-loop
invariant-loop g l = IsIdle l.cells l.hand × (l.hand.seat.me.0.spent < l.hand.seat.me.0.parts)
