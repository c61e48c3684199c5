-- What the search for a cycle comes to.
use Rattle.std.specs.Prelude.{List, Option, Some, None}
use Rattle.protocol_guard.specs.declared.graphs.Turns.{Turns}
use Rattle.protocol_guard.specs.declared.cycles.FirstCycle.{FirstCycle}
use Rattle.protocol_guard.specs.Guards.{IsAcyclic, IsFirstCycle}

-- the first cycle, where there is one
abbrev pub IsFirstAnswer : List Turns → Option FirstCycle → Type 0
IsFirstAnswer graph None = IsAcyclic graph
IsFirstAnswer graph (Some cycle) = IsFirstCycle graph cycle.start cycle.way
