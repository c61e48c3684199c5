use Rattle.std.proofs.Common.{◌≡◌, ◌++◌, Some, drop}
use Rattle.protocol_guard.specs.Guards.{names_on}
use Rattle.protocol_guard.proofs.guarding.all_names.Given as goal

abbrev pub invariant-loop-turn : goal.invariant-loop-turn
invariant-loop-turn l = l.names ++ names_on l.protos l.at (drop l.turn-index l.way) ≡ names_on l.protos (Some l.fn.start) l.way
