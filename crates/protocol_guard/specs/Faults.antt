-- What `guarded` answers where a table isn't guarded.
use Rattle.std.specs.Prelude.{List}
use Rattle.chan_syntax.specs.declared.resources.Proto.{Proto}
use Rattle.protocol_guard.specs.declared.guarding.GuardFault.{GuardFault}
use Rattle.protocol_guard.specs.declared.guarding.GuardFault.TheVariants as fault
use Rattle.protocol_guard.specs.Guards.{IsCycle}

-- memory may fail at any time
abbrev pub IsFaultOf : List Proto → GuardFault → Type 0
IsFaultOf protos (fault.Cycle cycle) = IsCycle protos cycle.names
IsFaultOf protos fault.Memory = Unit {0}
