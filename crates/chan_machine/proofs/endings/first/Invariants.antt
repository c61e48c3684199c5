use Rattle.std.proofs.Common.{◌≡◌, drop}
use Rattle.core_language.specs.Endings.{Ending}
use Rattle.core_programs.specs.Bodies.{program_of}
use Rattle.chan_machine.specs.Faulting.{first_fault}
use Rattle.chan_machine.specs.Reading.{config_of}
use Rattle.chan_machine.proofs.endings.first.Given as goal

abbrev pub invariant-loop-name : goal.invariant-loop-name
invariant-loop-name l = (other : Ending) → first_fault l.fn.fault (program_of l.fn.program) (config_of l.fn.program l.fn.config) (drop l.name-index l.fn.names) other
    ≡ first_fault l.fn.fault (program_of l.fn.program) (config_of l.fn.program l.fn.config) l.fn.names other
