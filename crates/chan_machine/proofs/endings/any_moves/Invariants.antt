use Rattle.std.proofs.Common.{◌≡◌, drop, filter}
use Rattle.core_language.specs.Endings.{is_nil}
use Rattle.core_language.specs.Rounds.{moves}
use Rattle.core_programs.specs.Bodies.{program_of}
use Rattle.chan_machine.specs.Reading.{config_of}
use Rattle.chan_machine.proofs.endings.any_moves.Given as goal

abbrev pub invariant-loop-name : goal.invariant-loop-name
invariant-loop-name l = is_nil (filter (moves (program_of l.fn.program) (config_of l.fn.program l.fn.config)) (drop l.name-index l.fn.names))
    ≡ is_nil (filter (moves (program_of l.fn.program) (config_of l.fn.program l.fn.config)) l.fn.names)
