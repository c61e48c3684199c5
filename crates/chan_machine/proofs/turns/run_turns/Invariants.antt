use Rattle.std.proofs.Common.{◌≡◌, ◌+◌, drop}
use Rattle.std.specs.Ordering.{nat_cmp}
use Rattle.std.specs.Cmp.Lexicographic.{slice_cmp}
use Rattle.std.specs.List.Sorted.{IsStrictlySortedBy}
use Rattle.core_language.specs.Rounds.{turns}
use Rattle.core_programs.specs.Bodies.{program_of}
use Rattle.machine_rounds.specs.Showing.{ForksWithin}
use Rattle.chan_machine.specs.Ends.{IsOnOneThread}
use Rattle.chan_machine.specs.Fits.{Fits}
use Rattle.chan_machine.specs.Parking.{names_of}
use Rattle.chan_machine.specs.Reading.{config_of}
use Rattle.chan_machine.specs.Turning.{ParkedBut, run_as}
use Rattle.chan_machine.proofs.turns.run_turns.Given as goal

abbrev pub invariant-movers : goal.invariant-movers
invariant-movers l = (turns (program_of l.fn.program) (l.fn.before + 1) (run_as l.fn.program l.run) (names_of (drop l.mover-index l.fn.movers))
    ≡ turns (program_of l.fn.program) (l.fn.before + 1) (run_as l.fn.program l.fn.run) (names_of l.fn.movers))
    × ParkedBut l.fn.program l.run (names_of l.fn.movers) l.queue
    × ForksWithin l.fn.before (config_of l.fn.program l.run.config).tasks (names_of (drop l.mover-index l.fn.movers))
    × IsStrictlySortedBy (slice_cmp nat_cmp) (names_of (drop l.mover-index l.fn.movers))
    × Fits l.fn.program l.run.config
    × (IsOnOneThread l.fn.run.config → IsOnOneThread l.run.config)
