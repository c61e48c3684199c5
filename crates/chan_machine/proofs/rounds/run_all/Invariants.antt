use Rattle.std.proofs.Common.{◌≡◌, ◌≤◌, ◌-◌}
use Rattle.core_language.specs.Rounds.{run_of}
use Rattle.core_programs.specs.Bodies.{program_of}
use Rattle.machine_rounds.specs.Showing.{ForksUpTo}
use Rattle.chan_machine.specs.Ends.{IsOnOneThread}
use Rattle.chan_machine.specs.Fits.{Fits}
use Rattle.chan_machine.specs.Reading.{config_of}
use Rattle.chan_machine.specs.Turning.{IsQueue, run_as}
use Rattle.chan_machine.proofs.rounds.run_all.Given as goal

abbrev pub invariant-rounds : goal.invariant-rounds
invariant-rounds l = (run_as l.fn.program l.run ≡ run_of (program_of l.fn.program) l.time)
    × (l.time ≤ l.fn.rounds)
    × IsQueue l.fn.program l.run l.queue
    × ForksUpTo l.time (config_of l.fn.program l.run.config).tasks
    × Fits l.fn.program l.run.config
    × (IsOnOneThread l.fn.run.config → IsOnOneThread l.run.config)

abbrev pub decreases-rounds : goal.decreases-rounds
decreases-rounds l = l.fn.rounds - l.time
