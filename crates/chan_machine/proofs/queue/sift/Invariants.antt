use Rattle.std.proofs.Common.{◌≡◌, ◌++◌, ◌||◌, filter}
use Rattle.core_language.specs.Rounds.{moves}
use Rattle.core_programs.specs.Bodies.{program_of}
use Rattle.chan_machine.specs.Parking.{names_of, seats}
use Rattle.chan_machine.specs.Reading.{config_of}
use Rattle.chan_machine.specs.Turning.{Parked}
use Rattle.chan_machine.proofs.queue.sift.Given as goal

abbrev pub invariant-ready : goal.invariant-ready
invariant-ready l = (names_of l.movers.items ++ filter (moves (program_of l.fn.program) (config_of l.fn.program l.fn.run.config)) (names_of l.seat-iterator.rest.items)
    ≡ filter (moves (program_of l.fn.program) (config_of l.fn.program l.fn.run.config)) (names_of l.fn.ready.items))
    × Parked l.fn.program l.fn.run (λ q. seats l.seat-iterator.rest.items q || seats l.movers.items q) l.waiting
