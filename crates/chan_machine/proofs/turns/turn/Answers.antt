use Rattle.std.proofs.Common.{◌≡◌, Some, None, map, refl, rules}
use Rattle.chan_machine.specs.Ends.{has_no_cell}
use Rattle.chan_machine.specs.Reading.{config_of, entry_of}
use Rattle.chan_machine.specs.Turning.{event_in}
use Rattle.chan_machine.proofs.Turned.{not_moved, forks_still, forks_moved, still_parked, moved_parked}
use Rattle.chan_machine.proofs.turns.turn.Goals as goal

pub returns-in_default-clause-parked : goal.returns-in_default-clause-parked
returns-in_default-clause-parked c = λ movers mover parked.
    let program = c.args.program.now in
    let s = c.in_ok-stepped.stepped in
    let none : event_in s ≡ None = search rules in
    still_parked program c.args.time c.args.run.now c.args.mover.now.name (config_of program c.step_at.new.config) s c.in_ok-stepped.ensures.value
    (c.in_ok-stepped.ensures.still (not_moved s none)) movers c.args.queue.now parked

pub returns-in_default-clause-forks : goal.returns-in_default-clause-forks
returns-in_default-clause-forks c =
    let program = c.args.program.now in
    let s = c.in_ok-stepped.stepped in
    let none : event_in s ≡ None = search rules in
    forks_still program c.args.time c.args.run.now c.args.mover.now.name (config_of program c.step_at.new.config) s c.in_ok-stepped.ensures.value
    none (c.in_ok-stepped.ensures.still (not_moved s none))

pub returns-clause-parked : goal.returns-clause-parked
returns-clause-parked c = λ movers mover parked.
    let program = c.args.program.now in
    let s = c.in_ok-stepped.stepped in
    let event = c.in-Some.event in
    let some : event_in s ≡ Some event = search rules in
    moved_parked program c.args.time c.args.run.now c.args.mover.now.name (config_of program c.step_at.new.config) s c.in_ok-stepped.ensures.value
    event some (map entry_of c.note.new.entries) c.in_ok-note.ensures movers mover c.args.queue.now c.spread.new.queue c.in_ok-spread.ensures parked

pub returns-clause-forks : goal.returns-clause-forks
returns-clause-forks c =
    let program = c.args.program.now in
    let s = c.in_ok-stepped.stepped in
    let event = c.in-Some.event in
    let some : event_in s ≡ Some event = search rules in
    forks_moved program c.args.time c.args.run.now c.args.mover.now.name (config_of program c.step_at.new.config) s c.in_ok-stepped.ensures.value event some

pub returns-in_default-clause-cells : goal.returns-in_default-clause-cells
returns-in_default-clause-cells c = c.in_ok-stepped.ensures.ends has_no_cell (λ name. refl)

pub returns-clause-cells : goal.returns-clause-cells
returns-clause-cells c = c.in_ok-stepped.ensures.ends has_no_cell (λ name. refl)
