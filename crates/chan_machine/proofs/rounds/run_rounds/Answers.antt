use Rattle.std.proofs.Common.{◌≡◌, ◌++◌, ◌∷◌, [], List, map, ap, ◌∙◌}
use Rattle.core_programs.specs.Bodies.{program_of}
use Rattle.machine_rounds.proofs.Rounded.{start_parked, start_forks}
use Rattle.chan_machine.specs.Ends.{has_no_cell}
use Rattle.chan_machine.specs.Reading.{config_of, entry_of}
use Rattle.chan_machine.specs.declared.events.Entry.{Entry}
use Rattle.chan_machine.specs.declared.runs.Seat.{Seat}
use Rattle.chan_machine.proofs.Turned.{made}
use Rattle.chan_machine.specs.Parking.{seats, waits}
use Rattle.chan_machine.proofs.Begun.{first_run, one_ascends, only_main}
use Rattle.chan_machine.proofs.rounds.run_rounds.Goals as goal

pub run_all-requires-clause-start : goal.run_all-requires-clause-start
run_all-requires-clause-start c =
    let program = c.args.program.now in
    let D = config_of program c.in_ok-config.config in
    ap (λ (es : List Entry). made D (map entry_of es)) c.new.ensures ∙ first_run (program_of program) D c.in_ok-config.ensures.value

pub run_all-requires-clause-forks : goal.run_all-requires-clause-forks
run_all-requires-clause-forks c =
    let program = c.args.program.now in
    start_forks (program_of program) (config_of program c.in_ok-config.config) c.in_ok-config.ensures.value

pub run_all-requires-clause-queue : goal.run_all-requires-clause-queue
run_all-requires-clause-queue c =
    let program = c.args.program.now in
    let main : Seat = record { name = c.root.result; number = 0 } in
    let alone : c.push.new.self.items ≡ main ∷ [] = c.in_ok-push.ensures.items ∙ ap (λ (xs : List Seat). xs ++ main ∷ []) c.new-ready.ensures.items in (
      one_ascends c.push.new.self.items main alone,
      start_parked (program_of program) (made (config_of program c.in_ok-config.config) (map entry_of c.new.result)) (seats c.push.new.self.items) (waits c.new-2.result) c.in_ok-config.ensures.value
          (only_main c.push.new.self.items main alone c.root.ensures),
    )

pub returns-clause-cells : goal.returns-clause-cells
returns-clause-cells c = c.in_ok-run_all.ensures.cells (c.in_ok-config.ensures.ends has_no_cell)
