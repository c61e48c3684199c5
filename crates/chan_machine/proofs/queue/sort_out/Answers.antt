use Rattle.std.proofs.Common.{◌≡◌, true, false, Some, None, rules, sym, ap, ◌∙◌}
use Rattle.core_language.specs.Rounds.{moves}
use Rattle.core_programs.specs.Bodies.{program_of}
use Rattle.machine_rounds.specs.Local.{looks_at}
use Rattle.chan_machine.specs.Parking.{names_of}
use Rattle.chan_machine.specs.Reading.{config_of}
use Rattle.chan_machine.specs.Turning.{run_as}
use Rattle.chan_machine.proofs.Parked.{names-push}
use Rattle.chan_machine.proofs.Sifted.{sorted_mover, sorted_out, sorted_waiting}
use Rattle.chan_machine.proofs.Turned.{one_mover, no_mover}
use Rattle.chan_machine.proofs.queue.sort_out.Goals as goal

pub returns-in_ok-push : goal.returns-in_ok-push
returns-in_ok-push c =
    let program = c.args.program.now in
    let run = c.args.run.now in
    let name = c.args.seat.name in
    let old = c.args.movers.now.items in
    let test = moves (program_of program) (config_of program run.config) in
    let yes : test name ≡ true = search rules in
    let pushed = ap names_of c.in_ok-push.ensures.items ∙ names-push old c.args.seat in
    record {
      movers = one_mover test name (names_of old) (names_of c.push.new.self.items) pushed yes;
      parked = λ rest parked. sorted_mover program run name rest (names_of old) (names_of c.push.new.self.items) c.args.waiting.now pushed parked;
    }

pub returns-in_ok-park : goal.returns-in_ok-park
returns-in_ok-park c =
    let program = c.args.program.now in
    let run = c.args.run.now in
    let name = c.args.seat.name in
    let movers = names_of c.args.movers.now.items in
    let test = moves (program_of program) (config_of program run.config) in
    let still : test name ≡ false = search rules in
    let at : looks_at (program_of program) (run_as program run) name ≡ Some c.in-Some.channel.now = sym c.in-Some.ensures in
    record {
      movers = no_mover test name movers still;
      parked = λ rest parked. sorted_waiting program run name rest movers c.args.waiting.now c.park.new.waiting c.in-Some.channel.now still at c.in_ok-park.ensures.waits parked;
    }

pub returns-in_default : goal.returns-in_default
returns-in_default c =
    let program = c.args.program.now in
    let run = c.args.run.now in
    let name = c.args.seat.name in
    let movers = names_of c.args.movers.now.items in
    let test = moves (program_of program) (config_of program run.config) in
    let still : test name ≡ false = search rules in
    let nowhere : looks_at (program_of program) (run_as program run) name ≡ None = search rules in
    record {
      movers = no_mover test name movers still;
      parked = λ rest parked. sorted_out program run name rest movers c.args.waiting.now still nowhere parked;
    }
