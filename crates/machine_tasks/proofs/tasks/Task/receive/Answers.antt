use Rattle.std.proofs.Common.{sym, subst, ◌∙◌}
use Rattle.machine_tasks.specs.Moving.{place_with}
use Rattle.machine_tasks.specs.Sharing.{IsRecv}
use Rattle.machine_tasks.specs.Steps.{place_in}
use Rattle.machine_tasks.proofs.Places.{act_same}
use Rattle.machine_tasks.proofs.Unmoved.{unmoved_fits, unmoved_passes, unmoved_place}
use Rattle.machine_tasks.proofs.tasks.Task.receive.Goals as goal

pub slot-requires : goal.slot-requires
slot-requires c =
    let program = c.args.program.now in
    let same = c.make_room.ensures.same in
    record {
      fits = unmoved_fits program c.args.self c.make_room.new.self same c.requires.fits;
      act = subst IsRecv (sym (act_same program c.args.self c.make_room.new.self same.name_is same.forks_are (unmoved_place program c.args.self c.make_room.new.self same))) c.requires.act;
    }

pub returns-in-Ok-clause-ok : goal.returns-in-Ok-clause-ok
returns-in-Ok-clause-ok c =
    let program = c.args.program.now in
    let old = c.args.self in
    let room = c.make_room.new.self in
    let same = c.make_room.ensures.same in
    let slot = c.in-Ok.slot in
    let got = c.in-Ok.ensures in
    let goes = c.accept.ensures.goes in
    record {
      channel = got.channel;
      place = λ v. place_with program.nodes slot.name v slot.next (place_in program room);
      act_is = sym (act_same program old room same.name_is same.forks_are (unmoved_place program old room same)) ∙ got.act_is;
      task_is = record { name_is = goes.name_is ∙ same.name_is; forks_are = goes.forks_are ∙ same.forks_are; place_is = goes.place_is; fits = goes.fits };
      ends = λ test value passes. c.accept.ensures.ends test value (unmoved_passes test old room same passes);
    }

pub accept-requires-clause-fits : goal.accept-requires-clause-fits
accept-requires-clause-fits c = unmoved_fits c.args.program.now c.args.self c.make_room.new.self c.make_room.ensures.same c.requires.fits
