use Rattle.std.proofs.Common.{rules, arith, refl}
use Rattle.machine_tasks.specs.declared.tasks.Frame.{Frame}
use Rattle.machine_tasks.proofs.Places.{written, gets_room}
use Rattle.machine_tasks.proofs.Unmoved.{reads_written}
use Rattle.machine_tasks.proofs.tasks.Task.make_room.Goals as goal

pub returns-in_err-reserve-clause-same : goal.returns-in_err-reserve-clause-same
returns-in_err-reserve-clause-same c =
    let frames = c.args.self.now.frames in
    let old = c.in-Some.frame.now in
    let new : Frame = record { node = old.node; binds = c.reserve.new.self } in
    record {
      name_is = refl;
      forks_are = refl;
      frames_are = reads_written frames.items _ old new (written frames.items _ old new (search rules) (search rules) (search rules)) refl c.reserve.ensures.items;
    }

pub returns-in_ok-reserve-clause-room : goal.returns-in_ok-reserve-clause-room
returns-in_ok-reserve-clause-room c =
    let frames = c.args.self.now.frames in
    let old = c.in-Some.frame.now in
    let new : Frame = record { node = old.node; binds = c.reserve.new.self } in
    gets_room frames.items _ c.args.count old new (written frames.items _ old new (search rules) (search rules) (search rules)) (omega (arith, c.in_ok-reserve.ensures.ok, c.reserve.ensures.len))

pub returns-in_ok-reserve-clause-same : goal.returns-in_ok-reserve-clause-same
returns-in_ok-reserve-clause-same c =
    let frames = c.args.self.now.frames in
    let old = c.in-Some.frame.now in
    let new : Frame = record { node = old.node; binds = c.reserve.new.self } in
    record {
      name_is = refl;
      forks_are = refl;
      frames_are = reads_written frames.items _ old new (written frames.items _ old new (search rules) (search rules) (search rules)) refl c.reserve.ensures.items;
    }
