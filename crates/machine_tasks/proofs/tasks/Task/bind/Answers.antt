use Rattle.std.proofs.Common.{◌≡◌, ◌+◌, rules, arith, refl, sym, subst}
use Rattle.std.specs.Prelude.{vec_len}
use Rattle.std.proofs.lemmas.List.Elements.{All-push}
use Rattle.machine_values.specs.Ends.{BindsPass, ValuePasses}
use Rattle.machine_tasks.specs.declared.tasks.Frame.{Frame}
use Rattle.machine_tasks.proofs.Places.{written, gains, still_fits, gets_room, room_in, pushed}
use Rattle.machine_tasks.proofs.Ends.{passes_written}
use Rattle.machine_tasks.proofs.tasks.Task.bind.Goals as goal

pub returns-in-Some-clause-place : goal.returns-in-Some-clause-place
returns-in-Some-clause-place c = λ nodes.
    let frames = c.args.self.now.frames in
    let old = c.in-Some.frame.now in
    let new : Frame = record { node = old.node; binds = c.push-pushed.new.self } in
    let w = written frames.items _ old new (search rules) (search rules) (search rules) in
    let room = room_in frames.items _ 1 old new w c.requires in
    gains nodes frames.items _ old new c.args.bind w refl (pushed c.push-pushed.result _ _ _ (c.push-pushed.ensures.succeeds (omega (arith, room))) c.push-pushed.ensures.items)

pub returns-in-Some-clause-room : goal.returns-in-Some-clause-room
returns-in-Some-clause-room c = λ n more.
    let frames = c.args.self.now.frames in
    let old = c.in-Some.frame.now in
    let new : Frame = record { node = old.node; binds = c.push-pushed.new.self } in
    let w = written frames.items _ old new (search rules) (search rules) (search rules) in
    let room = room_in frames.items _ 1 old new w c.requires in
    let rest = room_in frames.items _ (n + 1) old new w more in
    let long : vec_len new.binds ≡ vec_len old.binds + 1 = pushed c.push-pushed.result _ _ _ (c.push-pushed.ensures.succeeds (omega (arith, room))) c.push-pushed.ensures.len in
    gets_room frames.items _ n old new w (omega (arith, long, rest, c.push-pushed.ensures.capacity))

pub returns-in-Some-clause-fits : goal.returns-in-Some-clause-fits
returns-in-Some-clause-fits c = λ nodes fits.
    let frames = c.args.self.now.frames in
    let old = c.in-Some.frame.now in
    let new : Frame = record { node = old.node; binds = c.push-pushed.new.self } in
    still_fits nodes frames.items _ old new (written frames.items _ old new (search rules) (search rules) (search rules)) refl fits

pub returns-in-Some-clause-ends : goal.returns-in-Some-clause-ends
returns-in-Some-clause-ends c = λ test value.
    let frames = c.args.self.now.frames in
    let old = c.in-Some.frame.now in
    let new : Frame = record { node = old.node; binds = c.push-pushed.new.self } in
    let w = written frames.items _ old new (search rules) (search rules) (search rules) in
    let room = room_in frames.items _ 1 old new w c.requires in
    passes_written test frames.items _ old new w (λ passes. subst (BindsPass test)
    (sym (pushed c.push-pushed.result _ _ _ (c.push-pushed.ensures.succeeds (omega (arith, room))) c.push-pushed.ensures.items))
    (All-push (λ b. ValuePasses test b.value) old.binds.items c.args.bind passes value))
