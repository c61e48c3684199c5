use Rattle.std.proofs.Common.{◌≡◌, get_or, ◌-◌, ◌<◌, length, rules, refl, sym, ap, map, subst, arith}
use Rattle.std.proofs.lemmas.List.Elements.{All-get_or, All-push, All-set}
use Rattle.std.specs.Prelude.{IfSome}
use Rattle.machine_tasks.specs.declared.tasks.Frame.{Frame}
use Rattle.machine_tasks.specs.Ends.{FramePasses, FramesPass}
use Rattle.machine_tasks.specs.Steps.{frame_read}
use Rattle.machine_tasks.proofs.Places.{on_err}
use Rattle.machine_tasks.proofs.Below.{raises, raises_fit}
use Rattle.machine_tasks.proofs.calls.put_above.Goals as goal

pub returns-in-Some-get_mut-clause-ok : goal.returns-in-Some-get_mut-clause-ok
returns-in-Some-get_mut-clause-ok c = λ front f is call.
    let nodes = c.args.program.now.nodes in
    let before = c.args.task.now.frames.items in
    let got = c.in-Some-get_mut.frame.now in
    let h : Frame = record { node = got.node; binds = c.keep.new.binds } in
    record {
      name_is = refl;
      forks_are = refl;
      place_is = raises nodes before c.push.new.self.items front f c.in-Some.frame got h c.len-caller.result c.args.next c.args.callee is c.in_ok-push-in-Some.ensures.items (search rules) c.in-Some.is (search rules) refl c.keep.ensures.kept;
      fits = raises_fit nodes before c.push.new.self.items front f c.in-Some.frame got h c.len-caller.result c.args.next c.args.callee is c.in_ok-push-in-Some.ensures.items (search rules) c.in-Some.is (search rules) refl c.keep.ensures.kept
          call c.requires.stands c.requires.fits;
    }

pub returns-in-Some-get_mut-clause-ends : goal.returns-in-Some-get_mut-clause-ends
returns-in-Some-get_mut-clause-ends c = λ test callee passes.
    let after = c.push.new.self.items in
    let got = c.in-Some-get_mut.frame.now in
    let h : Frame = record { node = got.node; binds = c.keep.new.binds } in
    let top = subst (λ o. IfSome o (FramePasses test)) c.in-Some.is callee in
    let all = subst (FramesPass test) (sym c.in_ok-push-in-Some.ensures.items) (All-push (FramePasses test) c.args.task.now.frames.items c.in-Some.frame passes top) in
    let at : c.len-caller.result - 1 < length after = search rules in
    let is : got ≡ get_or after (c.len-caller.result - 1) got = search rules in
    let read = subst (FramePasses test) (sym is) (All-get_or (FramePasses test) after (c.len-caller.result - 1) got at all) in
    All-set (FramePasses test) after (c.len-caller.result - 1) h (c.keep.ensures.ends test read) all

pub returns-in_err-push-in-Some-clause-err : goal.returns-in_err-push-in-Some-clause-err
returns-in_err-push-in-Some-clause-err c = on_err c.from_residual.result _ (record { name_is = refl; forks_are = refl; frames_are = ap (map frame_read) c.in_err-push-in-Some.ensures.items })
