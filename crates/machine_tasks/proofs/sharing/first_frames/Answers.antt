use Rattle.std.proofs.Common.{sym, subst}
use Rattle.std.specs.Prelude.{IfSome}
use Rattle.std.specs.Global.{Vec}
use Rattle.std.proofs.lemmas.List.Elements.{All-cons, All-nil, All-push}
use Rattle.machine_values.specs.Ends.{ValuePasses, ValuesPass}
use Rattle.machine_tasks.specs.declared.tasks.Frame.{Frame}
use Rattle.machine_tasks.specs.Ends.{FramePasses, FramesPass}
use Rattle.machine_tasks.proofs.sharing.first_frames.Goals.{in-Some+in_ok-push, in_default}
use Rattle.machine_tasks.proofs.sharing.first_frames.Goals as goal

pub returns-clause-ends : goal.returns-clause-ends
returns-clause-ends c = λ test end values.
    let all = subst (ValuesPass test) (sym c.in_ok-insert.ensures.items) (All-cons (ValuePasses test) c.args.end c.args.values.items end values) in
    let none = subst (FramesPass test) (sym c.new-frames.ensures.items) (All-nil (FramePasses test)) in
    elim c.match-branch-3.branch [
      | in-Some+in_ok-push w ↦ subst (λ (fs : Vec Frame). FramesPass test fs.items) (sym w.frames-is)
          (subst (FramesPass test) (sym w.in_ok-push.ensures.items)
          (All-push (FramePasses test) c.new-frames.result.items w.in-Some.frame none (subst (λ o. IfSome o (FramePasses test)) w.in-Some.is (c.in_ok-frame.ensures.ends test all))))
      | in_default w ↦ subst (λ (fs : Vec Frame). FramesPass test fs.items) (sym w.frames-is) none
    ]
