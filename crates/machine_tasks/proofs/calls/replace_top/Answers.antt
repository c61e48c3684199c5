use Rattle.std.proofs.Common.{◌<◌, length, IfSome, rules, refl, subst}
use Rattle.machine_tasks.proofs.Places.{written, fits_at}
use Rattle.machine_tasks.specs.Ends.{FramePasses}
use Rattle.machine_tasks.proofs.Below.{tops}
use Rattle.machine_tasks.proofs.Ends.{passes_written}
use Rattle.machine_tasks.proofs.calls.replace_top.Goals as goal

pub returns-in-Some-last_mut-clause-place : goal.returns-in-Some-last_mut-clause-place
returns-in-Some-last_mut-clause-place c = λ nodes front f is. tops nodes c.args.task.now.frames.items front f c.in-Some.frame _ c.args.callee is (search rules) c.in-Some.is

pub returns-in-Some-last_mut-clause-fits : goal.returns-in-Some-last_mut-clause-fits
returns-in-Some-last_mut-clause-fits c = λ nodes stands.
    let frames = c.args.task.now.frames in
    fits_at nodes frames.items _ c.in-Some-last_mut.top.now c.in-Some.frame c.in-Some.frame.node
    (written frames.items _ c.in-Some-last_mut.top.now c.in-Some.frame (search rules) (search rules) (search rules)) refl
    (subst (λ o. IfSome o (λ x. x.node < length nodes)) c.in-Some.is stands)

pub returns-in-Some-last_mut-clause-ends : goal.returns-in-Some-last_mut-clause-ends
returns-in-Some-last_mut-clause-ends c = λ test callee passes.
    let frames = c.args.task.now.frames in
    passes_written test frames.items _ c.in-Some-last_mut.top.now c.in-Some.frame
    (written frames.items _ c.in-Some-last_mut.top.now c.in-Some.frame (search rules) (search rules) (search rules))
    (λ _. subst (λ o. IfSome o (FramePasses test)) c.in-Some.is callee) passes
