use Rattle.std.proofs.Common.{sym, ◌∙◌}
use Rattle.std.proofs.lemmas.Result.{err_from_is_err_and}
use Rattle.outline_obligations.specs.Cursors.{cursor_at}
use Rattle.outline_obligations.proofs.Reasons.{reason_to}
use Rattle.outline_obligations.proofs.Steps.{step_ok, step_err}
use Rattle.outline_contexts.specs.Growing.{limit_forms}
use Rattle.outline_contexts.specs.Trails.{context_in}
use Rattle.outline_instances.proofs.ShownLimits.{limits_shown, limit_shown, one_limit}
use Rattle.outline_instances.proofs.limits.oblige_limits.Goals as goal

pub loop-limit-preserved : goal.loop-limit-preserved
loop-limit-preserved c =
    let says = limit_forms c.args.forms.now in
    let ctx = context_in c.args.ctx.now in
    sym (step_ok (limits_shown says ctx) (limit_shown says ctx) (one_limit says ctx) (cursor_at c.args.proof.now c.loop-limit.now) (cursor_at c.args.proof.now c.in_ok-now.now)
    c.args.limits.now c.loop-limit.limit-index c.limit-item.result c.loop-limit-test.true c.limit-item.is c.in_ok-now.ensures.ok)
    ∙ c.loop-limit.invariant

pub returns-in_err-now-clause-err : goal.returns-in_err-now-clause-err
returns-in_err-now-clause-err c =
    let says = limit_forms c.args.forms.now in
    let ctx = context_in c.args.ctx.now in
    let p = err_from_is_err_and c.from_residual.result c.from_residual.ensures.1 in
    rw (p.1, p.2) (reason_to _ _ (λ w e. sym c.loop-limit.invariant
    ∙ step_err (limits_shown says ctx) (limit_shown says ctx) (one_limit says ctx) (cursor_at c.args.proof.now c.loop-limit.now) w
    c.args.limits.now c.loop-limit.limit-index c.limit-item.result c.loop-limit-test.true c.limit-item.is e) _ c.in_err-now.ensures.err)
