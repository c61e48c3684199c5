use Rattle.std.proofs.Common.{sym, ◌∙◌}
use Rattle.std.proofs.lemmas.Result.{err_from_is_err_and}
use Rattle.outline_obligations.proofs.Reasons.{reason_to}
use Rattle.outline_obligations.proofs.Steps.{step_ok, step_err}
use Rattle.outline_contexts.specs.Growing.{limit_forms}
use Rattle.outline_contexts.specs.Trails.{context_in}
use Rattle.outline_contexts.proofs.Adding.{limits_added, limit_added, one_limit}
use Rattle.outline_contexts.proofs.Trails.{after_trans}
use Rattle.outline_contexts.proofs.trail.Context.assume_limits.Goals as goal

pub loop-limit-preserved : goal.loop-limit-preserved
loop-limit-preserved c =
    let says = limit_forms c.args.instances.now in
    record {
      rest = sym (step_ok (limits_added says) (limit_added says) (one_limit says) (context_in c.loop-limit.self) (context_in c.assume_limit.new.self) c.args.limits.now c.loop-limit.limit-index c.limit-item.result c.loop-limit-test.true c.limit-item.is c.in_ok-assume_limit.ensures.ok)
          ∙ c.loop-limit.invariant.rest;
      after = after_trans _ _ _ c.loop-limit.invariant.after c.assume_limit.ensures.after;
    }

pub returns-in_err-assume_limit-clause-err : goal.returns-in_err-assume_limit-clause-err
returns-in_err-assume_limit-clause-err c =
    let says = limit_forms c.args.instances.now in
    let p = err_from_is_err_and c.from_residual.result c.from_residual.ensures.1 in
    rw (p.1, p.2) (reason_to _ _ (λ w e. sym c.loop-limit.invariant.rest
    ∙ step_err (limits_added says) (limit_added says) (one_limit says) (context_in c.loop-limit.self) w c.args.limits.now c.loop-limit.limit-index c.limit-item.result c.loop-limit-test.true c.limit-item.is e) _ c.in_err-assume_limit.ensures.err)
