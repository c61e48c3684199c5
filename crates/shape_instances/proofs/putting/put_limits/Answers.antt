use Rattle.std.proofs.Common.{◌∙◌}
use Rattle.std.proofs.lemmas.Result.{err_from_is_err_and}
use Rattle.outline_language.specs.Nameless.{limit_with, limit_fits}
use Rattle.nameless_forms.specs.Limits.{limit_of}
use Rattle.nameless_shapes.proofs.Lists.{read_put_next, read_test_next, read_test_fails}
use Rattle.shape_instances.proofs.putting.put_limits.Goals as goal

pub returns-in_err-put_limit-clause-err : goal.returns-in_err-put_limit-clause-err
returns-in_err-put_limit-clause-err c =
    let p = err_from_is_err_and c.from_residual.result c.from_residual.ensures.1 in
    rw (p.1, p.2) (λ e. read_test_fails (limit_with c.args.instances.now c.args.depth) limit_of c.args.limits.now c.loop-limit.limit-index c.limit-item.result c.loop-limit-test.true c.limit-item.is limit_fits (c.in_err-put_limit.ensures.err e) c.loop-limit.invariant.1)

pub loop-limit-preserved : goal.loop-limit-preserved
loop-limit-preserved c = (
  rw c.in_ok-push.ensures.ok (read_put_next (limit_with c.args.instances.now c.args.depth) limit_of limit_of c.args.limits.now c.loop-limit.limit-index c.limit-item.result c.loop-limit-test.true c.limit-item.is c.loop-limit.put _ c.in_ok-put_limit.ensures.ok c.loop-limit.invariant.0),
  read_test_next (limit_with c.args.instances.now c.args.depth) limit_of c.args.limits.now c.loop-limit.limit-index c.limit-item.result c.loop-limit-test.true c.limit-item.is limit_fits c.in_ok-put_limit.ensures.fits c.loop-limit.invariant.1,
)
