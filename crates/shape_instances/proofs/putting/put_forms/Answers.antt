use Rattle.std.proofs.Common.{◌∙◌}
use Rattle.std.proofs.lemmas.Result.{err_from_is_err_and}
use Rattle.outline_language.specs.LinearForms.{form_fits}
use Rattle.outline_language.specs.Nameless.{form_with}
use Rattle.nameless_shapes.proofs.Lists.{put_next, test_next, test_fails}
use Rattle.shape_instances.proofs.putting.put_forms.Goals as goal

pub returns-in_err-put_form-clause-err : goal.returns-in_err-put_form-clause-err
returns-in_err-put_form-clause-err c =
    let p = err_from_is_err_and c.from_residual.result c.from_residual.ensures.1 in
    rw (p.1, p.2) (λ e. test_fails (form_with c.args.instances.now c.args.depth) c.args.forms.now c.loop-form.form-index c.form-item.result c.loop-form-test.true c.form-item.is form_fits (c.in_err-put_form.ensures.err e) c.loop-form.invariant.1)

pub loop-form-preserved : goal.loop-form-preserved
loop-form-preserved c = (
  rw c.in_ok-push.ensures.ok (put_next (form_with c.args.instances.now c.args.depth) c.args.forms.now c.loop-form.form-index c.form-item.result c.loop-form-test.true c.form-item.is c.loop-form.put _ c.in_ok-put_form.ensures.ok c.loop-form.invariant.0),
  test_next (form_with c.args.instances.now c.args.depth) c.args.forms.now c.loop-form.form-index c.form-item.result c.loop-form-test.true c.form-item.is form_fits c.in_ok-put_form.ensures.fits c.loop-form.invariant.1,
)
