use Rattle.std.proofs.lemmas.Result.{err_from_is_err_and}
use Rattle.chan_syntax.specs.Reading.{limit_of as written_limit}
use Rattle.outline_language.specs.Nameless.{nameless_limit, limit_fits}
use Rattle.nameless_forms.specs.Limits.{limit_of}
use Rattle.shape_readings.specs.Names.{names_in}
use Rattle.nameless_shapes.proofs.Lists.{read_put_next, read_test_next, read_test_fails}
use Rattle.shape_readings.proofs.reading.read_limits.Goals as goal

pub returns-in_err-read_limit-clause-err : goal.returns-in_err-read_limit-clause-err
returns-in_err-read_limit-clause-err c =
    let p = err_from_is_err_and c.from_residual.result c.from_residual.ensures.1 in
    rw (p.1, p.2) (λ e. read_test_fails (nameless_limit c.args.ints.now (names_in c.args.around.now)) written_limit c.args.limits.now c.loop-limit.limit-index c.limit-item.result c.loop-limit-test.true c.limit-item.is limit_fits (c.in_err-read_limit.ensures.err e) c.loop-limit.invariant.1)

pub loop-limit-preserved : goal.loop-limit-preserved
loop-limit-preserved c = (
  rw c.in_ok-push.ensures.ok (read_put_next (nameless_limit c.args.ints.now (names_in c.args.around.now)) written_limit limit_of c.args.limits.now c.loop-limit.limit-index c.limit-item.result c.loop-limit-test.true c.limit-item.is c.loop-limit.read _ c.in_ok-read_limit.ensures.ok c.loop-limit.invariant.0),
  read_test_next (nameless_limit c.args.ints.now (names_in c.args.around.now)) written_limit c.args.limits.now c.loop-limit.limit-index c.limit-item.result c.loop-limit-test.true c.limit-item.is limit_fits c.in_ok-read_limit.ensures.fits c.loop-limit.invariant.1,
)
