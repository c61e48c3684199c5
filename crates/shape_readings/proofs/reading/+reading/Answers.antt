use Rattle.std.proofs.Common.{◌≡◌, ◌++◌, map, ap, ◌∙◌}
use Rattle.std.proofs.lemmas.Result.{err_from_is_err_and}
use Rattle.chan_syntax.specs.Reading.{bound_of, shape_of, res_of}
use Rattle.chan_syntax.proofs.Rows.{shape_pair as pair_of, shape_sum as sum_of}
use Rattle.outline_language.specs.Nameless.{nameless_shape, nameless_res, res_fits}
use Rattle.shape_readings.specs.Names.{names_in}
use Rattle.nameless_shapes.proofs.Lists.{list_put_next, read_test_next, read_test_fails}
use Rattle.shape_readings.proofs.Written.{sum_read, sum_fits, sum_fails, pair_read, pair_fits, second_fails, limits_fail, shape_fails}
use Rattle.shape_readings.proofs.reading.+reading.Goals as goal

pub read_shape-returns-in_err-arms-in-Sum-clause-err : goal.read_shape-returns-in_err-arms-in-Sum-clause-err
read_shape-returns-in_err-arms-in-Sum-clause-err t c =
    let p = err_from_is_err_and c.from_residual-in_err-arms-in-Sum.result c.from_residual-in_err-arms-in-Sum.ensures.1 in
    rw (p.1, p.2) (λ e. sum_fails c.args.ints.now (names_in c.args.around.now) (shape_of c.args.shape.now) (map res_of c.in-Sum.arms) (ap shape_of c.in-Sum.is ∙ sum_of c.in-Sum.arms) (rw c.as_slice.ensures at c.in_err-arms-in-Sum.ensures.err e))

pub read_shape-returns-in_ok-sum-in-Sum-clause-ok : goal.read_shape-returns-in_ok-sum-in-Sum-clause-ok
read_shape-returns-in_ok-sum-in-Sum-clause-ok t c =
    sum_read c.args.ints.now (names_in c.args.around.now) (shape_of c.args.shape.now) (map res_of c.in-Sum.arms) (ap shape_of c.in-Sum.is ∙ sum_of c.in-Sum.arms)
    c.in_ok-arms-in-Sum.arms c.in_ok-sum-in-Sum.field-0 c.in_ok-sum-in-Sum.ensures (rw c.as_slice.ensures at c.in_ok-arms-in-Sum.ensures.ok)

pub read_shape-returns-in_ok-sum-in-Sum-clause-fits : goal.read_shape-returns-in_ok-sum-in-Sum-clause-fits
read_shape-returns-in_ok-sum-in-Sum-clause-fits t c =
    sum_fits c.args.ints.now (names_in c.args.around.now) (shape_of c.args.shape.now) (map res_of c.in-Sum.arms) (ap shape_of c.in-Sum.is ∙ sum_of c.in-Sum.arms) (rw c.as_slice.ensures at c.in_ok-arms-in-Sum.ensures.fits)

pub read_resources-returns-in_err-read_res-clause-err : goal.read_resources-returns-in_err-read_res-clause-err
read_resources-returns-in_err-read_res-clause-err t c =
    let p = err_from_is_err_and c.from_residual.result c.from_residual.ensures.1 in
    rw (p.1, p.2) (λ e. read_test_fails (nameless_res c.args.ints.now (names_in c.args.around.now)) res_of c.args.resources.now c.loop-resource.resource-index c.resource-item.result c.loop-resource-test.true c.resource-item.is res_fits (c.in_err-read_res.ensures.err e) c.loop-resource.invariant.1)

pub read_resources-loop-resource-preserved : goal.read_resources-loop-resource-preserved
read_resources-loop-resource-preserved t c = (
  rw c.in_ok-push.ensures.ok (list_put_next (nameless_res c.args.ints.now (names_in c.args.around.now)) res_of c.args.resources.now c.loop-resource.resource-index c.resource-item.result c.loop-resource-test.true c.resource-item.is c.loop-resource.read _ c.in_ok-read_res.ensures.ok c.loop-resource.invariant.0),
  read_test_next (nameless_res c.args.ints.now (names_in c.args.around.now)) res_of c.args.resources.now c.loop-resource.resource-index c.resource-item.result c.loop-resource-test.true c.resource-item.is res_fits c.in_ok-read_res.ensures.fits c.loop-resource.invariant.1,
)

pub read_shape-returns-in_err-second-in-Pair-clause-err : goal.read_shape-returns-in_err-second-in-Pair-clause-err
read_shape-returns-in_err-second-in-Pair-clause-err t c =
    let p = err_from_is_err_and c.from_residual-in_err-second-in-Pair.result c.from_residual-in_err-second-in-Pair.ensures.1 in
    rw (p.1, p.2) (λ e. second_fails c.args.ints.now (names_in c.args.around.now) (shape_of c.args.shape.now) (res_of c.in-Pair.first) (res_of c.in-Pair.second) (ap shape_of c.in-Pair.is ∙ pair_of c.in-Pair.first c.in-Pair.second)
    (rw c.get.ensures at c.in_ok-first-in-Pair.ensures.fits) (rw c.get-in-Pair.ensures at c.in_err-second-in-Pair.ensures.err e))

pub read_shape-returns-in_ok-pair-in-Pair-clause-ok : goal.read_shape-returns-in_ok-pair-in-Pair-clause-ok
read_shape-returns-in_ok-pair-in-Pair-clause-ok t c =
    pair_read c.args.ints.now (names_in c.args.around.now) (shape_of c.args.shape.now) (res_of c.in-Pair.first) (res_of c.in-Pair.second) (ap shape_of c.in-Pair.is ∙ pair_of c.in-Pair.first c.in-Pair.second)
    c.in_ok-first-in-Pair.first c.in_ok-second-in-Pair.second c.in_ok-pair-in-Pair.field-0 c.in_ok-pair-in-Pair.ensures (rw c.get.ensures at c.in_ok-first-in-Pair.ensures.ok) (rw c.get-in-Pair.ensures at c.in_ok-second-in-Pair.ensures.ok)

pub read_shape-returns-in_ok-pair-in-Pair-clause-fits : goal.read_shape-returns-in_ok-pair-in-Pair-clause-fits
read_shape-returns-in_ok-pair-in-Pair-clause-fits t c =
    pair_fits c.args.ints.now (names_in c.args.around.now) (shape_of c.args.shape.now) (res_of c.in-Pair.first) (res_of c.in-Pair.second) (ap shape_of c.in-Pair.is ∙ pair_of c.in-Pair.first c.in-Pair.second)
    (rw c.get.ensures at c.in_ok-first-in-Pair.ensures.fits) (rw c.get-in-Pair.ensures at c.in_ok-second-in-Pair.ensures.fits)

pub read_res-returns-in_err-limits-clause-err : goal.read_res-returns-in_err-limits-clause-err
read_res-returns-in_err-limits-clause-err t c =
    let p = err_from_is_err_and c.from_residual-in_err-limits.result c.from_residual-in_err-limits.ensures.1 in
    let inside : names_in c.as_slice.result.now ≡ c.args.res.now.bound.names ++ names_in c.args.around.now =
    ap names_in c.as_slice.ensures.value ∙ c.in_ok-within.ensures ∙ ap (λ names. names ++ names_in c.args.around.now) c.as_slice-names.ensures in
    let fails = rw c.as_slice-2.ensures at (rw inside at c.in_err-limits.ensures.err) in
    rw (p.1, p.2) (λ e. limits_fail c.args.ints.now (names_in c.args.around.now) (bound_of c.args.res.now.bound)
    (nameless_shape c.args.ints.now (c.args.res.now.bound.names ++ names_in c.args.around.now) (shape_of c.args.res.now.shape)) (fails e))

pub read_res-returns-in_err-shape-clause-err : goal.read_res-returns-in_err-shape-clause-err
read_res-returns-in_err-shape-clause-err t c =
    let p = err_from_is_err_and c.from_residual-in_err-shape.result c.from_residual-in_err-shape.ensures.1 in
    let inside : names_in c.as_slice-3.result.now ≡ c.args.res.now.bound.names ++ names_in c.args.around.now =
    ap names_in c.as_slice-3.ensures.value ∙ c.in_ok-within.ensures ∙ ap (λ names. names ++ names_in c.args.around.now) c.as_slice-names.ensures in
    let fails = rw inside at c.in_err-shape.ensures.err in
    rw (p.1, p.2) (λ e. shape_fails c.args.ints.now (names_in c.args.around.now) (bound_of c.args.res.now.bound)
    (nameless_shape c.args.ints.now (c.args.res.now.bound.names ++ names_in c.args.around.now) (shape_of c.args.res.now.shape)) (fails e))
