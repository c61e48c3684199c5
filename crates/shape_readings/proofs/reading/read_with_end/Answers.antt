use Rattle.std.proofs.Common.{◌≡◌, ◌++◌, ap, ◌∙◌}
use Rattle.std.proofs.lemmas.Result.{err_from_is_err_and}
use Rattle.chan_syntax.specs.Reading.{bound_of, ref_of, shape_of}
use Rattle.shape_readings.specs.Ends.{shape_under}
use Rattle.shape_readings.specs.Names.{names_in}
use Rattle.shape_readings.proofs.Written.{limits_fail, shape_fails}
use Rattle.shape_readings.proofs.reading.read_with_end.Goals as goal

pub returns-in_err-limits-clause-err : goal.returns-in_err-limits-clause-err
returns-in_err-limits-clause-err c =
    let p = err_from_is_err_and c.from_residual-in_err-limits.result c.from_residual-in_err-limits.ensures.1 in
    let inside : names_in c.as_slice.result.now ≡ c.args.res.now.bound.names ++ names_in c.args.around.now =
    ap names_in c.as_slice.ensures.value ∙ c.in_ok-within.ensures ∙ ap (λ names. names ++ names_in c.args.around.now) c.as_slice-names.ensures in
    let fails = rw c.as_slice-2.ensures at (rw inside at c.in_err-limits.ensures.err) in
    rw (p.1, p.2) (λ e. limits_fail c.args.ints.now (names_in c.args.around.now) (bound_of c.args.res.now.bound)
    (shape_under c.args.ints.now (c.args.res.now.bound.names ++ names_in c.args.around.now) (shape_of c.args.res.now.shape) c.args.turned (ref_of c.args.next.now)) (fails e))

pub returns-in_err-shape-clause-err : goal.returns-in_err-shape-clause-err
returns-in_err-shape-clause-err c =
    let p = err_from_is_err_and c.from_residual-in_err-shape.result c.from_residual-in_err-shape.ensures.1 in
    let inside : names_in c.as_slice-3.result.now ≡ c.args.res.now.bound.names ++ names_in c.args.around.now =
    ap names_in c.as_slice-3.ensures.value ∙ c.in_ok-within.ensures ∙ ap (λ names. names ++ names_in c.args.around.now) c.as_slice-names.ensures in
    let fails = rw inside at c.in_err-shape.ensures.err in
    rw (p.1, p.2) (λ e. shape_fails c.args.ints.now (names_in c.args.around.now) (bound_of c.args.res.now.bound)
    (shape_under c.args.ints.now (c.args.res.now.bound.names ++ names_in c.args.around.now) (shape_of c.args.res.now.shape) c.args.turned (ref_of c.args.next.now)) (fails e))
