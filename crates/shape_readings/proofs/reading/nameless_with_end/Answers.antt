use Rattle.std.proofs.Common.{◌≡◌, ap, ◌∙◌}
use Rattle.std.proofs.lemmas.Result.{err_from_is_err_and}
use Rattle.chan_syntax.specs.Reading.{ref_of, res_of}
use Rattle.outline_language.specs.Nameless.{res_fits}
use Rattle.shape_readings.specs.Ends.{message_under}
use Rattle.shape_readings.specs.Names.{names_in}
use Rattle.shape_readings.proofs.Formed.{as_too_large, as_provided}
use Rattle.shape_readings.proofs.reading.nameless_with_end.Goals as goal

pub returns-in_err-read-clause-err : goal.returns-in_err-read-clause-err
returns-in_err-read-clause-err c =
    let p = err_from_is_err_and c.from_residual-in_err-read.result c.from_residual-in_err-read.ensures.1 in
    let same : names_in c.as_slice.result.now ≡ c.args.around.now = ap names_in c.as_slice.ensures.value ∙ c.in_ok-within.ensures in
    rw (p.1, p.2) (as_too_large (res_fits (message_under c.args.ints.now c.args.around.now (res_of c.args.res.now) c.args.turned (ref_of c.args.next.now)))
    (message_under c.args.ints.now c.args.around.now (res_of c.args.res.now) c.args.turned (ref_of c.args.next.now)) c.in_err-read.field-0.0 (rw same at c.in_err-read.ensures.err))

pub returns-clause-ok : goal.returns-clause-ok
returns-clause-ok c =
    let same : names_in c.as_slice.result.now ≡ c.args.around.now = ap names_in c.as_slice.ensures.value ∙ c.in_ok-within.ensures in
    as_provided (res_fits (message_under c.args.ints.now c.args.around.now (res_of c.args.res.now) c.args.turned (ref_of c.args.next.now)))
    (message_under c.args.ints.now c.args.around.now (res_of c.args.res.now) c.args.turned (ref_of c.args.next.now)) c.in_ok-read.read (rw same at c.in_ok-read.ensures.ok) (rw same at c.in_ok-read.ensures.fits)
