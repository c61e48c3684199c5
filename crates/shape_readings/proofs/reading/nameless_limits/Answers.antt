use Rattle.std.proofs.Common.{◌≡◌, map, ap, ◌∙◌}
use Rattle.std.specs.List.{list_all}
use Rattle.std.proofs.lemmas.Result.{err_from_is_err_and}
use Rattle.chan_syntax.specs.Reading.{limit_of as written_limit}
use Rattle.outline_language.specs.Nameless as nameless
use Rattle.shape_readings.specs.Names.{names_in}
use Rattle.shape_readings.proofs.Formed.{as_too_large}
use Rattle.shape_readings.proofs.reading.nameless_limits.Goals as goal

pub returns-in_err-read-clause-err : goal.returns-in_err-read-clause-err
returns-in_err-read-clause-err c =
    let p = err_from_is_err_and c.from_residual-in_err-read.result c.from_residual-in_err-read.ensures.1 in
    let same : names_in c.as_slice.result.now ≡ c.args.around.now = ap names_in c.as_slice.ensures.value ∙ c.in_ok-within.ensures in
    rw (p.1, p.2) (as_too_large (list_all nameless.limit_fits (map (nameless.nameless_limit c.args.ints.now c.args.around.now) (map written_limit c.args.limits.now))) (map (nameless.nameless_limit c.args.ints.now c.args.around.now) (map written_limit c.args.limits.now)) c.in_err-read.field-0.0 (rw same at c.in_err-read.ensures.err))
