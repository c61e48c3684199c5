use Rattle.std.proofs.Common.{◌≡◌, ap, ◌∙◌}
use Rattle.std.proofs.lemmas.Result.{err_from_is_err_and}
use Rattle.chan_syntax.specs.Reading.{term_of}
use Rattle.outline_language.specs.LinearForms.{form_fits}
use Rattle.outline_language.specs.Nameless as nameless
use Rattle.shape_readings.specs.Names.{names_in}
use Rattle.shape_readings.proofs.Formed.{as_formed, as_too_large}
use Rattle.shape_readings.proofs.reading.nameless_term.Goals as goal

pub returns-in_err-read-clause-err : goal.returns-in_err-read-clause-err
returns-in_err-read-clause-err c =
    let p = err_from_is_err_and c.from_residual-in_err-read.result c.from_residual-in_err-read.ensures.1 in
    let same : names_in c.as_slice.result.now ≡ c.args.around.now = ap names_in c.as_slice.ensures.value ∙ c.in_ok-within.ensures in
    rw (p.1, p.2) (as_too_large (form_fits (nameless.nameless_term c.args.ints.now c.args.around.now (term_of c.args.term.now))) (nameless.nameless_term c.args.ints.now c.args.around.now (term_of c.args.term.now)) c.in_err-read.field-0.0 (rw same at c.in_err-read.ensures.err))

pub returns-clause-ok : goal.returns-clause-ok
returns-clause-ok c =
    let same : names_in c.as_slice.result.now ≡ c.args.around.now = ap names_in c.as_slice.ensures.value ∙ c.in_ok-within.ensures in
    as_formed (nameless.nameless_term c.args.ints.now c.args.around.now (term_of c.args.term.now)) c.in_ok-read.read (rw same at c.in_ok-read.ensures.ok) (rw same at c.in_ok-read.ensures.fits)
