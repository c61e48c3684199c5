use Rattle.std.proofs.lemmas.Result.{err_from_is_err_and}
use Rattle.chan_syntax.specs.Reading.{term_of}
use Rattle.outline_language.specs.LinearForms.{form_fits}
use Rattle.outline_language.specs.Nameless.{nameless_term}
use Rattle.shape_readings.specs.Names.{names_in}
use Rattle.nameless_shapes.proofs.Lists.{list_put_next, read_test_next, read_test_fails}
use Rattle.shape_readings.proofs.reading.read_forms.Goals as goal

pub returns-in_err-read_form-clause-err : goal.returns-in_err-read_form-clause-err
returns-in_err-read_form-clause-err c =
    let p = err_from_is_err_and c.from_residual.result c.from_residual.ensures.1 in
    rw (p.1, p.2) (λ e. read_test_fails (nameless_term c.args.ints.now (names_in c.args.around.now)) term_of c.args.terms.now c.loop-term.term-index c.term-item.result c.loop-term-test.true c.term-item.is form_fits (c.in_err-read_form.ensures.err e) c.loop-term.invariant.1)

pub loop-term-preserved : goal.loop-term-preserved
loop-term-preserved c = (
  rw c.in_ok-push.ensures.ok (list_put_next (nameless_term c.args.ints.now (names_in c.args.around.now)) term_of c.args.terms.now c.loop-term.term-index c.term-item.result c.loop-term-test.true c.term-item.is c.loop-term.forms _ c.in_ok-read_form.ensures.ok c.loop-term.invariant.0),
  read_test_next (nameless_term c.args.ints.now (names_in c.args.around.now)) term_of c.args.terms.now c.loop-term.term-index c.term-item.result c.loop-term-test.true c.term-item.is form_fits c.in_ok-read_form.ensures.fits c.loop-term.invariant.1,
)
