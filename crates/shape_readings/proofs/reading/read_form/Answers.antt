use Rattle.chan_syntax.specs.Reading.{term_of}
use Rattle.outline_language.specs.Nameless.{nameless_term}
use Rattle.shape_readings.specs.Names.{names_in}
use Rattle.shape_readings.proofs.Formed.{formed_is, formed_fits, unformed}
use Rattle.shape_readings.proofs.reading.read_form.Goals as goal

pub returns-clause-ok : goal.returns-clause-ok
returns-clause-ok c =
    formed_is (nameless_term c.args.ints.now (names_in c.args.around.now) (term_of c.args.term.now)) c.form_of_term.result c.form_of_term.ensures.ok

pub returns-clause-fits : goal.returns-clause-fits
returns-clause-fits c =
    formed_fits (nameless_term c.args.ints.now (names_in c.args.around.now) (term_of c.args.term.now)) c.form_of_term.result c.form_of_term.ensures.ok

pub returns-clause-err : goal.returns-clause-err
returns-clause-err c =
    unformed (nameless_term c.args.ints.now (names_in c.args.around.now) (term_of c.args.term.now)) c.form_of_term.result c.form_of_term.ensures.err
