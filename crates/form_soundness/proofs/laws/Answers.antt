use Rattle.form_soundness.proofs.Formed.{form_is_formed}
use Rattle.form_soundness.proofs.Example.{some_has_form}
use Rattle.form_soundness.proofs.Runs.{form_safe, form_live, form_forest, form_answer}
use Rattle.form_soundness.proofs.laws.Goals as goal

pub returns-clause-formed : goal.returns-clause-formed
returns-clause-formed c = form_is_formed

pub returns-clause-some : goal.returns-clause-some
returns-clause-some c = some_has_form

pub returns-clause-safe : goal.returns-clause-safe
returns-clause-safe c = form_safe

pub returns-clause-live : goal.returns-clause-live
returns-clause-live c = form_live

pub returns-clause-forest : goal.returns-clause-forest
returns-clause-forest c = form_forest

pub returns-clause-answer : goal.returns-clause-answer
returns-clause-answer c = form_answer
