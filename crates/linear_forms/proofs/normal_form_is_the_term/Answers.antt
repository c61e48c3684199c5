use Rattle.linear_forms.proofs.Linear.{normal_value, only_row}
use Rattle.linear_forms.proofs.normal_form_is_the_term.Goals as goal

pub returns-clause-value : goal.returns-clause-value
returns-clause-value c = normal_value

pub returns-clause-only : goal.returns-clause-only
returns-clause-only c = only_row
