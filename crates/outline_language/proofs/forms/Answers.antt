use Rattle.outline_language.proofs.OneForm.{one_form}
use Rattle.outline_language.proofs.Sums.{sums_canonical}
use Rattle.outline_language.proofs.forms.Goals as goal

pub returns-clause-one : goal.returns-clause-one
returns-clause-one c = one_form

pub returns-clause-sums : goal.returns-clause-sums
returns-clause-sums c = sums_canonical
