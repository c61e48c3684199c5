use Rattle.lowered_forms.proofs.Cores.{desugars_to_core}
use Rattle.lowered_forms.proofs.Passed.{passed_fit}
use Rattle.lowered_forms.proofs.laws.Goals as goal

pub returns-clause-core : goal.returns-clause-core
returns-clause-core c = desugars_to_core

pub returns-clause-fit : goal.returns-clause-fit
returns-clause-fit c = passed_fit
