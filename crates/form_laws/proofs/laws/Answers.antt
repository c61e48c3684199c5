use Rattle.form_laws.proofs.OneFault.{one_outcome}
use Rattle.form_laws.proofs.laws.Goals as goal

pub returns : goal.returns
returns c = one_outcome
