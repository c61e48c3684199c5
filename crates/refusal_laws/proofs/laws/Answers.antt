use Rattle.refusal_laws.proofs.Within.{fault_within}
use Rattle.refusal_laws.proofs.laws.Goals as goal

pub returns : goal.returns
returns c = record { within = fault_within }
