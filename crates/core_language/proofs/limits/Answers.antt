use Rattle.core_language.proofs.Halting.{halts_or_steps}
use Rattle.core_language.proofs.limits.Goals as goal

pub returns : goal.returns
returns c = halts_or_steps
