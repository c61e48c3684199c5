use Rattle.held_ends.proofs.Waiting.{waits_alike}
use Rattle.held_ends.proofs.laws.Goals as goal

pub returns : goal.returns
returns c = waits_alike
