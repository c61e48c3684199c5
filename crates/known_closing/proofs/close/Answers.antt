use Rattle.known_closing.proofs.Complete.{closes}
use Rattle.known_closing.proofs.close.Goals as goal

pub returns : goal.returns
returns c = closes
