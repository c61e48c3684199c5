use Rattle.spelling_laws.proofs.ReadAgain.{read_again, settled}
use Rattle.spelling_laws.proofs.laws.Goals as goal

pub returns : goal.returns
returns c = record { read_again = read_again; settled = settled }
