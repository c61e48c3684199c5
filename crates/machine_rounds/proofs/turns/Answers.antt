use Rattle.machine_rounds.proofs.Local.{local_turns}
use Rattle.machine_rounds.proofs.turns.Goals as goal

pub returns : goal.returns
returns c = record { local = local_turns }
