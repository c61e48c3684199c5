use Rattle.gathered_runs.proofs.Closing.{closed_are_complete}
use Rattle.gathered_runs.proofs.close.Goals as goal

pub returns : goal.returns
returns c = closed_are_complete
