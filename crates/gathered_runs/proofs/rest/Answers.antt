use Rattle.gathered_runs.proofs.Gathering.{gathers_the_run, makes_the_run}
use Rattle.gathered_runs.proofs.rest.Goals as goal

pub returns-clause-gathers : goal.returns-clause-gathers
returns-clause-gathers c = gathers_the_run

pub returns-clause-makes : goal.returns-clause-makes
returns-clause-makes c = makes_the_run
