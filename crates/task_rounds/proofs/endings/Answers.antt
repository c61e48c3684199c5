use Rattle.task_rounds.proofs.Ending.{ends_unstuck, ends_well}
use Rattle.task_rounds.proofs.endings.Goals as goal

pub returns-clause-unstuck : goal.returns-clause-unstuck
returns-clause-unstuck c = ends_unstuck

pub returns-clause-well : goal.returns-clause-well
returns-clause-well c = ends_well
