use Rattle.task_rounds.proofs.Laws.{runs_are_told, movers_step, others_stay, values_stay}
use Rattle.task_rounds.proofs.rounds.Goals as goal

pub returns-clause-told : goal.returns-clause-told
returns-clause-told c = runs_are_told

pub returns-clause-steps : goal.returns-clause-steps
returns-clause-steps c = movers_step

pub returns-clause-stays : goal.returns-clause-stays
returns-clause-stays c = others_stay

pub returns-clause-values : goal.returns-clause-values
returns-clause-values c = values_stay
