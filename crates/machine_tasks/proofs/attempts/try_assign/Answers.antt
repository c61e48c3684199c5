use Rattle.machine_tasks.proofs.attempts.try_assign.Goals as goal

pub returns-in_ok-assign-in-Ok-clause-ends : goal.returns-in_ok-assign-in-Ok-clause-ends
returns-in_ok-assign-in-Ok-clause-ends c = λ test. c.in_ok-assign-in-Ok.ensures.ends test tt
