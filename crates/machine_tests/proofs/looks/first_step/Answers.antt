use Rattle.machine_tests.proofs.Started.{forks_at_start}
use Rattle.machine_tests.proofs.looks.first_step.Goals as goal

pub step-requires-clause-forks : goal.step-requires-clause-forks
step-requires-clause-forks c = forks_at_start c.args.program.now c.in_ok-config.config _ c.in_ok-config.ensures.value
