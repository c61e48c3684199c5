use Rattle.std.proofs.Common.{sym}
use Rattle.machine_tasks.specs.Reading.{act_in}
use Rattle.machine_tasks.proofs.ByKind.{forks}
use Rattle.machine_tests.proofs.single_tasks.fork.Goals as goal

pub fork-requires-clause-act : goal.fork-requires-clause-act
fork-requires-clause-act c = forks (act_in c.args.program.now c.args.task) (sym c.in-Fork.ensures)
