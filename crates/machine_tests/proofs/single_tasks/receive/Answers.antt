use Rattle.std.proofs.Common.{sym}
use Rattle.machine_tasks.specs.Reading.{act_in}
use Rattle.machine_tasks.proofs.ByKind.{receives}
use Rattle.machine_tests.proofs.single_tasks.receive.Goals as goal

pub receive-requires-clause-act : goal.receive-requires-clause-act
receive-requires-clause-act c = receives (act_in c.args.program.now c.args.task) (sym c.in-Recv.ensures)
