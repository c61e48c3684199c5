use Rattle.std.proofs.Common.{sym}
use Rattle.machine_tasks.specs.Reading.{act_in}
use Rattle.machine_tasks.proofs.ByKind.{sends}
use Rattle.machine_tests.proofs.single_tasks.send.Goals as goal

pub send-requires-clause-act : goal.send-requires-clause-act
send-requires-clause-act c = sends (act_in c.args.program.now c.args.task) (sym c.in-Send.ensures)
