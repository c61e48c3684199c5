use Rattle.std.proofs.Common.{sym}
use Rattle.machine_tasks.specs.Reading.{act_in}
use Rattle.machine_tasks.proofs.ByKind.{prints}
use Rattle.machine_tests.proofs.single_tasks.print.Goals as goal

pub quiet-requires-clause-act : goal.quiet-requires-clause-act
quiet-requires-clause-act c = prints (act_in c.args.program.now c.args.task) _ (sym c.in-Print.ensures)
