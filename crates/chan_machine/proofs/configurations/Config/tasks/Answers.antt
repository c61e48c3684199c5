use Rattle.std.proofs.Common.{◌∙◌}
use Rattle.task_tables.proofs.Reading.{keys-tasks_of}
use Rattle.chan_machine.proofs.configurations.Config.tasks.Goals as goal

pub returns : goal.returns
returns c = λ program. c.in_ok-names.ensures ∙ keys-tasks_of program c.args.self.now.tasks
