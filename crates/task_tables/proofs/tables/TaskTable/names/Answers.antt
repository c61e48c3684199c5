use Rattle.std.proofs.Common.{◌∙◌}
use Rattle.std.proofs.lemmas.Result.{IfOk-weaker}
use Rattle.task_tables.proofs.Listing.{keys_are}
use Rattle.task_tables.proofs.tables.TaskTable.names.Goals as goal

pub returns : goal.returns
returns c = IfOk-weaker c.listed.result _ _ (λ names is. is ∙ keys_are c.self.inside.names.items c.self.inside.tasks.items c.self.inside.numbers c.self.invariant c.args.self.now c.self.view_is c.listed.ensures.ordered) c.listed.ensures.names
