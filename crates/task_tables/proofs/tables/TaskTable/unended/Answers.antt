use Rattle.std.proofs.Common.{List, ap, ◌∙◌}
use Rattle.std.proofs.lemmas.Result.{IfOk-weaker}
use Rattle.machine_tasks.specs.declared.tasks.Task.{Task}
use Rattle.task_tables.specs.Tables.{going_in}
use Rattle.task_tables.proofs.Listing.{going_are}
use Rattle.task_tables.proofs.tables.TaskTable.unended.Goals as goal

pub returns : goal.returns
returns c = IfOk-weaker c.going.result _ _ (λ names is.
    is ∙ ap (λ (ts : List Task). going_in ts c.self.inside.numbers.entries) c.as_slice.ensures.value
    ∙ going_are c.self.inside.names.items c.self.inside.tasks.items c.self.inside.numbers c.self.invariant c.args.self.now c.self.view_is c.going.ensures.ordered c.going.ensures.found) c.going.ensures.names
