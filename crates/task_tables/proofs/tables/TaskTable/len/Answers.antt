use Rattle.std.proofs.Common.{ap, sym, ◌∙◌}
use Rattle.std.specs.FinMap.{len}
use Rattle.task_tables.proofs.Indexed.{differ}
use Rattle.task_tables.proofs.Rows.{row_count}
use Rattle.task_tables.proofs.tables.TaskTable.len.Goals as goal

pub returns : goal.returns
returns c =
    c.len.ensures ∙ c.self.inside.names.ok.0
    ∙ sym (row_count c.self.inside.names.items c.self.inside.tasks.items (differ c.self.inside.names.items c.self.inside.numbers c.self.invariant.numbered) c.self.invariant.as_many)
    ∙ ap len c.self.view_is
