use Rattle.std.proofs.Common.{◌≡◌, ◌++◌}
use Rattle.task_tables.specs.Tables.{going_in}
use Rattle.task_tables.proofs.tables.going.Given as goal

abbrev pub invariant-numbers : goal.invariant-numbers
invariant-numbers l = l.names ++ going_in l.fn.tasks l.name-iterator ≡ going_in l.fn.tasks l.fn.numbers.entries
