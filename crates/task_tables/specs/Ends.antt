-- Which ends the tasks of a table have.
use Rattle.std.specs.Prelude.{◌≡◌, Some}
use Rattle.std.specs.FinMap.{get}
use Rattle.core_language.specs.Names.{Name, NameMap}
use Rattle.machine_values.specs.Cells.{EndTest}
use Rattle.machine_tasks.specs.declared.tasks.Task.{Task}
use Rattle.machine_tasks.specs.Ends.{TaskPasses}

-- each end of the tasks passes the test
abbrev pub TasksPass : EndTest → NameMap Task → Type 0
TasksPass test tasks = (p : Name) (t : Task) → get tasks p ≡ Some t → TaskPasses test t

-- no end of the tasks is new
abbrev pub NoneNew : NameMap Task → NameMap Task → Type 0
NoneNew before after = (test : EndTest) → TasksPass test before → TasksPass test after
