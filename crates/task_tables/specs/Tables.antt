-- Tables of tasks as finite maps from names, and as the core language has them.
use Rattle.std.specs.Prelude.{◌≡◌, ℕ, Bool, false, not, List, filter, map, Option, Some, None}
use Rattle.std.specs.List.{slice_get}
use Rattle.std.specs.declared.cmp.Ordering.{Ordering}
use Rattle.std.specs.FinMap.{FinMap, entries, from_entries, get, insert}
use Rattle.core_language.specs.Names.{Name, NameMap}
use Rattle.core_language.specs.Configurations as configuration
use Rattle.core_language.specs.Endings.{is_nil}
use Rattle.core_programs.specs.declared.nodes.Parts.{Parts}
use Rattle.machine_tasks.specs.declared.tasks.Task.{Task}
use Rattle.machine_tasks.specs.Reading.{task_of}

-- what has the name, where anything has it
abbrev pub looked_up : {X : Type 0} (R : Name → Name → Ordering) → FinMap R X → Name → Option X
looked_up R m p = get m p

-- the tasks as the core language has them
abbrev pub tasks_of : Parts → NameMap Task → NameMap configuration.Task
tasks_of program tasks = from_entries (map (λ e. (e.0, task_of program.nodes e.1)) (entries tasks))

-- the task with the name stands at the place now and has made so many forks; the others are as before
abbrev pub MovesTo : Parts → NameMap Task → NameMap Task → Name → configuration.Place → ℕ → Type 0
MovesTo program before after p place forks = tasks_of program after ≡ insert (tasks_of program before) p (record { place = place; forks = forks })

-- each task stands where it stood and has made as many forks
abbrev pub AreUnmoved : Parts → NameMap Task → NameMap Task → Type 0
AreUnmoved program before after = tasks_of program after ≡ tasks_of program before

-- there is a task, and it has not ended
abbrev pub goes_on : Option Task → Bool
goes_on None = false
goes_on (Some task) = not (is_nil task.frames.items)

-- the names of the tasks that have not ended, by their numbers
abbrev pub going_in : List Task → List (Name × ℕ) → List Name
going_in tasks es = map (λ e. e.0) (filter (λ e. goes_on (slice_get tasks e.1)) es)
