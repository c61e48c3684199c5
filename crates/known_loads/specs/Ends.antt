-- The ends of values and of tasks, each with the number of its cell and the name of its channel.
use Rattle.std.specs.Prelude.{ℕ, List, [], ◌∷◌, ◌++◌, flat_map}
use Rattle.core_language.specs.Names.{Name}
use Rattle.machine_values.specs.Cells.{Celled, Int, Unit, Pair, Arm, End}
use Rattle.machine_values.specs.Reading.{celled_of}
use Rattle.machine_values.specs.declared.values.Value.{Value}
use Rattle.machine_values.specs.declared.binds.Bind.{Bind}
use Rattle.machine_tasks.specs.declared.tasks.Frame.{Frame}
use Rattle.machine_tasks.specs.declared.tasks.Task.{Task}

abbrev pub ends_in : Celled → List (ℕ × Name)
ends_in (Int z) = []
ends_in Unit = []
ends_in (Pair a b) = ends_in a ++ ends_in b
ends_in (Arm i a) = ends_in a
ends_in (End c cell) = (cell, c) ∷ []

abbrev pub value_ends : Value → List (ℕ × Name)
value_ends v = ends_in (celled_of v)

abbrev pub bind_ends : List Bind → List (ℕ × Name)
bind_ends binds = flat_map (λ b. value_ends b.value) binds

abbrev pub frame_ends : List Frame → List (ℕ × Name)
frame_ends frames = flat_map (λ f. bind_ends f.binds.items) frames

abbrev pub task_ends : Task → List (ℕ × Name)
task_ends task = frame_ends task.frames.items
