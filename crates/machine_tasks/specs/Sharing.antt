-- What forks, sends and receives of a task come to.
use Rattle.std.specs.Prelude.{◌≡◌, ℕ, suc, ◌<◌, true, length}
use Rattle.core_language.specs.Names.{Name, child}
use Rattle.core_language.specs.Values as core
use Rattle.core_language.specs.Configurations.{Place}
use Rattle.core_language.specs.Acts.{Act}
use Rattle.core_language.specs.Acts as act
use Rattle.core_programs.specs.declared.nodes.Parts.{Parts}
use Rattle.machine_values.specs.declared.values.Value.{Value}
use Rattle.machine_values.specs.Cells as cells
use Rattle.machine_values.specs.Cells.{EndTest}
use Rattle.machine_values.specs.Ends.{ValuePasses}
use Rattle.machine_values.specs.Reading.{celled_of, value_as}
use Rattle.machine_tasks.specs.declared.tasks.Task.{Task}
use Rattle.machine_tasks.specs.declared.sharing.Offspring.{Offspring}
use Rattle.machine_tasks.specs.declared.sharing.Parcel.{Parcel}
use Rattle.machine_tasks.specs.declared.sharing.Slot.{Slot}
use Rattle.machine_tasks.specs.declared.sharing.Twins.{Twins}
use Rattle.machine_tasks.specs.declared.sharing.Sending.{Sending}
use Rattle.machine_tasks.specs.Reading.{act_in, IsTask}
use Rattle.machine_tasks.specs.Ends.{TaskPasses}
use Rattle.machine_tasks.specs.Moving.{at_node, place_with}
use Rattle.machine_tasks.specs.Steps.{GoesTo, place_in}

abbrev pub IsFork : Act → Type 0
IsFork (act.Fork child parent its) = Unit {0}
IsFork other = ⊥

abbrev pub IsSend : Act → Type 0
IsSend (act.Send channel v place) = Unit {0}
IsSend other = ⊥

abbrev pub IsRecv : Act → Type 0
IsRecv (act.Recv channel place) = Unit {0}
IsRecv other = ⊥

-- the task forks this child, and goes on at the node with its end; both ends have this cell
pub record Branches (program : Parts) (task : Task) (cell : ℕ) (made : Offspring) : Type 0 where
  pub act_is : act_in program task ≡ act.Fork (child task.name task.forks)
      (place_with program.nodes made.end.name (value_as made.end.value) made.next (place_in program task)) (place_in program made.child)
  pub child_is : IsTask program made.child (child task.name task.forks) 0 (place_in program made.child)
  pub end_is : celled_of made.end.value ≡ cells.End (child task.name task.forks) cell
  pub child_ends : (test : EndTest) → test (child task.name task.forks) cell ≡ true → TaskPasses test task → TaskPasses test made.child
  pub leads : made.next < length program.nodes

-- the task sends this value, of ends that it has, and goes on at the node
pub record Sends (program : Parts) (task : Task) (parcel : Parcel) : Type 0 where
  pub channel : Name
  pub act_is : act_in program task ≡ act.Send channel (value_as parcel.value) (at_node program.nodes parcel.next (place_in program task))
  pub ends : (test : EndTest) → TaskPasses test task → ValuePasses test parcel.value
  pub leads : parcel.next < length program.nodes

-- the task receives a value for the variable, and goes on at the node
pub record Receives (program : Parts) (task : Task) (slot : Slot) : Type 0 where
  pub channel : Name
  pub act_is : act_in program task ≡ act.Recv channel (λ v. place_with program.nodes slot.name v slot.next (place_in program task))
  pub leads : slot.next < length program.nodes

-- ---- the tasks after the step

-- the ends of both tasks are the old one's and those of the new channel, which have this cell
pub record Forked (program : Parts) (old : Task) (cell : ℕ) (twins : Twins) : Type 0 where
  pub act_is : act_in program old ≡ act.Fork (child old.name old.forks) (place_in program twins.parent) (place_in program twins.child)
  pub parent_is : IsTask program twins.parent old.name (suc old.forks) (place_in program twins.parent)
  pub child_is : IsTask program twins.child (child old.name old.forks) 0 (place_in program twins.child)
  pub ends : (test : EndTest) → test (child old.name old.forks) cell ≡ true → TaskPasses test old → TaskPasses test twins.parent × TaskPasses test twins.child

-- the ends of the value and of the task are the old one's
pub record Sent (program : Parts) (old : Task) (sending : Sending) : Type 0 where
  pub channel : Name
  pub act_is : act_in program old ≡ act.Send channel (value_as sending.value) (place_in program sending.task)
  pub task_is : GoesTo program old sending.task (place_in program sending.task)
  pub ends : (test : EndTest) → TaskPasses test old → ValuePasses test sending.value × TaskPasses test sending.task

-- the task's ends are the old one's and the value's
pub record Received (program : Parts) (old : Task) (value : Value) (new : Task) : Type 0 where
  pub channel : Name
  pub place : core.Value → Place
  pub act_is : act_in program old ≡ act.Recv channel place
  pub task_is : GoesTo program old new (place (value_as value))
  pub ends : (test : EndTest) → ValuePasses test value → TaskPasses test old → TaskPasses test new
