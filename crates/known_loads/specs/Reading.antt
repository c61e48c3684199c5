-- Known tasks and parcels as the laws have them.
use Rattle.std.specs.Prelude.{List, map, Option, Some, None}
use Rattle.core_language.specs.Names.{Name}
use Rattle.core_language.specs.Values as core
use Rattle.core_language.specs.Steps as steps
use Rattle.core_language.specs.Rounds as rounds
use Rattle.core_programs.specs.declared.nodes.Parts.{Parts}
use Rattle.core_programs.specs.Bodies.{program_of}
use Rattle.machine_values.specs.Reading.{value_as}
use Rattle.machine_tasks.specs.Reading.{task_of}
use Rattle.known_tasks.specs.Known as known
use Rattle.known_loads.specs.declared.notes.Deed.{Deed}
use Rattle.known_loads.specs.declared.notes.Deed.TheVariants as deed
use Rattle.known_loads.specs.declared.notes.Note.{Note}
use Rattle.known_loads.specs.declared.states.Late.{Late}
use Rattle.known_loads.specs.declared.states.State.{State}
use Rattle.known_loads.specs.declared.letters.Letter.{Letter}

abbrev pub event_of : Deed → steps.Event
event_of (deed.Fork channel) = steps.Fork channel.name
event_of (deed.Send channel) = steps.Send channel.name
event_of (deed.Recv channel) = steps.Recv channel.name
event_of (deed.Print number) = steps.Print number
event_of deed.End = steps.End

-- what the task with this name did, as an entry
abbrev pub entry_of : Name → Note → rounds.Entry
entry_of name note = record { time = note.time; name = name; event = event_of note.deed }

abbrev pub late_value : Option Late → Option core.Value
late_value None = None
late_value (Some late) = Some (value_as late.value)

-- a program with the state of one of its tasks, as a known task
abbrev pub known_of : Parts × State → known.KnownTask
known_of k = record {
  program = program_of k.0;
  limit = k.1.limit;
  name = k.1.task.name;
  time = k.1.time;
  state = task_of k.0.nodes k.1.task;
  entries = map (entry_of k.1.task.name) k.1.notes.items;
  late = late_value k.1.late;
}

-- a program with what a task of it sent, as a known parcel
abbrev pub parcel_as : Parts × Letter → known.KnownParcel
parcel_as q = record { program = program_of q.0; limit = q.1.limit; channel = q.1.channel.name; value = value_as q.1.value; round = q.1.round }
