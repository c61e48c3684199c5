-- The machine's steps and configurations as the core language has them.
use Rattle.std.specs.Prelude.{ℤ, List, map, Option, Some, None}
use Rattle.std.specs.Ordering.{nat_cmp}
use Rattle.std.specs.Cmp.Lexicographic.{slice_cmp}
use Rattle.std.specs.FinMap.{from_entries}
use Rattle.std.specs.BTreeMap.{BTreeMap}
use Rattle.std.specs.Option.{option_map}
use Rattle.core_language.specs.Names.{Name, NameMap}
use Rattle.core_language.specs.Values as core
use Rattle.core_language.specs.Configurations as configuration
use Rattle.core_language.specs.Steps as steps
use Rattle.core_language.specs.Rounds as rounds
use Rattle.core_language.specs.Endings as endings
use Rattle.core_programs.specs.declared.nodes.Parts.{Parts}
use Rattle.machine_values.specs.declared.values.Value.{Value}
use Rattle.machine_values.specs.Reading.{value_as, why_of, halt_of}
use Rattle.machine_tasks.specs.declared.tasks.Task.{Task}
use Rattle.machine_tasks.specs.Reading.{task_of}
use Rattle.task_tables.specs.Tables.{tasks_of}
use Rattle.chan_machine.specs.declared.events.Event.{Event}
use Rattle.chan_machine.specs.declared.events.Event.TheVariants as event
use Rattle.chan_machine.specs.declared.events.Stepped.{Stepped}
use Rattle.chan_machine.specs.declared.events.Stepped.TheVariants as stepped
use Rattle.chan_machine.specs.declared.events.Entry.{Entry}
use Rattle.chan_machine.specs.declared.events.Ending.{Ending}
use Rattle.chan_machine.specs.declared.events.Ending.TheVariants as ending
use Rattle.chan_machine.specs.declared.configurations.Put.{Put}
use Rattle.chan_machine.specs.declared.configurations.Store.{Store}
use Rattle.chan_machine.specs.declared.configurations.Config.{Config}

-- ---- steps

abbrev pub event_of : Event → steps.Event
event_of event.Silent = steps.Silent
event_of (event.Fork channel) = steps.Fork channel
event_of (event.Send channel) = steps.Send channel
event_of (event.Recv channel) = steps.Recv channel
event_of (event.Print number) = steps.Print number
event_of event.End = steps.End

-- the step of which this came, where the configuration was C afterwards
abbrev pub step_of : configuration.Config → Stepped → steps.Step
step_of C (stepped.Moved event) = steps.Moves C (event_of event)
step_of C (stepped.Waits channel) = steps.Waits channel
step_of C stepped.Ended = steps.IsEnded
step_of C stepped.Absent = steps.IsAbsent
step_of C (stepped.Halts why) = steps.IsHalted (halt_of why)
step_of C (stepped.Stuck why) = steps.IsStuck (why_of why)

abbrev pub entry_of : Entry → rounds.Entry
entry_of entry = record { time = entry.time; name = entry.name; event = event_of entry.event }

abbrev pub ending_as : Ending → endings.Ending
ending_as ending.Finished = endings.Finished
ending_as ending.Rounds = endings.Rounds
ending_as (ending.Range name) = endings.OutOfRange name
ending_as (ending.Depth name) = endings.TooDeep name
ending_as (ending.Stuck name why) = endings.Stuck name (why_of why)
ending_as (ending.Deadlocked names) = endings.Deadlocked names
ending_as (ending.Leaked names) = endings.Leaked names

-- ---- configurations

abbrev pub read_entry : {X Y : Type 0} → (X → Y) → Name × X → Name × Y
read_entry f e = (e.0, f e.1)

-- a map of the machine, each value read
abbrev pub map_of : {X Y : Type 0} → (X → Y) → BTreeMap Name X → NameMap Y
map_of f m = from_entries {R = slice_cmp nat_cmp} (map (read_entry f) m.entries)

abbrev pub prints_of : List Put → List (Name × ℤ)
prints_of puts = map (λ p. (p.name, p.number)) puts

abbrev pub config_of : Parts → Config → configuration.Config
config_of parts config = record {
  tasks = tasks_of parts config.tasks;
  channels = map_of (option_map value_as) config.channels;
  prints = prints_of config.prints;
}

-- the tasks, each under its name
abbrev pub tasks_named : Parts → List Task → NameMap configuration.Task
tasks_named parts tasks = from_entries (map (λ t. (t.name, task_of parts.nodes t)) tasks)

-- the tasks themselves, each under its name
abbrev pub put_by_name : List Task → NameMap Task
put_by_name tasks = from_entries (map (λ t. (t.name, t)) tasks)

-- the channels, each under its name
abbrev pub channels_named : List Store → NameMap (Option core.Value)
channels_named stores = from_entries (map (λ s. (s.name, option_map value_as s.value)) stores)

-- the configuration that has these tasks, channels and prints
abbrev pub config_with : Parts → List Task → List Store → List Put → configuration.Config
config_with parts tasks stores puts = record { tasks = tasks_named parts tasks; channels = channels_named stores; prints = prints_of puts }

-- the value on a channel that is there and Full
abbrev pub stored_in : Option (Option Value) → Option Value
stored_in (Some (Some v)) = Some v
stored_in (Some None) = None
stored_in None = None
