-- What each call makes of a known task.
use Rattle.std.specs.Prelude.{◌≡◌, ℕ, suc, max, nat_lt, if◌then◌else◌, [], ◌++◌, Option, Some, None}
use Rattle.core_language.specs.Names.{main}
use Rattle.core_language.specs.Programs.{Program, main_function}
use Rattle.core_language.specs.Configurations.{Place, Ended, started}
use Rattle.core_language.specs.Acts.{Act}
use Rattle.core_language.specs.Acts as act
use Rattle.core_language.specs.Steps.{Event, Silent, Fork, Send, Recv, Print, End}
use Rattle.core_language.specs.Rounds.{event_entries}
use Rattle.task_rounds.specs.Tasks.{placed}
use Rattle.known_tasks.specs.Known.{KnownTask, KnownParcel, does}
use Rattle.known_tasks.specs.Nexts.{next}
use Rattle.known_tasks.specs.Nexts as nexts

-- the task `main` before the first round
abbrev pub main_task : Program → ℕ → KnownTask
main_task program limit = record {
  program = program;
  limit = limit;
  name = main;
  time = 0;
  state = placed (started (main_function program)) 0;
  entries = [];
  late = None;
}

-- the task after a round that took it to a place and showed an event
abbrev pub moved : KnownTask → ℕ → Place → ℕ → Event → KnownTask
moved k round place forks event = record k { time = round; state = placed place forks; entries = k.entries ++ event_entries round k.name event }

abbrev pub silent_by : KnownTask → Act → KnownTask
silent_by k (act.Silent place) = moved k (suc k.time) place k.state.forks Silent
silent_by k (act.Print z place) = moved k (suc k.time) place k.state.forks (Print z)
silent_by k other = k

-- after a step that is silent or prints
abbrev pub after_silent : KnownTask → KnownTask
after_silent k = silent_by k (does k)

abbrev pub parent_by : KnownTask → Act → KnownTask
parent_by k (act.Fork c parent its) = moved k (suc k.time) parent (suc k.state.forks) (Fork c)
parent_by k other = k

-- the parent after a fork
abbrev pub parent_after : KnownTask → KnownTask
parent_after k = parent_by k (does k)

abbrev pub child_by : KnownTask → Act → KnownTask
child_by k (act.Fork c parent its) = record k { name = c; time = suc k.time; state = placed its 0; entries = []; late = None }
child_by k other = k

-- the child that a fork makes
abbrev pub child_after : KnownTask → KnownTask
child_after k = child_by k (does k)

abbrev pub sender_by : KnownTask → Act → KnownTask
sender_by k (act.Send c v place) = moved k (suc k.time) place k.state.forks (Send c)
sender_by k other = k

-- after a send
abbrev pub after_send : KnownTask → KnownTask
after_send k = sender_by k (does k)

abbrev pub parcel_by : KnownTask → Act → Option KnownParcel
parcel_by k (act.Send c v place) = Some (record { program = k.program; limit = k.limit; channel = c; value = v; round = suc k.time })
parcel_by k other = None

-- what a send puts on its channel
abbrev pub parcel_of : KnownTask → Option KnownParcel
parcel_of k = parcel_by k (does k)

-- a parcel for this task: of its program, within its limit, on the channel on which it waits
pub record IsFor (q : KnownParcel) (k : KnownTask) : Type 0 where
  pub program : q.program ≡ k.program
  pub limit : q.limit ≡ k.limit
  pub waits : next k ≡ Some (nexts.Recv q.channel)

abbrev pub receiver_by : KnownTask → KnownParcel → Act → KnownTask
receiver_by k q (act.Recv c place) =
    if nat_lt q.round k.limit then moved k (suc (max k.time q.round)) (place q.value) k.state.forks (Recv c)
    else record k { time = k.limit; late = Some q.value }
receiver_by k q other = k

-- after a receive, which comes in the first round after both the task's time and the send; a value of the last round is kept, and not received
abbrev pub after_receive : KnownTask → KnownParcel → KnownTask
after_receive k q = receiver_by k q (does k)

-- after the last step
abbrev pub after_finish : KnownTask → KnownTask
after_finish k = moved k (suc k.time) Ended k.state.forks End
