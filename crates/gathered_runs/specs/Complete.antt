-- Known tasks and parcels that are complete, and that are at rest.
use Rattle.std.specs.Prelude.{◌≡◌, ◌⊎◌, ℕ, true, List, Option, Some, None}
use Rattle.core_language.specs.Names.{Name, main}
use Rattle.core_language.specs.Values.{Value}
use Rattle.core_language.specs.Programs.{Program}
use Rattle.core_language.specs.Configurations.{Place}
use Rattle.core_language.specs.Acts as act
use Rattle.core_language.specs.Steps.{Event, Fork, Send, Recv}
use Rattle.core_language.specs.Rounds.{Entry}
use Rattle.task_rounds.specs.Members.{In}
use Rattle.known_tasks.specs.Known.{KnownTask, KnownParcel, does, IsKnown, IsKnownParcel}
use Rattle.known_tasks.specs.Nexts.{Next, next, has_ended}
use Rattle.known_tasks.specs.Nexts as nexts

-- ---- what is in the lists

-- a task of this name
abbrev pub HasTask : List KnownTask → Name → Type 0
HasTask tasks p = (k : KnownTask) × In k tasks × (k.name ≡ p)

-- a task whose entries show the event
abbrev pub Shows : List KnownTask → Event → Type 0
Shows tasks event = (k : KnownTask) × (e : Entry) × In k tasks × In e k.entries × (e.event ≡ event)

-- a parcel on the channel, with this value
abbrev pub HasParcel : List KnownParcel → Name → Value → Type 0
HasParcel parcels c v = (q : KnownParcel) × In q parcels × (q.channel ≡ c) × (q.value ≡ v)

-- a task that keeps the value, which came too late on the channel on which it waits
abbrev pub KeepsLate : List KnownTask → Name → Value → Type 0
KeepsLate tasks c v = (k : KnownTask) × (place : Value → Place) × In k tasks × (does k ≡ act.Recv c place) × (k.late ≡ Some v)

-- the value is in a parcel, or is kept late
abbrev pub IsOnHand : List KnownTask → List KnownParcel → Name → Value → Type 0
IsOnHand tasks parcels c v = HasParcel parcels c v ⊎ KeepsLate tasks c v

-- ---- the condition of gathering

pub record AreKnown (tasks : List KnownTask) (parcels : List KnownParcel) : Type 0 where
  pub each_task : (k : KnownTask) → In k tasks → IsKnown k
  pub each_parcel : (q : KnownParcel) → In q parcels → IsKnownParcel q

-- all are of one run, `main` is there, and with each entry what it made: the task that it forked, and the value that it sent, unless an entry received that
pub record AreComplete (program : Program) (limit : ℕ) (tasks : List KnownTask) (parcels : List KnownParcel) : Type 0 where
  pub tasks_of_run : (k : KnownTask) → In k tasks → (k.program ≡ program) × (k.limit ≡ limit)
  pub parcels_of_run : (q : KnownParcel) → In q parcels → (q.program ≡ program) × (q.limit ≡ limit)
  pub has_main : HasTask tasks main
  pub has_forked : (c : Name) → Shows tasks (Fork c) → HasTask tasks c
  pub has_sent : (c : Name) → Shows tasks (Send c) → ((v : Value) × IsOnHand tasks parcels c v) ⊎ Shows tasks (Recv c)

-- what comes next is none of what can be done: a halt, the limit, or a receive of what isn't there
abbrev pub RestsAt : List KnownParcel → Option Next → Type 0
RestsAt parcels (Some (nexts.Halt why)) = Unit {0}
RestsAt parcels (Some nexts.Spent) = Unit {0}
RestsAt parcels (Some (nexts.Recv c)) = (v : Value) → HasParcel parcels c v → ⊥
RestsAt parcels (Some nexts.Silent) = ⊥
RestsAt parcels (Some nexts.Fork) = ⊥
RestsAt parcels (Some (nexts.Send c)) = ⊥
RestsAt parcels (Some nexts.End) = ⊥
RestsAt parcels None = ⊥

-- no task can go on with these parcels
abbrev pub AreAtRest : List KnownTask → List KnownParcel → Type 0
AreAtRest tasks parcels = (k : KnownTask) → In k tasks → (has_ended k ≡ true) ⊎ RestsAt parcels (next k)
