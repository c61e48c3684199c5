-- What is known of one task and of one parcel.
use Rattle.std.specs.Prelude.{◌≡◌, ℕ, ◌≤◌, List, Option, Some}
use Rattle.core_language.specs.Names.{Name}
use Rattle.core_language.specs.Values.{Value}
use Rattle.core_language.specs.Programs.{Program}
use Rattle.core_language.specs.Computing.{machine}
use Rattle.core_language.specs.Configurations.{Place, Task}
use Rattle.core_language.specs.Acts.{Act, act_of}
use Rattle.core_language.specs.Acts as act
use Rattle.core_language.specs.Rounds.{Entry}
use Rattle.task_rounds.specs.Tasks.{task_after, entries_after, IsPut}

-- a task as it is after some rounds of a run within a limit of rounds, with its entries up to there; it may keep a value that came too late
pub record KnownTask : Type 0 where
  pub program : Program
  pub limit : ℕ
  pub name : Name
  pub time : ℕ
  pub state : Task
  pub entries : List Entry
  pub late : Option Value

-- a value that a round put on a channel
pub record KnownParcel : Type 0 where
  pub program : Program
  pub limit : ℕ
  pub channel : Name
  pub value : Value
  pub round : ℕ

-- what the task does next
abbrev pub does : KnownTask → Act
does k = act_of machine k.program k.name k.state.forks k.state.place

-- the last round put the value on the channel on which the task waits
pub record IsLate (k : KnownTask) (v : Value) : Type 0 where
  pub at_limit : k.time ≡ k.limit
  pub channel : Name
  pub place : Value → Place
  pub waits : does k ≡ act.Recv channel place
  pub put : IsPut k.program k.limit channel v

-- the task is so after that many rounds of the round run, with these entries
pub record IsKnown (k : KnownTask) : Type 0 where
  pub within : k.time ≤ k.limit
  pub stands : task_after k.program k.time k.name ≡ Some k.state
  pub noted : entries_after k.program k.time k.name ≡ k.entries
  pub keeps : (v : Value) → k.late ≡ Some v → IsLate k v

-- the round put the value on the channel
pub record IsKnownParcel (q : KnownParcel) : Type 0 where
  pub within : q.round ≤ q.limit
  pub put : IsPut q.program q.round q.channel q.value
