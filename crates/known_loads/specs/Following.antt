-- What a call makes of what a task tells.
use Rattle.std.specs.Prelude.{◌≡◌, ◌⊎◌, ℕ, ℤ, ◌<◌, ◌≤◌, List, [], ◌∷◌, Option, Some, None, vec_len, vec_capacity}
use Rattle.core_language.specs.Names.{Name}
use Rattle.core_language.specs.Values as core
use Rattle.core_language.specs.Configurations.{Place}
use Rattle.core_language.specs.Acts as act
use Rattle.core_programs.specs.declared.nodes.Parts.{Parts}
use Rattle.cell_rules.specs.Lists.{In}
use Rattle.machine_tasks.specs.Kinds.{Kind, Print}
use Rattle.machine_tasks.specs.Moving.{HasRoom}
use Rattle.machine_tasks.specs.Reading.{act_in}
use Rattle.machine_tasks.specs.Steps.{FitsTask, IsUnmoved}
use Rattle.machine_values.specs.Reading.{halt_of}
use Rattle.known_tasks.specs.Known.{KnownTask}
use Rattle.known_tasks.specs.Nexts as nexts
use Rattle.known_tasks.specs.Nexts.{next}
use Rattle.known_tasks.specs.Calls.{after_send, child_after, parcel_of, parent_after}
use Rattle.known_loads.specs.declared.nexts.Next.{Next}
use Rattle.known_loads.specs.declared.nexts.Next.TheVariants as variant
use Rattle.known_loads.specs.declared.states.Late.{Late}
use Rattle.known_loads.specs.declared.states.State.{State}
use Rattle.known_loads.specs.declared.letters.Letter.{Letter}
use Rattle.known_loads.specs.Ends.{task_ends, value_ends}
use Rattle.known_loads.specs.Meaning.{forks, sends, receives, mentions, numbered}
use Rattle.known_loads.specs.Reading.{known_of, parcel_as}

-- what a step adds: ends that it got, and channels of a fork, a send and a receive
pub record News : Type 0 where
  pub ends : List (ℕ × Name)
  pub forked : List (ℕ × Name)
  pub sent : List (ℕ × Name)
  pub received : List (ℕ × Name)

abbrev pub no_news : News
no_news = record { ends = []; forked = []; sent = []; received = [] }

-- a fork of a task with this number and name; a send; a receive
abbrev pub forked : ℕ → Name → News
forked cell name = record { ends = (cell, name) ∷ []; forked = (cell, name) ∷ []; sent = []; received = [] }

abbrev pub sent : Letter → News
sent letter = record { ends = []; forked = []; sent = numbered letter.channel ∷ []; received = [] }

abbrev pub received : Letter → News
received letter = record { ends = value_ends letter.value; forked = []; sent = []; received = numbered letter.channel ∷ [] }

-- each new one is among the news or among the old ones
abbrev pub Adds : List (ℕ × Name) → List (ℕ × Name) → List (ℕ × Name) → Type 0
Adds old news new = (e : ℕ × Name) → In e new → In e news ⊎ In e old

-- the same task, which tells no more than it told and the news, and still tells all that it received
pub record Follows (old new : State) (news : News) : Type 0 where
  pub cell : new.cell ≡ old.cell
  pub name : new.task.name ≡ old.task.name
  pub limit : new.limit ≡ old.limit
  pub ends : Adds (task_ends old.task) news.ends (task_ends new.task)
  pub forked : Adds (forks old) news.forked (forks new)
  pub sent : Adds (sends old) news.sent (sends new)
  pub received : Adds (receives old) news.received (receives new)
  pub keeps : (e : ℕ × Name) → In e (receives old) → In e (receives new)
  pub tells : (e : ℕ × Name) → In e news.received → In e (receives new)

-- the value that the task keeps came for the receive that it makes next
abbrev pub Waits : Parts → State → Late → Type 0
Waits program s late = (place : core.Value → Place) × (act_in program s.task ≡ act.Recv late.channel.name place)

-- the task is this known task now
pub record IsMade (program : Parts) (old new : State) (known : KnownTask) (news : News) : Type 0 where
  pub is : known_of (program, new) ≡ known
  pub fits : FitsTask program new.task
  pub forks : new.task.forks ≤ new.time
  pub late : (l : Late) → new.late ≡ Some l → Waits program new l
  pub follows : Follows old new news

-- the first state of a task: it mentions itself and what its parent mentions, and has done nothing
pub record IsFirst (mentioned : List (ℕ × Name)) (s : State) : Type 0 where
  pub mentions : (e : ℕ × Name) → In e (mentions s) → (e ≡ (s.cell.0, s.task.name)) ⊎ In e mentioned
  pub forks : forks s ≡ []
  pub sends : sends s ≡ []
  pub receives : receives s ≡ []

-- what a fork makes, where the child's cell has this number
pub record MakesFork (program : Parts) (old new : State) (cell : ℕ) (child : State) : Type 0 where
  pub parent : IsMade program old new (parent_after (known_of (program, old))) (forked cell child.task.name)
  pub is : known_of (program, child) ≡ child_after (known_of (program, old))
  pub fits : FitsTask program child.task
  pub forks : child.task.forks ≤ child.time
  pub cell_is : child.cell.0 ≡ cell
  pub limit : child.limit ≡ old.limit
  pub late : child.late ≡ None
  pub first : IsFirst (mentions old) child

-- what a send makes: its channel is one of the task's ends, and the value has no other ends than the task
pub record MakesSend (program : Parts) (old new : State) (letter : Letter) : Type 0 where
  pub sender : IsMade program old new (after_send (known_of (program, old))) (sent letter)
  pub parcel : parcel_of (known_of (program, old)) ≡ Some (parcel_as (program, letter))
  pub limit : letter.limit ≡ old.limit
  pub channel : In (numbered letter.channel) (task_ends old.task)
  pub ends : (e : ℕ × Name) → In e (value_ends letter.value) → In e (task_ends old.task)

-- there is room for one note; and for one variable
abbrev pub HasNote : State → Type 0
HasNote s = vec_len s.notes < vec_capacity s.notes

abbrev pub IsReady : State → Type 0
IsReady s = HasNote s × HasRoom s.task.frames.items 1

-- what an act prints
abbrev pub print_in : Kind → Option ℤ
print_in (Print z) = Some z
print_in other = None

-- the same in all that can be read
pub record IsUnchanged (old new : State) : Type 0 where
  pub limit : new.limit ≡ old.limit
  pub cell : new.cell ≡ old.cell
  pub time : new.time ≡ old.time
  pub task : IsUnmoved old.task new.task
  pub notes : new.notes.items ≡ old.notes.items
  pub late : new.late ≡ old.late

-- the step that the task makes next, where the channel of a send or a receive has this number
abbrev pub IsNext : Parts × State → Next → Type 0
IsNext k variant.Silent = next (known_of k) ≡ Some nexts.Silent
IsNext k variant.Fork = next (known_of k) ≡ Some nexts.Fork
IsNext k (variant.Send number) = (c : Name) × (next (known_of k) ≡ Some (nexts.Send c)) × In (number.0, c) (task_ends k.1.task)
IsNext k (variant.Recv number) = (c : Name) × (next (known_of k) ≡ Some (nexts.Recv c)) × In (number.0, c) (task_ends k.1.task)
IsNext k variant.End = next (known_of k) ≡ Some nexts.End
IsNext k (variant.Halt why) = next (known_of k) ≡ Some (nexts.Halt (halt_of why))
IsNext k variant.Spent = next (known_of k) ≡ Some nexts.Spent
