-- What each call makes of a known task.
use Rattle.std.specs.Prelude.{◌≡◌, ℕ, List, [], ◌∷◌, Some}
use Rattle.core_language.specs.Names.{Name}
use Rattle.core_programs.specs.declared.nodes.Parts.{Parts}
use Rattle.core_programs.specs.Bodies.{program_of}
use Rattle.chan_base.specs.declared.Number.{Number}
use Rattle.cell_rules.specs.Lists.{In}
use Rattle.known_tasks.specs.Known.{KnownTask}
use Rattle.known_tasks.specs.Calls.{main_task, after_send, child_after, parcel_of, parent_after}
use Rattle.known_loads.specs.declared.states.State.{State}
use Rattle.known_loads.specs.declared.letters.Letter.{Letter}
use Rattle.known_loads.specs.Ends.{task_ends, value_ends}
use Rattle.known_loads.specs.Meaning.{mentions, numbered}
use Rattle.known_loads.specs.Following.{News, Follows, IsFirst, IsUnchanged, forked, sent}
use Rattle.known_loads.specs.Reading.{known_of, parcel_as}

-- the task is as before
abbrev pub Stays : Parts × State → Parts × State → Type 0
Stays k l = (l.0 ≡ k.0) × IsUnchanged k.1 l.1

-- it is this known task now, of the same program, and tells these news
abbrev pub Steps : Parts × State → Parts × State → KnownTask → News → Type 0
Steps k l known news = (l.0 ≡ k.0) × (known_of l ≡ known) × Follows k.1 l.1 news

-- `main`, in this cell
abbrev pub Begins : Parts → ℕ → Number → Parts × State → Type 0
Begins program limit cell k = (k.0 ≡ program) × (known_of k ≡ main_task (program_of program) limit) × (k.1.cell ≡ cell) × IsFirst [] k.1

-- a fork of a child in this cell
pub record Forks (k : Parts × State) (cell : Number) (parent child : Parts × State) : Type 0 where
  pub steps : Steps k parent (parent_after (known_of k)) (forked cell.0 child.1.task.name)
  pub program : child.0 ≡ k.0
  pub is : known_of child ≡ child_after (known_of k)
  pub cell_is : child.1.cell ≡ cell
  pub limit : child.1.limit ≡ k.1.limit
  pub first : IsFirst (mentions k.1) child.1

-- a send: on a channel whose end the task has, of a value with no other ends than the task
pub record Sends (k next : Parts × State) (parcel : Parts × Letter) : Type 0 where
  pub steps : Steps k next (after_send (known_of k)) (sent parcel.1)
  pub program : parcel.0 ≡ k.0
  pub is : parcel_of (known_of k) ≡ Some (parcel_as parcel)
  pub channel : In (numbered parcel.1.channel) (task_ends k.1.task)
  pub ends : (e : ℕ × Name) → In e (value_ends parcel.1.value) → In e (task_ends k.1.task)
