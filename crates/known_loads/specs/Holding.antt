-- What known tasks and parcels keep in their types.
use Rattle.std.specs.Prelude.{◌≡◌, ℕ, ◌≤◌, ◌^◌, List, Some}
use Rattle.core_language.specs.Names.{Name}
use Rattle.core_programs.specs.declared.nodes.Parts.{Parts}
use Rattle.core_programs.specs.Bodies.{program_of}
use Rattle.cell_rules.specs.Lists.{In}
use Rattle.machine_tasks.specs.Steps.{FitsTask}
use Rattle.task_rounds.specs.Reaching.{NeverSticks}
use Rattle.known_tasks.specs.Known.{IsKnown, IsKnownParcel}
use Rattle.known_loads.specs.declared.states.Late.{Late}
use Rattle.known_loads.specs.declared.states.State.{State}
use Rattle.known_loads.specs.Following.{Waits}
use Rattle.known_loads.specs.declared.letters.Letter.{Letter}
use Rattle.known_loads.specs.Meaning.{mentions, names_in}
use Rattle.known_loads.specs.Reading.{known_of, parcel_as}

-- each number is one that a word can carry
abbrev pub AreSmall : List (ℕ × Name) → Type 0
AreSmall pairs = (e : ℕ × Name) → In e pairs → e.0 ≤ 2 ^ 60

-- no task of the program is ever stuck; the task is known, the program fits its frames, it has made no more forks than there were rounds, and a late value is one that it waits for
pub record Holds (k : Parts × State) : Type 0 where
  pub never : NeverSticks (program_of k.0)
  pub known : IsKnown (known_of k)
  pub fits : FitsTask k.0 k.1.task
  pub forks : k.1.task.forks ≤ k.1.time
  pub limit : k.1.limit ≤ 1000000000
  pub late : (l : Late) → k.1.late ≡ Some l → Waits k.0 k.1 l
  pub small : AreSmall (mentions k.1)

pub record HoldsParcel (q : Parts × Letter) : Type 0 where
  pub known : IsKnownParcel (parcel_as q)
  pub limit : q.1.limit ≤ 1000000000
  pub small : AreSmall (names_in q.1)
