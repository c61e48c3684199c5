-- What a step alters, told by what it shows; and how many forks the tasks have made.
use Rattle.std.specs.Prelude.{◌≡◌, ℕ, suc, ◌≤◌, Bool, true, false, ◌||◌, List, Option, Some}
use Rattle.std.specs.Ordering.{nat_cmp}
use Rattle.std.specs.Cmp.Lexicographic.{slice_cmp}
use Rattle.std.specs.FinMap.{get}
use Rattle.core_language.specs.Names.{Name, NameMap, same_name}
use Rattle.core_language.specs.Configurations.{Task}
use Rattle.core_language.specs.Steps.{Event, Fork, Send, Recv}
use Rattle.machine_rounds.specs.Sets.{has}

-- a step of p that shows the event alters the task q
abbrev pub alters_by : Name → Event → Name → Bool
alters_by p (Fork c) q = same_name q c || same_name q p
alters_by p other q = same_name q p

-- a step that shows the event alters the channel
abbrev pub uses_by : Event → Name → Bool
uses_by (Fork d) c = same_name c d
uses_by (Send d) c = same_name c d
uses_by (Recv d) c = same_name c d
uses_by other c = false

-- after the step of p the tasks that it altered are ready, and those that waited at its channel; the others wait on
pub record Spreads (p : Name) (event : Event) (ready later : Name → Bool) (waits waits_later : Name → Name → Bool) : Type 0 where
  pub more : (q : Name) → ready q ≡ true → later q ≡ true
  pub altered : (q : Name) → alters_by p event q ≡ true → later q ≡ true
  pub woken : (c q : Name) → uses_by event c ≡ true → waits c q ≡ true → later q ≡ true
  pub kept : (c q : Name) → uses_by event c ≡ false → waits c q ≡ true → waits_later c q ≡ true

-- every task has made at most so many forks
abbrev pub ForksUpTo : ℕ → NameMap Task → Type 0
ForksUpTo n tasks = (q : Name) (t : Task) → get tasks q ≡ Some t → t.forks ≤ n

-- every task has made at most one fork more than so many, and those to come have made no more
abbrev pub ForksWithin : ℕ → NameMap Task → List Name → Type 0
ForksWithin n tasks rest = (q : Name) (t : Task) → get tasks q ≡ Some t → (t.forks ≤ suc n) × (has (slice_cmp nat_cmp) rest q ≡ true → t.forks ≤ n)
