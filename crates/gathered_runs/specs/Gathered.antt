-- The configuration and the entries that known tasks and parcels make together.
use Rattle.std.specs.Prelude.{◌≡◌, ◌⊎◌, ◌↔◌, ℕ, ◌≤◌, ◌<◌, List, [], ◌∷◌, Option, Some, None}
use Rattle.std.specs.declared.cmp.Ordering.TheVariants.{Less}
use Rattle.std.specs.Ordering.{nat_cmp}
use Rattle.std.specs.Cmp.Lexicographic.{slice_cmp}
use Rattle.std.specs.FinMap.{get}
use Rattle.core_language.specs.Names.{Name}
use Rattle.core_language.specs.Values.{Value}
use Rattle.core_language.specs.Programs.{Program}
use Rattle.core_language.specs.Configurations.{Config, Task}
use Rattle.core_language.specs.Steps.{Fork, Recv}
use Rattle.core_language.specs.Rounds.{Entry, run_of}
use Rattle.core_language.specs.Endings.{ending_of}
use Rattle.task_rounds.specs.Members.{In}
use Rattle.task_rounds.specs.Reaching.{NeverSticks}
use Rattle.task_rounds.specs.Telling.{named_prints}
use Rattle.known_tasks.specs.Known.{KnownTask, KnownParcel}
use Rattle.gathered_runs.specs.Complete.{HasTask, Shows, IsOnHand, AreKnown, AreComplete, AreAtRest}

-- of the tasks with its name, none has come further
pub record IsLatest (tasks : List KnownTask) (k : KnownTask) : Type 0 where
  pub is_there : In k tasks
  pub last : (l : KnownTask) → In l tasks → l.name ≡ k.name → l.time ≤ k.time

-- ---- entries in order

-- an earlier round, or in the same round an earlier name
abbrev pub IsBefore : Entry → Entry → Type 0
IsBefore e f = (e.time < f.time) ⊎ ((e.time ≡ f.time) × (slice_cmp nat_cmp e.name f.name ≡ Less))

abbrev pub Ascends : List Entry → Type 0
Ascends [] = Unit {0}
Ascends (e ∷ entries) = ((f : Entry) → In f entries → IsBefore e f) × Ascends entries

-- the entries of the latest tasks, in order
pub record AreMerged (tasks : List KnownTask) (entries : List Entry) : Type 0 where
  pub ascends : Ascends entries
  pub all : (e : Entry) → In e entries ↔ ((k : KnownTask) × IsLatest tasks k × In e k.entries)

-- ---- the configuration

-- the state of the task p is that of the latest known task of this name
abbrev pub IsTaskOf : List KnownTask → Name → Option Task → Type 0
IsTaskOf tasks p None = HasTask tasks p → ⊥
IsTaskOf tasks p (Some s) = (k : KnownTask) × IsLatest tasks k × (k.name ≡ p) × (k.state ≡ s)

-- a channel is there from its fork to its receive, and has the value that is on hand
abbrev pub IsChannelOf : List KnownTask → List KnownParcel → Name → Option (Option Value) → Type 0
IsChannelOf tasks parcels c None = (Shows tasks (Fork c) → ⊥) ⊎ Shows tasks (Recv c)
IsChannelOf tasks parcels c (Some None) = Shows tasks (Fork c) × (Shows tasks (Recv c) → ⊥) × ((v : Value) → IsOnHand tasks parcels c v → ⊥)
IsChannelOf tasks parcels c (Some (Some v)) = Shows tasks (Fork c) × (Shows tasks (Recv c) → ⊥) × IsOnHand tasks parcels c v

pub record AreGathered (tasks : List KnownTask) (parcels : List KnownParcel) (C : Config) (entries : List Entry) : Type 0 where
  pub states : (p : Name) → IsTaskOf tasks p (get C.tasks p)
  pub channels : (c : Name) → IsChannelOf tasks parcels c (get C.channels c)
  pub prints : C.prints ≡ named_prints entries
  pub merged : AreMerged tasks entries

-- ---- the laws

-- known tasks and parcels of a run that are complete and at rest
pub record AreDone (program : Program) (limit : ℕ) (tasks : List KnownTask) (parcels : List KnownParcel) : Type 0 where
  pub never : NeverSticks program
  pub known : AreKnown tasks parcels
  pub complete : AreComplete program limit tasks parcels
  pub at_rest : AreAtRest tasks parcels

-- what they make together is the run after the last round, its entries, and its ending
abbrev pub GathersTheRun : Type 0
GathersTheRun = (program : Program) (limit : ℕ) (tasks : List KnownTask) (parcels : List KnownParcel) → AreDone program limit tasks parcels
    → (C : Config) (entries : List Entry) → AreGathered tasks parcels C entries
    → (C ≡ (run_of program limit).config) × (entries ≡ (run_of program limit).entries) × (ending_of program C ≡ ending_of program (run_of program limit).config)

-- and they do make it
abbrev pub MakesTheRun : Type 0
MakesTheRun = (program : Program) (limit : ℕ) (tasks : List KnownTask) (parcels : List KnownParcel) → AreDone program limit tasks parcels
    → AreGathered tasks parcels (run_of program limit).config (run_of program limit).entries
