-- One hand finishes alone: it moves known tasks, one at a time, until all are at rest.
use Rattle.std.specs.Prelude.{◌≡◌, ◌⊎◌, ℕ, suc, ◌-◌, ◌+◌, ◌*◌, ◌^◌, ◌<◌, ◌≤◌, length, List, [], ◌∷◌, ◌++◌, Some}
use Rattle.core_language.specs.Names.{Name}
use Rattle.core_language.specs.Programs.{Program}
use Rattle.core_language.specs.Configurations.{Config}
use Rattle.core_language.specs.Rounds.{Entry, run_of}
use Rattle.core_language.specs.Endings.{ending_of}
use Rattle.task_rounds.specs.Reaching.{NeverSticks}
use Rattle.known_tasks.specs.Known.{KnownTask, KnownParcel}
use Rattle.known_tasks.specs.Nexts.{Silent, Fork, Send, End, next}
use Rattle.known_tasks.specs.Calls.{main_task, after_silent, parent_after, child_after, after_send, parcel_of, IsFor, after_receive, after_finish}
use Rattle.gathered_runs.specs.Complete.{AreKnown, AreComplete, AreAtRest}
use Rattle.gathered_runs.specs.Gathered.{AreGathered, AreDone}

-- x stands somewhere in the list, and the others are what is left without it
pub record Takes {A : Type 0} (all : List A) (x : A) (others : List A) : Type 0 where
  pub front : List A
  pub back : List A
  pub is : all ≡ front ++ x ∷ back
  pub leaves : others ≡ front ++ back

-- one call on one task: it is taken out of the list, and what the call makes of it is put in somewhere; a send puts a parcel to the others, and a receive takes one
pub data Move (tasks : List KnownTask) (parcels : List KnownParcel) : List KnownTask → List KnownParcel → Type 0 where
  GoesOn : (k : KnownTask) (others tasks' : List KnownTask) → Takes tasks k others → next k ≡ Some Silent → Takes tasks' (after_silent k) others → Move tasks parcels tasks' parcels
  Forks : (k : KnownTask) (others children tasks' : List KnownTask) → Takes tasks k others → next k ≡ Some Fork → Takes children (child_after k) others → Takes tasks' (parent_after k) children → Move tasks parcels tasks' parcels
  Sends : (k : KnownTask) (others tasks' : List KnownTask) (c : Name) (q : KnownParcel) (parcels' : List KnownParcel) → Takes tasks k others → next k ≡ Some (Send c) → parcel_of k ≡ Some q
      → Takes tasks' (after_send k) others → Takes parcels' q parcels → Move tasks parcels tasks' parcels'
  Receives : (k : KnownTask) (others tasks' : List KnownTask) (q : KnownParcel) (rest : List KnownParcel) → Takes tasks k others → Takes parcels q rest → IsFor q k
      → Takes tasks' (after_receive k q) others → Move tasks parcels tasks' rest
  Finishes : (k : KnownTask) (others tasks' : List KnownTask) → Takes tasks k others → next k ≡ Some End → Takes tasks' (after_finish k) others → Move tasks parcels tasks' parcels

-- so many moves, one after another
pub data Moves : ℕ → List KnownTask → List KnownParcel → List KnownTask → List KnownParcel → Type 0 where
  NoMove : (tasks : List KnownTask) (parcels : List KnownParcel) → Moves 0 tasks parcels tasks parcels
  Then : (n : ℕ) (tasks : List KnownTask) (parcels : List KnownParcel) (tasks' : List KnownTask) (parcels' : List KnownParcel) (last_tasks : List KnownTask) (last_parcels : List KnownParcel)
      → Move tasks parcels tasks' parcels' → Moves n tasks' parcels' last_tasks last_parcels → Moves (suc n) tasks parcels last_tasks last_parcels

-- how many moves the tasks can still make, each with those that it forks
abbrev pub left_to_do : ℕ → List KnownTask → ℕ
left_to_do limit [] = 0
left_to_do limit (k ∷ tasks) = (2 ^ (limit - k.time) - 1) + left_to_do limit tasks

-- the times of the tasks together
abbrev pub times : List KnownTask → ℕ
times [] = 0
times (k ∷ tasks) = k.time + times tasks

-- ---- the laws

-- known tasks and parcels of a run that are complete
pub record AreOfRun (program : Program) (limit : ℕ) (tasks : List KnownTask) (parcels : List KnownParcel) : Type 0 where
  pub never : NeverSticks program
  pub known : AreKnown tasks parcels
  pub complete : AreComplete program limit tasks parcels

-- `main` alone is complete
abbrev pub StartsComplete : Type 0
StartsComplete = (program : Program) (limit : ℕ) → NeverSticks program → AreOfRun program limit (main_task program limit ∷ []) []

-- a move keeps the lists known and complete
abbrev pub MovesKeep : Type 0
MovesKeep = (program : Program) (limit : ℕ) (tasks : List KnownTask) (parcels : List KnownParcel) (tasks' : List KnownTask) (parcels' : List KnownParcel)
    → AreOfRun program limit tasks parcels → Move tasks parcels tasks' parcels' → AreOfRun program limit tasks' parcels'

-- and leaves less to do
abbrev pub MovesEnd : Type 0
MovesEnd = (program : Program) (limit : ℕ) (tasks : List KnownTask) (parcels : List KnownParcel) (tasks' : List KnownTask) (parcels' : List KnownParcel)
    → AreOfRun program limit tasks parcels → Move tasks parcels tasks' parcels' → left_to_do limit tasks' < left_to_do limit tasks

-- each raises the time of a task, and no time passes the limit
abbrev pub MovesCount : Type 0
MovesCount = (program : Program) (limit n : ℕ) (tasks : List KnownTask) (parcels : List KnownParcel) (tasks' : List KnownTask) (parcels' : List KnownParcel)
    → AreOfRun program limit tasks parcels → Moves n tasks parcels tasks' parcels' → (n + times tasks ≤ times tasks') × (times tasks' ≤ limit * length tasks')

-- lists that aren't at rest can be moved
abbrev pub MovesOrRests : Type 0
MovesOrRests = (program : Program) (limit : ℕ) (tasks : List KnownTask) (parcels : List KnownParcel) → AreOfRun program limit tasks parcels
    → AreAtRest tasks parcels ⊎ ((tasks' : List KnownTask) × (parcels' : List KnownParcel) × Move tasks parcels tasks' parcels')

-- so one hand comes to an end alone
abbrev pub FinishesAlone : Type 0
FinishesAlone = (program : Program) (limit : ℕ) (tasks : List KnownTask) (parcels : List KnownParcel) → AreOfRun program limit tasks parcels
    → (n : ℕ) × (tasks' : List KnownTask) × (parcels' : List KnownParcel) × Moves n tasks parcels tasks' parcels' × AreDone program limit tasks' parcels'

-- and however it got to rest, the lists make the run
abbrev pub RestsAtTheRun : Type 0
RestsAtTheRun = (program : Program) (limit n : ℕ) (tasks : List KnownTask) (parcels : List KnownParcel) (tasks' : List KnownTask) (parcels' : List KnownParcel)
    → AreOfRun program limit tasks parcels → Moves n tasks parcels tasks' parcels' → AreAtRest tasks' parcels'
    → (C : Config) (entries : List Entry) → AreGathered tasks' parcels' C entries
    → (C ≡ (run_of program limit).config) × (entries ≡ (run_of program limit).entries) × (ending_of program C ≡ ending_of program (run_of program limit).config)
