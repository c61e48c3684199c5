-- What closed cells hold, told by their numbers, is complete.
use Rattle.std.specs.Prelude.{◌≡◌, ◌⊎◌, ℕ, List, map, Some}
use Rattle.core_language.specs.Names.{Name, main}
use Rattle.core_language.specs.Values.{Value}
use Rattle.core_language.specs.Programs.{Program}
use Rattle.core_language.specs.Configurations.{Place}
use Rattle.core_language.specs.Acts as act
use Rattle.core_language.specs.Steps.{Event, Fork, Send, Recv}
use Rattle.core_language.specs.Rounds.{Entry}
use Rattle.task_rounds.specs.Members.{In}
use Rattle.known_tasks.specs.Known.{KnownTask, KnownParcel, does}
use Rattle.gathered_runs.specs.Complete.{AreComplete}

-- a load: a known task with the number of its cell, and the numbers of the tasks that it forked, of the channels on which it sent, and of those on which it received or keeps a late value
pub record Load : Type 0 where
  pub task : KnownTask
  pub number : ℕ
  pub forked : List ℕ
  pub sent : List ℕ
  pub received : List ℕ

-- a parcel with the number of its channel's cell
pub record Parcel : Type 0 where
  pub parcel : KnownParcel
  pub number : ℕ

-- some entry of the task shows the event
abbrev pub HasShown : KnownTask → Event → Type 0
HasShown k event = (e : Entry) × In e k.entries × (e.event ≡ event)

-- the task received on the channel, or keeps a late value that stands there
abbrev pub HasTaken : KnownTask → Name → Type 0
HasTaken k c = HasShown k (Recv c) ⊎ ((v : Value) × (place : Value → Place) × (does k ≡ act.Recv c place) × (k.late ≡ Some v))

-- the numbers of a load tell what its task did, where each number has this name
pub record IsNumbered (name : ℕ → Name) (load : Load) : Type 0 where
  pub own : name load.number ≡ load.task.name
  pub forks : (c : Name) → HasShown load.task (Fork c) → (m : ℕ) × In m load.forked × (name m ≡ c)
  pub sends : (c : Name) → HasShown load.task (Send c) → (m : ℕ) × In m load.sent × (name m ≡ c)
  pub receives : (m : ℕ) → In m load.received → HasTaken load.task (name m)

-- all loads and parcels are of one run; each number that a load forked has its load; each on which a load sent has its parcel, or was received by a load
pub record AreClosed (program : Program) (limit : ℕ) (name : ℕ → Name) (loads : List Load) (parcels : List Parcel) : Type 0 where
  pub loads_of_run : (l : Load) → In l loads → (l.task.program ≡ program) × (l.task.limit ≡ limit)
  pub parcels_of_run : (q : Parcel) → In q parcels → (q.parcel.program ≡ program) × (q.parcel.limit ≡ limit)
  pub numbered : (l : Load) → In l loads → IsNumbered name l
  pub named : (q : Parcel) → In q parcels → name q.number ≡ q.parcel.channel
  pub has_main : (l : Load) × In l loads × (l.task.name ≡ main)
  pub has_forked : (l : Load) → In l loads → (m : ℕ) → In m l.forked → (made : Load) × In made loads × (made.number ≡ m)
  pub has_sent : (l : Load) → In l loads → (m : ℕ) → In m l.sent → ((q : Parcel) × In q parcels × (q.number ≡ m)) ⊎ ((r : Load) × In r loads × In m r.received)

-- such loads and parcels are complete
abbrev pub ClosedAreComplete : Type 0
ClosedAreComplete = (program : Program) (limit : ℕ) (name : ℕ → Name) (loads : List Load) (parcels : List Parcel) → AreClosed program limit name loads parcels
    → AreComplete program limit (map (λ l. l.task) loads) (map (λ q. q.parcel) parcels)
