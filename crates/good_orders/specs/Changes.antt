-- What an act changes, as lists of writes; and configurations without their prints.
use Rattle.std.specs.Prelude.{ℕ, suc, List, [], ◌∷◌, Option, Some, None}
use Rattle.std.specs.FinMap.{get, insert, remove}
use Rattle.core_language.specs.Names.{Name, NameMap}
use Rattle.core_language.specs.Programs.{Program}
use Rattle.core_language.specs.Values.{Value}
use Rattle.core_language.specs.Computing.{Limits}
use Rattle.core_language.specs.Configurations.{Config, Place, Ended, Task}
use Rattle.core_language.specs.Acts.{Act}
use Rattle.core_language.specs.Acts as act
use Rattle.core_language.specs.Steps.{Event, Step, Moves, Waits, IsEnded, IsAbsent, IsHalted, IsStuck, step_within}
use Rattle.core_language.specs.Steps as event

-- the tasks and the channels of a configuration
pub record State : Type 0 where
  pub tasks : NameMap Task
  pub channels : NameMap (Option Value)

abbrev pub state_of : Config → State
state_of C = record { tasks = C.tasks; channels = C.channels }

abbrev pub config_of : State → Config
config_of s = record { tasks = s.tasks; channels = s.channels; prints = [] }

-- what a move comes to, prints aside
abbrev pub moved_to : Step → Option (State × Event)
moved_to (Moves D e) = Some (state_of D, e)
moved_to (Waits c) = None
moved_to IsEnded = None
moved_to IsAbsent = None
moved_to (IsHalted why) = None
moved_to (IsStuck why) = None

abbrev pub step_state : Limits → Program → State → Name → Option (State × Event)
step_state limits P s p = moved_to (step_within limits P (config_of s) p)

-- ---- writes

-- what stands at a name afterwards; None is nothing
abbrev pub write : {X : Type 0} → NameMap X → Name × Option X → NameMap X
write m (p, None) = remove m p
write m (p, Some x) = insert m p x

abbrev pub write_all : {X : Type 0} → NameMap X → List (Name × Option X) → NameMap X
write_all m [] = m
write_all m (w ∷ ws) = write_all (write m w) ws

pub record Change : Type 0 where
  pub tasks : List (Name × Option Task)
  pub channels : List (Name × Option (Option Value))
  pub event : Event

abbrev pub becomes : Name → Place → ℕ → Name × Option Task
becomes p place k = (p, Some (record { place = place; forks = k }))

-- what the act of p, which has made so many forks, changes, where this stands on its channel
abbrev pub change : Name → ℕ → Act → Option (Option Value) → Option Change
change p k (act.Silent place) o = Some (record { tasks = becomes p place k ∷ []; channels = []; event = event.Silent })
change p k (act.Print z place) o = Some (record { tasks = becomes p place k ∷ []; channels = []; event = event.Print z })
change p k (act.Fork c parent its) o = Some (record { tasks = becomes p parent (suc k) ∷ becomes c its 0 ∷ []; channels = (c, Some None) ∷ []; event = event.Fork c })
change p k (act.Send c v place) (Some None) = Some (record { tasks = becomes p place k ∷ []; channels = (c, Some (Some v)) ∷ []; event = event.Send c })
change p k (act.Send c v place) (Some (Some u)) = None
change p k (act.Send c v place) None = None
change p k (act.Recv c place) (Some (Some v)) = Some (record { tasks = becomes p (place v) k ∷ []; channels = (c, None) ∷ []; event = event.Recv c })
change p k (act.Recv c place) (Some None) = None
change p k (act.Recv c place) None = None
change p k act.End o = Some (record { tasks = becomes p Ended k ∷ []; channels = []; event = event.End })
change p k act.IsEnded o = None
change p k (act.IsHalted why) o = None
change p k (act.IsStuck why) o = None

-- the channel that an act asks for
abbrev pub asks : Act → Name
asks (act.Send c v place) = c
asks (act.Recv c place) = c
asks other = []

abbrev pub happens : State → Change → State
happens s e = record { tasks = write_all s.tasks e.tasks; channels = write_all s.channels e.channels }

abbrev pub changed : State → Option Change → Option (State × Event)
changed s None = None
changed s (Some e) = Some (happens s e, e.event)

abbrev pub change_at : State → Name → ℕ → Act → Option Change
change_at s p k a = change p k a (get s.channels (asks a))
