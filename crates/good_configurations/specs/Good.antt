-- Good configurations.
use Rattle.std.specs.Prelude.{◌≢◌, ℕ, ◌<◌, List, [], ◌∷◌, Option, Some, None}
use Rattle.std.specs.FinMap.{get}
use Rattle.core_language.specs.Names.{Name, child}
use Rattle.core_language.specs.Resources.{Proto}
use Rattle.core_language.specs.Values.{Value}
use Rattle.core_language.specs.Configurations.{Config, Task}
use Rattle.outline_language.specs.Equations.{Receives, Concrete, opposite}
use Rattle.graphs.specs.Graph.{task, channel}
use Rattle.good_configurations.specs.Values.{Use}
use Rattle.good_configurations.specs.Uses.{Uses, Holds, EndsAt, NoLeafIsEmpty}
use Rattle.good_configurations.specs.Messages.{Does, Carries}
use Rattle.good_configurations.specs.Acts.{Typing}

abbrev pub forks_at : Option Task → ℕ
forks_at None = 0
forks_at (Some t) = t.forks

-- the task stands at a place that has its uses
abbrev pub TaskGood : Typing → Uses → Name → Option Task → Type 0
TaskGood Typed all p None = Holds (task p) [] all
TaskGood Typed all p (Some t) = (us : List Use) × Typed t.place us × Holds (task p) us all

-- an empty channel has an end that receives and one that sends; a full one has the end that receives, and its value is the message of that
abbrev pub ChannelGood : List Proto → (Name → Concrete) → Uses → Name → Option (Option Value) → Type 0
ChannelGood protos ends all c None = Holds (channel c) [] all × EndsAt c [] all
ChannelGood protos ends all c (Some None) = Holds (channel c) [] all × EndsAt c (ends c ∷ opposite (ends c) ∷ []) all × Does protos (ends c) Receives
ChannelGood protos ends all c (Some (Some v)) =
    ((us : List Use) × Carries protos (ends c) v us × Holds (channel c) us all) × EndsAt c (ends c ∷ []) all × Does protos (ends c) Receives

-- each task and each channel is good, the ends form a forest, and what is named p.k was made by p, whose forks are more than k
pub record Good (protos : List Proto) (Typed : Typing) (C : Config) : Type 0 where
  pub ends : Name → Concrete
  pub uses : Uses
  pub tasks : (p : Name) → TaskGood Typed uses p (get C.tasks p)
  pub channels : (c : Name) → ChannelGood protos ends uses c (get C.channels c)
  pub forest : NoLeafIsEmpty uses
  pub named_task : (p : Name) (k : ℕ) → get C.tasks (child p k) ≢ None → k < forks_at (get C.tasks p)
  pub named_channel : (p : Name) (k : ℕ) → get C.channels (child p k) ≢ None → k < forks_at (get C.tasks p)
