-- When an act fits the uses of the task that does it.
use Rattle.std.specs.Prelude.{◌≡◌, ◌⊎◌, ℕ, List, [], ◌∷◌, ◌++◌}
use Rattle.core_language.specs.Names.{Name, child}
use Rattle.core_language.specs.Resources.{Proto}
use Rattle.core_language.specs.Values.{Value}
use Rattle.core_language.specs.Configurations.{Place}
use Rattle.core_language.specs.Acts.{Act}
use Rattle.core_language.specs.Acts as act
use Rattle.outline_language.specs.Equations.{Sends, Receives, Concrete, opposite}
use Rattle.good_configurations.specs.Values.{Use}
use Rattle.good_configurations.specs.Uses.{AreSame}
use Rattle.good_configurations.specs.Messages.{Does, Carries}

-- when a place has just these uses
abbrev pub Typing : Type 1
Typing = Place → List Use → Type 0

-- the place has these uses, in whatever order
abbrev pub Stands : Typing → Place → List Use → Type 0
Stands Typed place us = (vs : List Use) × AreSame us vs × Typed place vs

-- what the task p, which has made so many forks, does with its uses. It is never stuck, and only a task without uses ends
abbrev pub Fits : List Proto → Typing → Name → ℕ → Act → List Use → Type 0
Fits protos Typed p forks (act.Silent place) us = Stands Typed place us
Fits protos Typed p forks (act.Print z place) us = Stands Typed place us
Fits protos Typed p forks (act.Fork c parent its) us =
    (e : Concrete) × (vs rest : List Use) × (c ≡ child p forks) × AreSame us (vs ++ rest) × (Does protos e Sends ⊎ Does protos e Receives)
    × Stands Typed parent ((c, e) ∷ rest) × Stands Typed its ((c, opposite e) ∷ vs)
Fits protos Typed p forks (act.Send c v place) us =
    (e : Concrete) × (vs rest : List Use) × AreSame us ((c, e) ∷ (vs ++ rest)) × Does protos e Sends × Carries protos e v vs × Stands Typed place rest
Fits protos Typed p forks (act.Recv c place) us =
    (e : Concrete) × (rest : List Use) × AreSame us ((c, e) ∷ rest) × Does protos e Receives
    × ((v : Value) (vs : List Use) → Carries protos e v vs → Stands Typed (place v) (vs ++ rest))
Fits protos Typed p forks act.End us = us ≡ []
Fits protos Typed p forks act.IsEnded us = us ≡ []
Fits protos Typed p forks (act.IsHalted why) us = ⊥
Fits protos Typed p forks (act.IsStuck why) us = ⊥
