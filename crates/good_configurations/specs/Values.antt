-- When a value has a resource, and which ends it then uses.
use Rattle.std.specs.Prelude.{◌≡◌, ℕ, zero, suc, ℤ, pos, ◌+ℤ◌, ◌≤ℤ◌, List, [], ◌∷◌, ◌++◌, length}
use Rattle.core_language.specs.Names.{Name}
use Rattle.core_language.specs.Terms.{Relation, AtMost, Less, Same}
use Rattle.core_language.specs.Values.{Value}
use Rattle.core_language.specs.Values as value
use Rattle.outline_language.specs.LinearForms.{Var, form_at}
use Rattle.outline_language.specs.Nameless.{Limit, Shape, Res, Resources}
use Rattle.outline_language.specs.Nameless as resource
use Rattle.good_configurations.specs.Ends.{at, concrete}
use Rattle.outline_language.specs.Equations.{Concrete}

-- an end of a channel, and what it still does
abbrev pub Use : Type 0
Use = Name × Concrete

abbrev pub InRelation : Relation → ℤ → ℤ → Type 0
InRelation AtMost a b = a ≤ℤ b
InRelation Less a b = (a +ℤ pos 1) ≤ℤ b
InRelation Same a b = a ≡ b

-- the limit is kept
abbrev pub Keeps : (Var → ℤ) → Limit → Type 0
Keeps f limit = InRelation limit.relation (form_at f limit.left) (form_at f limit.right)

abbrev pub KeepsAll : (Var → ℤ) → List Limit → Type 0
KeepsAll f [] = Unit {0}
KeepsAll f (limit ∷ limits) = Keeps f limit × KeepsAll f limits

-- where integer variables and binders around have these values, the value has the resource, and uses just these ends
abbrev mutual
  pub Has : (ℕ → ℤ) → List ℤ → Res → Value → List Use → Type 0
  Has w b (resource.Binds n limits s) v us =
      (ks : List ℤ) × (length ks ≡ n) × KeepsAll (at w (ks ++ b)) limits × HasShape w (ks ++ b) s v us

  pub HasShape : (ℕ → ℤ) → List ℤ → Shape → Value → List Use → Type 0
  HasShape w b resource.Unit v us = (v ≡ value.Unit) × (us ≡ [])
  HasShape w b (resource.Int t) v us = (v ≡ value.Int (form_at (at w b) t)) × (us ≡ [])
  HasShape w b (resource.End e) v us = (c : Name) × (v ≡ value.End c) × (us ≡ (c, concrete (at w b) e) ∷ [])
  HasShape w b (resource.Pair r s) v us =
      (a d : Value) × (vs ws : List Use) × (v ≡ value.Pair a d) × (us ≡ vs ++ ws) × Has w b r a vs × Has w b s d ws
  HasShape w b (resource.Sum rs) v us = (i : ℕ) × (a : Value) × (v ≡ value.Arm i a) × HasArm w b rs i a us

  -- the value of the arm with this number, counted from 0
  pub HasArm : (ℕ → ℤ) → List ℤ → Resources → ℕ → Value → List Use → Type 0
  HasArm w b resource.NoMore i v us = ⊥
  HasArm w b (resource.More r rs) zero v us = Has w b r v us
  HasArm w b (resource.More r rs) (suc i) v us = HasArm w b rs i v us
