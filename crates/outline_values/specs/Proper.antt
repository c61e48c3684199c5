-- Shapes whose variables are those of a context, how deep they nest, and the values of a context's entries.
use Rattle.std.specs.Prelude.{◌≡◌, ℕ, suc, ◌+◌, ◌<◌, max, ℤ, Bool, true, false, List, [], ◌∷◌, ◌++◌, length}
use Rattle.core_language.specs.Resources.{Proto}
use Rattle.core_language.specs.Values.{Value}
use Rattle.core_language.specs.Computing.{Env}
use Rattle.outline_language.specs.LinearForms.{Var, Free, Inside, Multiple, LinearForm}
use Rattle.outline_language.specs.Nameless.{Ref, Limit, Shape, Res, Resources, Int, End, Pair, Sum, Binds, NoMore, More, has_end}
use Rattle.outline_language.specs.Nameless as shape
use Rattle.outline_language.specs.Contexts.{Entry}
use Rattle.good_configurations.specs.Values.{Use, HasShape}
use Rattle.outline_values.specs.Formed.{Knows}

-- ---- forms and shapes of so many integer variables, and under so many binders

abbrev pub ProperVar : ℕ → ℕ → Var → Type 0
ProperVar n d (Free i) = i < n
ProperVar n d (Inside i) = i < d

abbrev pub ProperParts : ℕ → ℕ → List Multiple → Type 0
ProperParts n d [] = Unit {0}
ProperParts n d (m ∷ ms) = ProperVar n d m.0 × ProperParts n d ms

abbrev pub ProperForm : ℕ → ℕ → LinearForm → Type 0
ProperForm n d f = ProperParts n d f.multiples

abbrev pub ProperForms : ℕ → ℕ → List LinearForm → Type 0
ProperForms n d [] = Unit {0}
ProperForms n d (f ∷ fs) = ProperForm n d f × ProperForms n d fs

abbrev pub ProperLimits : ℕ → ℕ → List Limit → Type 0
ProperLimits n d [] = Unit {0}
ProperLimits n d (l ∷ ls) = (ProperForm n d l.left × ProperForm n d l.right) × ProperLimits n d ls

abbrev pub ProperRef : List Proto → ℕ → ℕ → Ref → Type 0
ProperRef protos n d e = ProperForms n d e.args × Knows protos e.name (length e.args)

abbrev mutual
  pub ProperShape : List Proto → ℕ → ℕ → Shape → Type 0
  ProperShape protos n d shape.Unit = Unit {0}
  ProperShape protos n d (Int f) = ProperForm n d f
  ProperShape protos n d (End e) = ProperRef protos n d e
  ProperShape protos n d (Pair r s) = ProperRes protos n d r × ProperRes protos n d s
  ProperShape protos n d (Sum rs) = ProperResources protos n d rs

  pub ProperRes : List Proto → ℕ → ℕ → Res → Type 0
  ProperRes protos n d (Binds k limits s) = ProperLimits n (k + d) limits × ProperShape protos n (k + d) s

  pub ProperResources : List Proto → ℕ → ℕ → Resources → Type 0
  ProperResources protos n d NoMore = Unit {0}
  ProperResources protos n d (More r rs) = ProperRes protos n d r × ProperResources protos n d rs

-- ---- how deep shapes nest

abbrev mutual
  pub nest : Shape → ℕ
  nest shape.Unit = 0
  nest (Int f) = 0
  nest (End f) = 0
  nest (Pair r s) = suc (max (nest_res r) (nest_res s))
  nest (Sum rs) = suc (nest_resources rs)

  pub nest_res : Res → ℕ
  nest_res (Binds n limits s) = nest s

  pub nest_resources : Resources → ℕ
  nest_resources NoMore = 0
  nest_resources (More r rs) = max (nest_res r) (nest_resources rs)

-- ---- entries

-- a held entry's value has its shape and these uses; one that isn't held was an end, and has none
abbrev pub HasHeld : (ℕ → ℤ) → Value → Shape → Bool → List Use → Type 0
HasHeld w v s true us = HasShape w [] s v us
HasHeld w v s false us = (us ≡ []) × (has_end s ≡ true)

-- the variables are those of the entries, in order, and their values have these uses
abbrev pub HasEntries : List Proto → ℕ → (ℕ → ℤ) → Env → List Entry → List Use → Type 0
HasEntries protos n w [] [] us = us ≡ []
HasEntries protos n w [] (e ∷ es) us = ⊥
HasEntries protos n w (b ∷ F) [] us = ⊥
HasEntries protos n w (b ∷ F) (e ∷ es) us =
    (vs ws : List Use) × (us ≡ vs ++ ws) × (b.0 ≡ e.name) × ProperShape protos n 0 e.shape × HasHeld w b.1 e.shape e.held vs × HasEntries protos n w F es ws
