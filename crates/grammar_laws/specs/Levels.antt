-- Which level a token opens.
use Rattle.std.specs.Prelude.{◌≡◌, ℕ, zero, suc, ◌⊎◌, List, [], ◌∷◌, ◌++◌}
use Rattle.grammar_laws.specs.Grammar.{Reading, Grammar, pure, one, seq, either, many, call, spanned, nest, Each, Derives}

-- After these tokens, this one opens a level.
abbrev pub Opening : Type 0 → Type 1
Opening T = List T → T → Type 0

module _ {T : Type 0} (code : T → ℕ) {X : Type 0} {Tree : X → Type 0} (Calls : (x : X) → Reading T (Tree x)) (Below : (A : Type 0) → Grammar T X Tree A → Reading T A) where
  -- here: what a token opens that opens a level of the grammar itself; inner: what those open that stand behind it
  module _ (names : X → Opening T) (inner : (A : Type 0) → Grammar T X Tree A → Opening T) (here : Type 0) where
    -- in some text of the grammar that begins so, the token opens the level
    abbrev pub Opens : {A : Type 0} → Grammar T X Tree A → Opening T
    Opens (pure x) front t = ⊥
    Opens (one c p f) front t = ⊥
    Opens (seq {A = P} f a b) front t = Opens a front t ⊎ ((x : P) × (u : List T) × (v : List T) × (front ≡ u ++ v) × Derives code Calls Below a x u × Opens b v t)
    Opens (either fs a b) front t = Opens a front t ⊎ Opens b front t
    Opens (many {A = P} fs f a) front t = (xs : List P) × (u : List T) × (v : List T) × (front ≡ u ++ v) × Each (Derives code Calls Below a) xs u × Opens a v t
    Opens (call x f) front t = names x front t
    Opens (spanned f a) front t = Opens a front t
    Opens (nest {A = P} c a) front t = (here × (front ≡ []) × (code t ≡ c)) ⊎ ((s : T) × (us : List T) × (front ≡ s ∷ us) × (code s ≡ c) × inner P a us t)

  module _ (body : (x : X) → Grammar T X Tree (Tree x)) where
    -- the level is counted from 1
    abbrev pub Level : ℕ → (A : Type 0) → Grammar T X Tree A → Opening T
    Level zero A a front t = ⊥
    Level (suc k) A a front t = Opens (λ x. Opens (λ _ _ _. ⊥) (Level k) (k ≡ 0) (body x)) (Level k) (k ≡ 0) a front t
