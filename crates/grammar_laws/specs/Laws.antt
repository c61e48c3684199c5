-- What holds of a grammar that passes the tests.
use Rattle.std.specs.Prelude.{◌≡◌, ℕ, suc, Bool, ◌&&◌, List, [], ◌∷◌, ◌++◌}
use Rattle.grammar_laws.specs.Grammar.{Outcome, Got, Bad, Deep, Reading, Grammar, Within, Named, Below, within}
use Rattle.grammar_laws.specs.Levels.{Level}
use Rattle.grammar_laws.specs.Check.{guarded, decided, body_decided, made}

-- the same next token, or none
abbrev pub Same : {T : Type 0} → List T → List T → Type 0
Same [] [] = Unit {0}
Same [] (u ∷ us) = ⊥
Same (t ∷ ts) [] = ⊥
Same (t ∷ ts) (u ∷ us) = t ≡ u

-- what is left behind a whole text is a fault
abbrev pub finish : {T A : Type 0} → Outcome T A → Outcome T A
finish (Got x []) = Got x []
finish (Got x (t ∷ rest)) = Bad (t ∷ rest)
finish (Bad rest) = Bad rest
finish (Deep rest) = Deep rest

-- the names of a grammar with what they stand for, the codes that each may begin with and go on at, and a token for each code and test
pub record Language (T X : Type 0) (Tree : X → Type 0) : Type 1 where
  pub code : T → ℕ
  pub firsts : X → List ℕ
  pub follows : X → List ℕ
  pub body : (x : X) → Grammar T X Tree (Tree x)
  pub sample : ℕ → (T → Bool) → T

module _ {T X : Type 0} {Tree : X → Type 0} (l : Language T X Tree) where
  -- the tests of what a name stands for
  abbrev pub name_tests : (x : X) → Bool
  name_tests x = (guarded (l.body x) && made l.code l.sample (l.body x)) && body_decided l.firsts l.follows x (l.body x)

  -- the tests of a grammar over the names
  abbrev pub tests : {A : Type 0} → Grammar T X Tree A → Bool
  tests g = decided l.firsts l.follows g && made l.code l.sample g

  -- each name has a tree
  abbrev pub Samples : Type 0
  Samples = (x : X) → (n : ℕ) × (z : Tree x) × (w : List T) × Named l.code l.body n x z w

  -- the tree has these tokens, however deep
  abbrev pub Reads : {A : Type 0} → Grammar T X Tree A → A → List T → Type 0
  Reads g y ts = (n : ℕ) × Within l.code l.body n g y ts

  -- a name's tree has these tokens, however deep
  abbrev pub NamedAny : (x : X) → Reading T (Tree x)
  NamedAny x z ts = (m : ℕ) × Named l.code l.body m x z ts

  -- the tree has these tokens behind an opening token, however deep
  abbrev pub BelowAny : (A : Type 0) → Grammar T X Tree A → Reading T A
  BelowAny A a y ts = (m : ℕ) × Below l.code l.body m A a y ts

  -- in some text that begins with the tokens of front and then t, t opens level k
  abbrev pub OpensLevel : {A : Type 0} → ℕ → Grammar T X Tree A → List T → T → Type 0
  OpensLevel {A = A} k g front t = Level l.code NamedAny BelowAny l.body k A g front t

  -- some text of the grammar begins with the tokens
  abbrev pub Begun : {A : Type 0} → Grammar T X Tree A → List T → Type 0
  Begun {A = A} g front = (y : A) × (w : List T) × Reads g y (front ++ w)

  -- no text begins with the tokens of front and goes on with the next one of rest, or ends there where rest is empty
  abbrev pub Refused : {A : Type 0} → Grammar T X Tree A → List T → List T → Type 0
  Refused {A = A} g front rest = (other : List T) → Same rest other → (y : A) → Reads g y (front ++ other) → ⊥

  -- none of the tokens opens level k
  abbrev pub NoneOpens : {A : Type 0} → ℕ → Grammar T X Tree A → List T → Type 0
  NoneOpens k g front = (f : List T) (t : T) (more : List T) → front ≡ f ++ t ∷ more → OpensLevel k g f t → ⊥

  -- The first of the tokens that no text goes on with, or the end where all are only the front of a text. No token before it opens level k.
  pub record IsUnexpected {A : Type 0} (k : ℕ) (g : Grammar T X Tree A) (ts rest : List T) : Type 0 where
    pub front : List T
    pub parted : ts ≡ front ++ rest
    pub begun : Begun g front
    pub refused : Refused g front rest
    pub none_opens : NoneOpens k g front

  -- The first of the tokens that opens level k, and some text begins with the tokens up to it.
  pub record IsTooDeep {A : Type 0} (k : ℕ) (g : Grammar T X Tree A) (ts rest : List T) : Type 0 where
    pub front : List T
    pub token : T
    pub more : List T
    pub headed : rest ≡ token ∷ more
    pub parted : ts ≡ front ++ rest
    pub begun : Begun g (front ++ token ∷ [])
    pub opens : OpensLevel k g front token
    pub none_opens : NoneOpens k g front

  -- the outcome of a whole text within n levels
  abbrev pub IsOutcome : {A : Type 0} → ℕ → Grammar T X Tree A → List T → Outcome T A → Type 0
  IsOutcome n g ts (Got y rest) = (rest ≡ []) × Within l.code l.body n g y ts
  IsOutcome n g ts (Bad rest) = IsUnexpected (suc n) g ts rest
  IsOutcome n g ts (Deep rest) = IsTooDeep (suc n) g ts rest

  -- what a reader answers at a whole text
  abbrev pub outcome : {A : Type 0} → ℕ → Grammar T X Tree A → List T → Outcome T A
  outcome n g ts = finish (within l.code l.firsts l.body n g ts)
