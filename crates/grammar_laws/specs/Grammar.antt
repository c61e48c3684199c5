-- Grammars as values: which tree a list of tokens derives, and what a reader of one token ahead answers.
use Rattle.std.specs.Prelude.{◌≡◌, ℕ, zero, suc, ◌-◌, ◌⊎◌, Bool, true, false, ◌||◌, ◌&&◌, if◌then◌else◌, ◌==◌, List, [], ◌∷◌, ◌++◌, length, take}

-- the code is one of these
abbrev pub has : ℕ → List ℕ → Bool
has c [] = false
has c (d ∷ ds) = (c == d) || has c ds

-- What a reader answers: a tree and the tokens behind it, or the tokens that are left where the text is not in the grammar, or where it is too deep.
pub data Outcome (T A : Type 0) : Type 0 where
  Got : (x : A) (rest : List T) → Outcome T A
  Bad : (rest : List T) → Outcome T A
  Deep : (rest : List T) → Outcome T A

-- A grammar, and how it makes a tree of what is read. T is the type of tokens, and each token has a code. X has the names by which a
-- grammar may use itself, each with the type of its trees.
pub data Grammar (T X : Type 0) (Tree : X → Type 0) : Type 0 → Type 1 where
  -- nothing is read
  pure : {A : Type 0} → A → Grammar T X Tree A
  -- one token of this code that passes the test
  one : {A : Type 0} → (c : ℕ) → (T → Bool) → (T → A) → Grammar T X Tree A
  -- one part and then another
  seq : {A B C : Type 0} → (A → B → C) → Grammar T X Tree A → Grammar T X Tree B → Grammar T X Tree C
  -- One of two parts. The codes are those that the first may begin with.
  either : {A : Type 0} → List ℕ → Grammar T X Tree A → Grammar T X Tree A → Grammar T X Tree A
  -- Any number of items. The codes are those that an item may begin with.
  many : {A B : Type 0} → List ℕ → (List A → B) → Grammar T X Tree A → Grammar T X Tree B
  -- what the name stands for
  call : {B : Type 0} → (x : X) → (Tree x → B) → Grammar T X Tree B
  -- a part whose tree is made of its tokens too
  spanned : {A B : Type 0} → (List T → A → B) → Grammar T X Tree A → Grammar T X Tree B
  -- a token of this code that opens a level, and what is read at that level
  nest : {A : Type 0} → (c : ℕ) → Grammar T X Tree A → Grammar T X Tree A

-- a reader of the front of a list of tokens
abbrev pub Parser : Type 0 → Type 0 → Type 0
Parser T A = List T → Outcome T A

-- a relation between trees and the lists of their tokens
abbrev pub Reading : Type 0 → Type 0 → Type 1
Reading T A = A → List T → Type 0

-- a reader behind what was read
abbrev pub and_then : {T A B : Type 0} → Outcome T A → (A → Parser T B) → Outcome T B
and_then (Got x rest) f = f x rest
and_then (Bad rest) f = Bad rest
and_then (Deep rest) f = Deep rest

-- some tree may have no token
abbrev pub nullable : {T X : Type 0} {Tree : X → Type 0} {A : Type 0} → Grammar T X Tree A → Bool
nullable (pure x) = true
nullable (one c p f) = false
nullable (seq f a b) = nullable a && nullable b
nullable (either fs a b) = nullable a || nullable b
nullable (many fs f a) = true
nullable (call x f) = false
nullable (spanned f a) = nullable a
nullable (nest c a) = false

-- the codes that a tree's tokens may begin with
abbrev pub first : {T X : Type 0} {Tree : X → Type 0} {A : Type 0} → (X → List ℕ) → Grammar T X Tree A → List ℕ
first firsts (pure x) = []
first firsts (one c p f) = c ∷ []
first firsts (seq f a b) = if nullable a then first firsts a ++ first firsts b else first firsts a
first firsts (either fs a b) = fs ++ first firsts b
first firsts (many fs f a) = fs
first firsts (call x f) = firsts x
first firsts (spanned f a) = first firsts a
first firsts (nest c a) = c ∷ []

-- ---- what derives

-- the items' tokens, one after another
abbrev pub Each : {T A : Type 0} → Reading T A → List A → List T → Type 0
Each R [] ts = ts ≡ []
Each {T = T} R (x ∷ xs) ts = (u : List T) × (v : List T) × (ts ≡ u ++ v) × R x u × Each R xs v

module _ {T : Type 0} (code : T → ℕ) where
  module _ {X : Type 0} {Tree : X → Type 0} (calls : (x : X) → Reading T (Tree x)) (below : (A : Type 0) → Grammar T X Tree A → Reading T A) where
    -- The tree has these tokens, where names and what stands behind an opening token are read by the two given relations.
    abbrev pub Derives : {A : Type 0} → Grammar T X Tree A → Reading T A
    Derives (pure x) y ts = (y ≡ x) × (ts ≡ [])
    Derives (one c p f) y ts = (t : T) × (ts ≡ t ∷ []) × (code t ≡ c) × (p t ≡ true) × (y ≡ f t)
    Derives (seq {A = P} {B = Q} f a b) y ts = (x : P) × (z : Q) × (u : List T) × (v : List T) × (y ≡ f x z) × (ts ≡ u ++ v) × Derives a x u × Derives b z v
    Derives (either fs a b) y ts = Derives a y ts ⊎ Derives b y ts
    Derives (many {A = P} fs f a) y ts = (xs : List P) × (y ≡ f xs) × Each (Derives a) xs ts
    Derives (call x f) y ts = (z : Tree x) × (y ≡ f z) × calls x z ts
    Derives (spanned {A = P} f a) y ts = (x : P) × (y ≡ f ts x) × Derives a x ts
    Derives (nest {A = P} c a) y ts = (t : T) × (us : List T) × (ts ≡ t ∷ us) × (code t ≡ c) × below P a y us

  module _ {X : Type 0} {Tree : X → Type 0} (body : (x : X) → Grammar T X Tree (Tree x)) where
    -- what stands behind an opening token, where n more levels may be open with its own
    abbrev pub Below : ℕ → (A : Type 0) → Grammar T X Tree A → Reading T A
    Below zero A a y ts = ⊥
    Below (suc n) A a y ts = Derives (λ x. Derives (λ _ _ _. ⊥) (Below n) (body x)) (Below n) a y ts

    -- the name's tree, where n more levels may be open
    abbrev pub Named : ℕ → (x : X) → Reading T (Tree x)
    Named n x = Derives (λ _ _ _. ⊥) (Below n) (body x)

    -- The grammar derives the tree from the tokens within n levels.
    abbrev pub Within : ℕ → {A : Type 0} → Grammar T X Tree A → Reading T A
    Within n g = Derives (Named n) (Below n) g

  -- ---- what is read

  -- the next token has one of these codes
  abbrev pub next_in : List ℕ → List T → Bool
  next_in cs [] = false
  next_in cs (t ∷ ts) = has (code t) cs

  -- one token of this code that passes the test
  abbrev pub one_at : {A : Type 0} → ℕ → (T → Bool) → (T → A) → Parser T A
  one_at c p f [] = Bad []
  one_at c p f (t ∷ ts) = if (code t == c) && p t then Got (f t) ts else Bad (t ∷ ts)

  -- a token of this code, and then what the reader of that token reads
  abbrev pub opened : {A : Type 0} → ℕ → (T → Parser T A) → Parser T A
  opened c p [] = Bad []
  opened c p (t ∷ ts) = if code t == c then p t ts else Bad (t ∷ ts)

  -- items for as long as the next token has one of these codes, at most n of them, behind those that are found
  abbrev pub gather : {A : Type 0} → List ℕ → Parser T A → ℕ → List A → Parser T (List A)
  gather fs p zero found ts = Got found ts
  gather fs p (suc n) found ts = if next_in fs ts then and_then (p ts) (λ x rest. gather fs p n (found ++ x ∷ []) rest) else Got found ts

  module _ {X : Type 0} {Tree : X → Type 0} (firsts : X → List ℕ) where
    module _ (calls : (x : X) → Parser T (Tree x)) (below : (A : Type 0) → Grammar T X Tree A → T → Parser T A) where
      -- what a reader of one token ahead answers
      abbrev pub reads : {A : Type 0} → Grammar T X Tree A → Parser T A
      reads (pure x) ts = Got x ts
      reads (one c p f) ts = one_at c p f ts
      reads (seq f a b) ts = and_then (reads a ts) (λ x rest. and_then (reads b rest) (λ y r. Got (f x y) r))
      reads (either fs a b) ts = if next_in fs ts then reads a ts else reads b ts
      reads (many fs f a) ts = and_then (gather fs (reads a) (length ts) [] ts) (λ xs r. Got (f xs) r)
      reads (call x f) ts = and_then (calls x ts) (λ t r. Got (f t) r)
      reads (spanned f a) ts = and_then (reads a ts) (λ x r. Got (f (take (length ts - length r) ts) x) r)
      reads (nest {A = P} c a) ts = opened c (below P a) ts

    module _ (body : (x : X) → Grammar T X Tree (Tree x)) where
      -- what is read behind an opening token t, where n more levels may be open with its own
      unfoldable pub below : ℕ → (A : Type 0) → Grammar T X Tree A → T → Parser T A
      below zero A a t ts = Deep (t ∷ ts)
      below (suc n) A a t ts = reads (λ x. reads (λ y rest. Bad rest) (below n) (body x)) (below n) a ts

      -- a name, where n more levels may be open
      unfoldable pub named : ℕ → (x : X) → Parser T (Tree x)
      named n x = reads (λ y rest. Bad rest) (below n) (body x)

      -- a part of the grammar, where n more levels may be open
      abbrev pub within : ℕ → {A : Type 0} → Grammar T X Tree A → Parser T A
      within n g = reads (named n) (below n) g
