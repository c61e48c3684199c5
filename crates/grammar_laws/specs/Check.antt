-- Tests of a grammar: that one token ahead decides, that what is begun can be ended, and that its names recur behind opening tokens alone.
use Rattle.std.specs.Prelude.{ℕ, Bool, true, false, not, ◌&&◌, if◌then◌else◌, ◌==◌, List, [], ◌∷◌, ◌++◌}
use Rattle.grammar_laws.specs.Grammar.{has, Grammar, pure, one, seq, either, many, call, spanned, nest, nullable, first}

-- no code is in both
abbrev pub apart : List ℕ → List ℕ → Bool
apart [] ds = true
apart (c ∷ cs) ds = not (has c ds) && apart cs ds

-- the first codes are among the others
abbrev pub all_in : List ℕ → List ℕ → Bool
all_in [] ds = true
all_in (c ∷ cs) ds = has c ds && all_in cs ds

-- Each name stands behind an opening token, so that each use of it is a level deeper.
abbrev pub guarded : {T X : Type 0} {Tree : X → Type 0} {A : Type 0} → Grammar T X Tree A → Bool
guarded (pure x) = true
guarded (one c p f) = true
guarded (seq f a b) = guarded a && guarded b
guarded (either fs a b) = guarded a && guarded b
guarded (many fs f a) = guarded a
guarded (call x f) = false
guarded (spanned f a) = guarded a
guarded (nest c a) = true

module _ {T X : Type 0} {Tree : X → Type 0} (firsts follows : X → List ℕ) where
  -- the codes at which the tokens of a whole tree may go on to those of another
  abbrev pub follow : {A : Type 0} → Grammar T X Tree A → List ℕ
  follow (pure x) = []
  follow (one c p f) = []
  follow (seq f a b) = follow b ++ (if nullable b then follow a ++ first firsts b else [])
  follow (either fs a b) = (follow a ++ follow b) ++ (if nullable b then fs ++ first firsts b else [])
  follow (many fs f a) = fs ++ follow a
  follow (call x f) = follows x
  follow (spanned f a) = follow a
  follow (nest c a) = follow a

  -- wherever two parts or two turns may come next, the next token tells them apart
  abbrev pub decided : {A : Type 0} → Grammar T X Tree A → Bool
  decided (pure x) = true
  decided (one c p f) = true
  decided (seq f a b) = (decided a && decided b) && apart (follow a) (first firsts b)
  decided (either fs a b) = (decided a && decided b) && (apart fs (first firsts b) && (not (nullable a) && all_in (first firsts a) fs))
  decided (many fs f a) = (decided a && not (nullable a)) && (apart (follow a) fs && all_in (first firsts a) fs)
  decided (call x f) = true
  decided (spanned f a) = decided a
  decided (nest c a) = decided a

  -- what a name stands for is decided, reads a token, and has the codes that are listed for the name
  abbrev pub body_decided : (x : X) → Grammar T X Tree (Tree x) → Bool
  body_decided x g = (decided g && not (nullable g)) && (all_in (first firsts g) (firsts x) && all_in (follow g) (follows x))

-- Samples: for each code and each test a token of that code, which passes the test where one does.
module _ {T X : Type 0} {Tree : X → Type 0} (code : T → ℕ) (sample : ℕ → (T → Bool) → T) where
  -- Each code that the grammar takes has its sample, which passes the test there, so that whatever is begun can be ended.
  abbrev pub made : {A : Type 0} → Grammar T X Tree A → Bool
  made (pure x) = true
  made (one c p f) = (code (sample c p) == c) && p (sample c p)
  made (seq f a b) = made a && made b
  made (either fs a b) = made a && made b
  made (many fs f a) = made a
  made (call x f) = true
  made (spanned f a) = made a
  made (nest c a) = (code (sample c (λ _. true)) == c) && made a
