-- Nested brackets, the smallest grammar with a name: a pair of brackets has any number of pairs within it, and its tree is the count of them all.
use Rattle.std.specs.Prelude.{◌≡◌, ℕ, suc, true, List, [], ◌∷◌, fold, ◌+◌}
use Rattle.grammar_laws.specs.Grammar.{Grammar, one, seq, many, call, nest, Got, Within}
use Rattle.grammar_laws.specs.Laws.{Language, Reads, IsOutcome, outcome}

-- the one name
pub data Name : Type 0 where
  Pair : Name

-- the count of the pairs
abbrev pub Count : Name → Type 0
Count Pair = ℕ

-- 0 opens a pair and 1 closes it
unfoldable pub pair : Grammar ℕ Name Count ℕ
pair = nest 0 (seq (λ n _. n) (many (0 ∷ []) (λ ns. suc (fold (λ a b. a + b) 0 ns)) (call Pair (λ n. n))) (one 1 (λ _. true) (λ t. t)))

abbrev pub body : (x : Name) → Grammar ℕ Name Count (Count x)
body Pair = pair

-- the tokens are their own codes
abbrev pub brackets : Language ℕ Name Count
brackets = record { code = λ t. t; firsts = λ _. 0 ∷ []; follows = λ _. []; body = body; sample = λ c _. c }

-- no tokens have two counts
abbrev pub IsUnique : Type 0
IsUnique = (x y : ℕ) (ts : List ℕ) → Reads brackets pair x ts → Reads brackets pair y ts → x ≡ y

-- what a reader answers is the outcome of the text
abbrev pub IsExact : Type 0
IsExact = (n : ℕ) (ts : List ℕ) → IsOutcome brackets n pair ts (outcome brackets n pair ts)

-- a count within n levels is what a reader answers
abbrev pub IsComplete : Type 0
IsComplete = (n x : ℕ) (ts : List ℕ) → Within (λ t. t) body n pair x ts → outcome brackets n pair ts ≡ Got x []
