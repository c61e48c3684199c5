-- A search by breadth: the places that it found in order, and the turns by which it came to them.
use Rattle.std.specs.Prelude.{◌≡◌, ◌≢◌, ◌⊎◌, ◌<◌, ◌≤◌, ℕ, ◌+◌, ◌*◌, suc, length, List, [], ◌∷◌, ◌++◌, Bool, true, false, Option, Some, None, get_or, slice_get}
use Rattle.chan_syntax.specs.declared.operands.Letter.{Letter}
use Rattle.chan_syntax.specs.declared.operands.Letter.TheVariants as letter
use Rattle.protocol_guard.specs.declared.graphs.Turns.{Turns}
use Rattle.protocol_guard.specs.declared.searches.Step.{Step}
use Rattle.protocol_guard.specs.declared.searches.Search.{Search}
use Rattle.protocol_guard.specs.Guards.{step, walk, Returns, IsShortestReturn}

abbrev pub bit : Letter → ℕ
bit letter.Left = 0
bit letter.Right = 1

-- the ways to the places: to the first the empty one, and to each other one turn more than to an earlier
unfoldable pub ways_from : List (List Letter) → List Step → List (List Letter)
ways_from ways [] = ways
ways_from ways (s ∷ ss) = ways_from (ways ++ (get_or ways s.from [] ++ s.turn ∷ []) ∷ []) ss

abbrev pub way_to : List Step → ℕ → List Letter
way_to steps k = get_or (ways_from ([] ∷ []) steps) k []

-- each step comes from the first place or from one that was found before
abbrev pub ComeBefore : List Step → Type 0
ComeBefore steps = (k : ℕ) (s : Step) → slice_get steps k ≡ Some s → s.from ≤ k

-- each turn leads to a place of the graph
abbrev pub IsClosed : List Turns → Type 0
IsClosed graph = (i : ℕ) (turn : Letter) (j : ℕ) → step graph i turn ≡ Some j → j < length graph

-- a way as a binary number: a way that comes before another has the lesser one
abbrev pub code_from : ℕ → List Letter → ℕ
code_from c [] = c
code_from c (t ∷ ts) = code_from (2 * c + bit t) ts

abbrev pub code : List Letter → ℕ
code way = code_from 1 way

-- the place with the number m among those found is j
abbrev pub Found : List ℕ → ℕ → ℕ → Type 0
Found places m j = (m < length places) × (get_or places m 0 ≡ j)

-- ---- the search from a place

-- what it keeps before the turn with the number t, which is a turn from the place t / 2
pub record Searched (graph : List Turns) (start : ℕ) (places : List ℕ) (steps : List Step) (seen : List Bool) (t : ℕ) : Type 0 where
  pub count : length places ≡ suc (length steps)
  pub marks : length seen ≡ length graph
  pub begins : get_or places 0 0 ≡ start
  pub inside : (k : ℕ) → k < length places → get_or places k 0 < length graph
  pub empty : way_to steps 0 ≡ []
  pub came : (k : ℕ) → k < length places → (k ≡ 0) ⊎ ((h : ℕ) × (turn : Letter) × (h < length places) × (2 * h + bit turn < t) × (way_to steps k ≡ way_to steps h ++ turn ∷ []))
  pub walks : (k : ℕ) → k < length places → walk graph start (way_to steps k) ≡ Some (get_or places k 0)
  pub ascend : (k m : ℕ) → k < m → m < length places → code (way_to steps k) < code (way_to steps m)
  pub taken : (k : ℕ) (turn : Letter) (j : ℕ) → k < length places → 2 * k + bit turn < t → step graph (get_or places k 0) turn ≡ Some j
      → (j ≢ start) × (m : ℕ) × Found places m j × (code (way_to steps m) ≤ 2 * code (way_to steps k) + bit turn)
  pub known : (v : ℕ) → get_or seen v false ≡ true → (m : ℕ) × Found places m v
  pub backward : ComeBefore steps

-- how many places are not seen
abbrev pub unseen : List Bool → ℕ
unseen [] = 0
unseen (true ∷ bs) = unseen bs
unseen (false ∷ bs) = suc (unseen bs)

abbrev pub IsSearch : List Turns → ℕ → Search → ℕ → Type 0
IsSearch graph start search t = Searched graph start search.places.items search.steps.items search.seen.items t

-- a turn from a place that was found leads back to the start, or the search goes on after it
abbrev pub Takes : List Turns → ℕ → Search → Search → ℕ → Letter → Bool → Type 0
Takes graph start old new at turn true = (new ≡ old) × (step graph (get_or old.places.items at 0) turn ≡ Some start)
Takes graph start old new at turn false =
    IsSearch graph start new (suc (2 * at + bit turn)) × (unseen new.seen.items + length new.places.items ≤ unseen old.seen.items + length old.places.items)

-- what the search comes to
abbrev pub IsAnswer : List Turns → ℕ → Option (List Letter) → Type 0
IsAnswer graph start None = (way : List Letter) → ¬ (Returns graph start way)
IsAnswer graph start (Some way) = IsShortestReturn graph start way
