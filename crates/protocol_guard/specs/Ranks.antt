-- Ranks of places by which most of them are told to lie on no cycle, and a walk that finds ranks.
use Rattle.std.specs.Prelude.{◌≡◌, ◌≤◌, ◌<◌, ℕ, ◌+◌, ◌*◌, List, [], ◌∷◌, Some, get_or}
use Rattle.chan_syntax.specs.declared.operands.Letter.{Letter}
use Rattle.protocol_guard.specs.declared.graphs.Turns.{Turns}
use Rattle.protocol_guard.specs.declared.ranks.Visit.{Visit}
use Rattle.protocol_guard.specs.declared.ranks.Visit.TheVariants as visit
use Rattle.protocol_guard.specs.declared.ranks.Walk.{Walk}
use Rattle.protocol_guard.specs.Guards.{step}
use Rattle.protocol_guard.specs.Searches.{unseen}

abbrev pub rank : List ℕ → ℕ → ℕ
rank ranks i = get_or ranks i 0

-- no turn from the place leads to a higher rank
abbrev pub StaysDown : List Turns → List ℕ → ℕ → Type 0
StaysDown graph ranks i = (turn : Letter) (j : ℕ) → step graph i turn ≡ Some j → rank ranks j ≤ rank ranks i

-- no turn does
abbrev pub NeverRises : List Turns → List ℕ → Type 0
NeverRises graph ranks = (i : ℕ) → StaysDown graph ranks i

-- each turn from the place leads to a lower rank
abbrev pub Falls : List Turns → List ℕ → ℕ → Type 0
Falls graph ranks i = (turn : Letter) (j : ℕ) → step graph i turn ≡ Some j → rank ranks j < rank ranks i

-- ---- what a walk has still to do

abbrev pub weight : Visit → ℕ
weight (visit.Enter place) = 1
weight (visit.Take place turn) = 2
weight (visit.Leave place) = 1

abbrev pub weights : List Visit → ℕ
weights [] = 0
weights (v ∷ vs) = weight v + weights vs

-- a place that is found is taken two turns from, and left
abbrev pub effort : Walk → ℕ
effort walk = 5 * unseen walk.found.items + weights walk.visits.items
