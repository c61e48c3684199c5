-- The numbers that the nodes of the programs of the cases name.
use Rattle.std.specs.Prelude.{ℕ, List, [], ◌∷◌}

-- one function, from its first node on
abbrev pub chain : List (List ℕ)
chain = (1 ∷ []) ∷ (2 ∷ []) ∷ (3 ∷ []) ∷ [] ∷ []

-- two functions that begin at 0 and at 3
abbrev pub mixed : List (List ℕ)
mixed = (5 ∷ 2 ∷ []) ∷ (6 ∷ []) ∷ [] ∷ (7 ∷ []) ∷ [] ∷ [] ∷ [] ∷ (1 ∷ 4 ∷ []) ∷ []
