-- How many binders outwards variables stand at most.
use Rattle.std.specs.Prelude.{ℕ, suc, max, List, [], ◌∷◌}
use Rattle.outline_language.specs.LinearForms.{Var, Free, Inside, Multiple}

-- none for an integer variable
abbrev pub var_reach : Var → ℕ
var_reach (Free i) = 0
var_reach (Inside i) = suc i

abbrev pub multiples_reach : List Multiple → ℕ
multiples_reach [] = 0
multiples_reach (m ∷ ms) = max (var_reach m.0) (multiples_reach ms)
