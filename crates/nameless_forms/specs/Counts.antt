-- Counts of variables, as the map of a sum has them.
use Rattle.std.specs.Prelude.{ℕ, ℤ, pos, List, map, unwrap_or}
use Rattle.std.specs.List.{range_with_len}
use Rattle.std.specs.BTreeMap.{is_at}
use Rattle.std.specs.Map.{lookup, remove_entry}
use Rattle.outline_language.specs.LinearForms.{Var, Multiple, Free, variable_order}

-- how often the variable counts
abbrev pub count_in : Var → List Multiple → ℤ
count_in v ms = unwrap_or (lookup (is_at (variable_order v)) ms) (pos 0)

-- the multiples of the others
abbrev pub others_in : Var → List Multiple → List Multiple
others_in v ms = remove_entry (is_at (variable_order v)) ms

-- how often each of so many integer variables counts
abbrev pub coefficients_in : ℕ → List Multiple → List ℤ
coefficients_in variables ms = map (λ i. count_in (Free i) ms) (range_with_len 0 variables)
