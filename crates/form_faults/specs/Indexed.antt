-- Indexes of names.
use Rattle.std.specs.Cmp.Lexicographic.{slice_cmp}
use Rattle.std.specs.Ordering.{nat_cmp}
use Rattle.std.specs.BTreeMap.{BTreeMap, get}
use Rattle.std.specs.Prelude.{◌≡◌, ℕ, suc, if◌then◌else◌, List, [], ◌∷◌, Option, Some, None, option_map}
use Rattle.core_language.specs.Names.{Ident, same}

-- the place of the first with this name
abbrev pub place_of : {E : Type 0} → (E → Ident) → List E → Ident → Option ℕ
place_of name [] x = None
place_of name (e ∷ es) x = if same (name e) x then Some 0 else option_map suc (place_of name es x)

-- the index has it, for each name of the list
abbrev pub IsIndexed : {E : Type 0} → (E → Ident) → List E → BTreeMap Ident ℕ → Type 0
IsIndexed name es index = (x : Ident) (i : ℕ) → place_of name es x ≡ Some i → get (slice_cmp nat_cmp) index x ≡ Some i
