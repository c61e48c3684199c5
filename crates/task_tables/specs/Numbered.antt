-- How a table numbers its tasks.
use Rattle.std.specs.Prelude.{◌≡◌, ℕ, List, [], ◌∷◌, length, Some}
use Rattle.std.specs.List.{slice_get}
use Rattle.std.specs.Ordering.{nat_cmp}
use Rattle.std.specs.Cmp.Lexicographic.{slice_cmp}
use Rattle.std.specs.BTreeMap.{BTreeMap, get}
use Rattle.core_language.specs.Names.{Name}

-- each name with what has its number
abbrev pub rows_of : {X : Type 0} → List Name → List X → List (Name × X)
rows_of [] xs = []
rows_of (p ∷ ps) [] = []
rows_of (p ∷ ps) (x ∷ xs) = (p, x) ∷ rows_of ps xs

-- the index has each name's number, and nothing else
pub record IsNumbered (names : List Name) (numbers : BTreeMap Name ℕ) : Type 0 where
  pub leads : (k : ℕ) (p : Name) → slice_get names k ≡ Some p → get (slice_cmp nat_cmp) numbers p ≡ Some k
  pub stands : (p : Name) (k : ℕ) → get (slice_cmp nat_cmp) numbers p ≡ Some k → slice_get names k ≡ Some p

-- each number has a name and a task
pub record IsTable {X : Type 0} (names : List Name) (tasks : List X) (numbers : BTreeMap Name ℕ) : Type 0 where
  pub as_many : length tasks ≡ length names
  pub numbered : IsNumbered names numbers
