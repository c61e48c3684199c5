-- The names in operands, and the numbers that are noted for names.
use Rattle.std.specs.Prelude.{ℕ, if◌then◌else◌, Bool, ◌&&◌, leb, List, [], ◌∷◌, ◌++◌, Option, Some, None}
use Rattle.std.specs.Ordering.{nat_cmp}
use Rattle.std.specs.Cmp.Lexicographic.{slice_cmp}
use Rattle.std.specs.Option.{option_to_list}
use Rattle.std.specs.Global.{Vec}
use Rattle.std.specs.BTreeMap.{BTreeMap, get}
use Rattle.core_language.specs.Names.{Ident, same}
use Rattle.core_language.specs.Terms.{Term}
use Rattle.core_language.specs.Operands.{Supply}
use Rattle.core_language.specs.Operands as supply

-- ---- the names in operands, in their order

abbrev pub term_names : Term → List Ident
term_names [] = []
term_names (part ∷ parts) = option_to_list part.name ++ term_names parts

abbrev pub supply_names : Supply → List Ident
supply_names supply.Unit = []
supply_names (supply.Pair s t) = supply_names s ++ supply_names t
supply_names (supply.Arm i s) = supply_names s
supply_names (supply.Sum term) = term_names term

abbrev pub supplies_names : List Supply → List Ident
supplies_names [] = []
supplies_names (s ∷ ss) = supply_names s ++ supplies_names ss

-- ---- numbers by names

-- the number, as often as the list has the name
abbrev pub times : Ident → ℕ → List Ident → List ℕ
times x n [] = []
times x n (y ∷ ys) = if same x y then n ∷ times x n ys else times x n ys

abbrev pub numbers_of : Option (Vec ℕ) → List ℕ
numbers_of None = []
numbers_of (Some numbers) = numbers.items

abbrev pub uses_in : BTreeMap Ident (Vec ℕ) → Ident → List ℕ
uses_in index x = numbers_of (get (slice_cmp nat_cmp) index x)

-- from one number to another
abbrev pub is_between : ℕ → ℕ → ℕ → Bool
is_between low high n = leb low n && leb n high
