-- The order of names, and their text.
use Rattle.std.specs.Prelude.{ℕ, List, [], ◌∷◌, ◌++◌, codes, Option, Some, None}
use Rattle.std.specs.Global.{Vec, Global}
use Rattle.std.specs.Arc.{arc_value}
use Rattle.std.specs.declared.sync.Arc.{Arc}
use Rattle.std.specs.List.{flat_map}
use Rattle.std.specs.Fmt.{decimal}
use Rattle.std.specs.Ordering.{nat_cmp}
use Rattle.std.specs.Cmp.Lexicographic.{slice_cmp}
use Rattle.std.specs.declared.cmp.Ordering.{Ordering}

-- part by part, and a front comes before what goes on
abbrev pub order : List ℕ → List ℕ → Ordering
order = slice_cmp nat_cmp

-- a dot and the number
abbrev pub part_text : ℕ → List ℕ
part_text k = 46 ∷ decimal k

-- `main`, and then the parts
abbrev pub name_text : List ℕ → List ℕ
name_text parts = codes "main" ++ flat_map part_text parts

-- the parts that a name shares with its copies
abbrev pub parts_in : Option (Arc (Vec ℕ) Global) → List ℕ
parts_in None = []
parts_in (Some parts) = (arc_value parts).items
