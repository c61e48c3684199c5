-- What shapes and supplies that hold others are read as.
use Rattle.std.proofs.Common.{◌≡◌, ℕ, List, [], ◌∷◌, map as all_map, refl, ap}
use denote.Hole.Carrier.{hidden}
use mathlib.Core.Former.{this, list_count, list_put}
use mathlib.Core.List.{map}
use Rattle.core_language.specs.Operands as core
use Rattle.core_language.specs.Resources as resource
use Rattle.core_language.specs.Resources.{resources_from}
use Rattle.chan_syntax.specs.declared.operands.Supply.{Supply}
use Rattle.chan_syntax.specs.declared.operands.Supply.TheVariants as supply
use Rattle.chan_syntax.specs.declared.operands.Supply.TheBlock.{hidden-the_row-Supply-0}
use Rattle.chan_syntax.specs.declared.resources.Res.{Res}
use Rattle.chan_syntax.specs.declared.resources.Shape.TheVariants as shape
use Rattle.chan_syntax.specs.declared.resources.Shape.TheBlock.{hidden-the_row-Res-0, hidden-the_row-Res-1, back-the_row-Res}
use Rattle.chan_syntax.specs.Reading.{shape_of, resources_in, res_of, supply_of}

pub supply_pair : (a b : Supply) → supply_of (supply.Pair a b) ≡ core.Pair (supply_of a) (supply_of b)
unfolding hidden hidden-the_row-Supply-0
supply_pair a b = refl

pub supply_arm : (i : ℕ) (a : Supply) → supply_of (supply.Arm i a) ≡ core.Arm i (supply_of a)
unfolding hidden hidden-the_row-Supply-0
supply_arm i a = refl

pub shape_pair : (a b : Res) → shape_of (shape.Pair a b) ≡ resource.Pair (res_of a) (res_of b)
unfolding hidden hidden-the_row-Res-0
shape_pair a b = refl

rows : (rs : List Res) → resources_in (back-the_row-Res (list_count (this {0}) (map ((this {0}).shape Res) rs) 0) (list_put (this {0}) Res rs 0 (tt {0}))) ≡ resources_from (all_map res_of rs)
rows [] = refl
rows (r ∷ rs) = ap (resource.More (res_of r)) (rows rs)

pub shape_sum : (rs : List Res) → shape_of (shape.Sum rs) ≡ resource.Sum (resources_from (all_map res_of rs))
unfolding hidden hidden-the_row-Res-1
shape_sum rs = ap resource.Sum (rows rs)
