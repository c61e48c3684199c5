-- The words of a tree, by its variant.
use Rattle.std.proofs.Common.{◌≡◌, ℕ, codes, List, [], ◌∷◌, ◌++◌, refl, ap}
use denote.Hole.Carrier.{hidden}
use mathlib.Core.Former.{this, list_count, list_put}
use mathlib.Core.List.{map}
use Rattle.chan_syntax.specs.declared.linear.Term.{Term}
use Rattle.chan_syntax.specs.declared.resources.Ref.{Ref}
use Rattle.chan_syntax.specs.declared.resources.Res.{Res}
use Rattle.chan_syntax.specs.declared.resources.Shape.TheVariants as s
use Rattle.chan_syntax.specs.declared.resources.Shape.TheBlock.{hidden-the_row-Res-0, hidden-the_row-Res-1, back-the_row-Res}
use Rattle.chan_syntax.specs.declared.operands.Supply.{Supply}
use Rattle.chan_syntax.specs.declared.operands.Supply.TheVariants as v
use Rattle.chan_syntax.specs.declared.operands.Supply.TheBlock.{hidden-the_row-Supply-0}
use Rattle.surface_spelling.specs.Layout.{keyword, mark, space, behind_commas, listed, in_parens, pair}
use Rattle.surface_spelling.specs.Operands.{term, binds_before, reference, shape, boxed_res, row_of_res, res_behind, res, tag, value, boxed_value}

-- ---- values

pub value_unit : value v.Unit ≡ in_parens []
unfolding value
value_unit = refl

pub value_pair : (a b : Supply) → value (v.Pair a b) ≡ pair (value a) (value b)
unfolding hidden hidden-the_row-Supply-0 value boxed_value
value_pair a b = refl

pub value_arm : (i : ℕ) (a : Supply) → value (v.Arm i a) ≡ tag i ++ space ∷ value a
unfolding hidden hidden-the_row-Supply-0 value boxed_value
value_arm i a = refl

pub value_sum : (t : Term) → value (v.Sum t) ≡ term t
unfolding value
value_sum t = refl

pub ruleset values = (value_unit, value_pair, value_arm, value_sum)

-- ---- shapes

pub shape_unit : shape s.Unit ≡ keyword (codes "unit") ∷ []
unfolding shape
shape_unit = refl

pub shape_int : (t : Term) → shape (s.Int t) ≡ keyword (codes "int") ∷ in_parens (term t)
unfolding shape
shape_int t = refl

pub shape_end : (r : Ref) → shape (s.End r) ≡ keyword (codes "end") ∷ space ∷ reference r
unfolding shape
shape_end r = refl

pub shape_pair : (a b : Res) → shape (s.Pair a b) ≡ pair (res a) (res b)
unfolding hidden hidden-the_row-Res-0 binds_before shape boxed_res res
shape_pair a b = refl

behind_row : (rs : List Res) → res_behind (back-the_row-Res (list_count (this {0}) (map ((this {0}).shape Res) rs) 0) (list_put (this {0}) Res rs 0 (tt {0}))) ≡ behind_commas res rs
unfolding binds_before shape res behind_commas
behind_row [] = refl
behind_row (r ∷ rs) = ap (λ ps. mark (codes ",") ∷ space ∷ res r ++ ps) (behind_row rs)

res_row : (rs : List Res) → row_of_res (back-the_row-Res (list_count (this {0}) (map ((this {0}).shape Res) rs) 0) (list_put (this {0}) Res rs 0 (tt {0}))) ≡ listed res rs
unfolding binds_before shape res listed
res_row [] = refl
res_row (r ∷ rs) = ap (λ ps. res r ++ ps) (behind_row rs)

pub shape_sum : (rs : List Res) → shape (s.Sum rs) ≡ keyword (codes "sum") ∷ in_parens (listed res rs)
unfolding hidden hidden-the_row-Res-1 shape
shape_sum rs = ap (λ ps. keyword (codes "sum") ∷ in_parens ps) (res_row rs)

pub ruleset shapes = (shape_unit, shape_int, shape_end, shape_pair, shape_sum)
