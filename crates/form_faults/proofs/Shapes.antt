-- The faults of shapes and values, by their variants.
use Rattle.std.proofs.Common.{◌≡◌, ℕ, suc, max, ◌+◌, List, [], ◌∷◌, ◌++◌, refl, ap, ◌∙◌, arith}
use denote.Hole.Carrier.{hidden}
use mathlib.Core.Former.{this, list_count, list_put}
use mathlib.Core.List.{map}
use Rattle.chan_syntax.specs.declared.linear.Term.{Term}
use Rattle.chan_syntax.specs.declared.resources.Ref.{Ref}
use Rattle.chan_syntax.specs.declared.resources.Res.{Res}
use Rattle.chan_syntax.specs.declared.resources.Shape.TheVariants as s
use Rattle.chan_syntax.specs.declared.resources.Shape.TheBlock.{hidden-the_row-Res-0, hidden-the_row-Res-1, back-the_row-Res}
use Rattle.chan_syntax.specs.declared.operands.Supply.{Supply}
use Rattle.chan_syntax.specs.declared.operands.Supply.TheVariants as v
use Rattle.chan_syntax.specs.declared.operands.Supply.TheBlock.{hidden-the_row-Supply-0}
use Rattle.form_faults.specs.declared.sorts.Naming.TheVariants as naming
use Rattle.form_faults.specs.declared.sorts.Known.{Known}
use Rattle.form_faults.specs.declared.signatures.Signature.{Signature}
use Rattle.form_faults.specs.Terms.{term_faults, fixed_term_faults, fixed_ref_faults}
use Rattle.form_faults.specs.Resources.{shape_faults, res_in_faults, row_faults, res_faults, resources_faults, depth_of, depth_in, row_depth, greatest_depth}
use Rattle.form_faults.specs.Operands.{supply_faults, supply_in_faults}

-- ---- shapes

pub shape_unit : (protos : List Signature) (scope : List Known) → shape_faults protos scope s.Unit ≡ []
unfolding shape_faults
shape_unit protos scope = refl

pub shape_int : (protos : List Signature) (scope : List Known) (t : Term) → shape_faults protos scope (s.Int t) ≡ fixed_term_faults scope t
unfolding shape_faults
shape_int protos scope t = refl

pub shape_end : (protos : List Signature) (scope : List Known) (r : Ref) → shape_faults protos scope (s.End r) ≡ fixed_ref_faults protos scope r
unfolding shape_faults
shape_end protos scope r = refl

pub shape_pair : (protos : List Signature) (scope : List Known) (a b : Res) → shape_faults protos scope (s.Pair a b) ≡ res_faults protos scope a ++ res_faults protos scope b
unfolding hidden hidden-the_row-Res-0 shape_faults res_in_faults res_faults
shape_pair protos scope a b = refl

rows : (protos : List Signature) (scope : List Known) (rs : List Res) → row_faults protos scope (back-the_row-Res (list_count (this {0}) (map ((this {0}).shape Res) rs) 0) (list_put (this {0}) Res rs 0 (tt {0}))) ≡ resources_faults protos scope rs
unfolding row_faults res_faults resources_faults
rows protos scope [] = refl
rows protos scope (r ∷ rs) = ap (λ fs. res_faults protos scope r ++ fs) (rows protos scope rs)

pub shape_sum : (protos : List Signature) (scope : List Known) (rs : List Res) → shape_faults protos scope (s.Sum rs) ≡ resources_faults protos scope rs
unfolding hidden hidden-the_row-Res-1 shape_faults
shape_sum protos scope rs = rows protos scope rs

pub ruleset shapes = (shape_unit, shape_int, shape_end, shape_pair, shape_sum)

-- ---- depths

pub depth_unit : depth_of s.Unit ≡ 0
unfolding depth_of
depth_unit = refl

pub depth_int : (t : Term) → depth_of (s.Int t) ≡ 0
unfolding depth_of
depth_int t = refl

pub depth_end : (r : Ref) → depth_of (s.End r) ≡ 0
unfolding depth_of
depth_end r = refl

pub depth_pair : (a b : Res) → depth_of (s.Pair a b) ≡ max (depth_of a.shape) (depth_of b.shape) + 1
unfolding hidden hidden-the_row-Res-0 depth_of depth_in
depth_pair a b = omega arith

one_more : (n : ℕ) → suc n ≡ n + 1
one_more n = omega arith

deepest : (rs : List Res) → row_depth (back-the_row-Res (list_count (this {0}) (map ((this {0}).shape Res) rs) 0) (list_put (this {0}) Res rs 0 (tt {0}))) ≡ greatest_depth rs
unfolding row_depth greatest_depth
deepest [] = refl
deepest (r ∷ rs) = ap (max (depth_of r.shape)) (deepest rs)

pub depth_sum : (rs : List Res) → depth_of (s.Sum rs) ≡ greatest_depth rs + 1
unfolding hidden hidden-the_row-Res-1 depth_of
depth_sum rs = ap suc (deepest rs) ∙ one_more (greatest_depth rs)

pub ruleset depths = (depth_unit, depth_int, depth_end, depth_pair, depth_sum)

-- ---- values

pub supply_unit : (scope : List Known) → supply_faults scope v.Unit ≡ []
unfolding supply_faults
supply_unit scope = refl

pub supply_pair : (scope : List Known) (a b : Supply) → supply_faults scope (v.Pair a b) ≡ supply_faults scope a ++ supply_faults scope b
unfolding hidden hidden-the_row-Supply-0 supply_faults supply_in_faults
supply_pair scope a b = refl

pub supply_arm : (scope : List Known) (i : ℕ) (a : Supply) → supply_faults scope (v.Arm i a) ≡ supply_faults scope a
unfolding hidden hidden-the_row-Supply-0 supply_faults supply_in_faults
supply_arm scope i a = refl

pub supply_sum : (scope : List Known) (t : Term) → supply_faults scope (v.Sum t) ≡ term_faults naming.Variables scope t
unfolding supply_faults
supply_sum scope t = refl

pub ruleset supplies = (supply_unit, supply_pair, supply_arm, supply_sum)
