-- Shapes without ends use none, shapes that are the same are equal, and values are nested no deeper than their shapes.
use Rattle.std.proofs.Common.{◌≡◌, ℕ, zero, suc, ◌+◌, ◌≤◌, max, ℤ, Bool, true, false, not, ◌&&◌, ◌||◌, if◌then◌else◌, nat_eq, List, [], ◌∷◌, ◌++◌, map, length, Option, Some, None, refl, ap, sym, subst, ◌∙◌, arith}
use Rattle.std.proofs.lemmas.Bool.{and_parts, eqb-true}
use Rattle.std.specs.Cmp.Lexicographic.{pointwise}
use Rattle.core_language.specs.Names.{Ident, same}
use Rattle.core_language.specs.Terms.{Relation, AtMost, Less, Same}
use Rattle.core_language.specs.Values.{Value, depth}
use Rattle.core_language.specs.Values as value
use Rattle.outline_language.specs.LinearForms.{LinearForm, same_form}
use Rattle.outline_language.specs.Nameless.{Ref, Limit, Shape, Res, Resources, Int, End, Pair, Sum, Binds, NoMore, More, nameless_shape, nameless_res, nameless_resources, shape_with, res_with, resources_with, has_end, has_end_inside, have_end, same_bool, same_relation, same_limit, same_ref, same_shape, same_res, same_resources}
use Rattle.outline_language.specs.Nameless as shape
use Rattle.core_language.specs.Resources as written
use Rattle.outline_values.specs.Proper.{nest, nest_res, nest_resources}
use Rattle.outline_values.specs.Formed.{nest_shape, nest_resource, nest_arms}
use Rattle.good_configurations.specs.Values.{Use, Has, HasShape, HasArm}
use Rattle.outline_values.proofs.Forms.{same_form-is}

or_parts : (a b : Bool) → (a || b) ≡ false → (a ≡ false) × (b ≡ false)
or_parts true b e = cc
or_parts false b e = (refl, e)

-- ---- no ends

mutual
  pub no_uses : (w : ℕ → ℤ) (b : List ℤ) (s : Shape) (v : Value) (us : List Use) → has_end s ≡ false → HasShape w b s v us → us ≡ []
  no_uses w b shape.Unit v us e has = has.1
  no_uses w b (Int f) v us e has = has.1
  no_uses w b (End f) v us e has = cc
  no_uses w b (Pair r s) v us e (a, d, vs, ws, is, split, first, second) =
      let x = or_parts (has_end_inside r) (has_end_inside s) e in
      split ∙ ap (λ z. z ++ ws) (no_uses_inside w b r a vs (x.0) first) ∙ no_uses_inside w b s d ws (x.1) second
  no_uses w b (Sum rs) v us e (i, a, is, arm) = no_uses_arm w b rs i a us e arm

  pub no_uses_inside : (w : ℕ → ℤ) (b : List ℤ) (r : Res) (v : Value) (us : List Use) → has_end_inside r ≡ false → Has w b r v us → us ≡ []
  no_uses_inside w b (Binds n limits s) v us e (ks, len, keeps, has) = no_uses w (ks ++ b) s v us e has

  pub no_uses_arm : (w : ℕ → ℤ) (b : List ℤ) (rs : Resources) (i : ℕ) (v : Value) (us : List Use) → have_end rs ≡ false → HasArm w b rs i v us → us ≡ []
  no_uses_arm w b NoMore i v us e has = absurd has
  no_uses_arm w b (More r rs) zero v us e has = no_uses_inside w b r v us ((or_parts (has_end_inside r) (have_end rs) e).0) has
  no_uses_arm w b (More r rs) (suc i) v us e has = no_uses_arm w b rs i v us ((or_parts (has_end_inside r) (have_end rs) e).1) has

-- ---- how deep shapes nest

mutual
  pub nest-with : (insts : List LinearForm) (d : ℕ) (s : Shape) → nest (shape_with insts d s) ≡ nest s
  nest-with insts d shape.Unit = refl
  nest-with insts d (Int f) = refl
  nest-with insts d (End f) = refl
  nest-with insts d (Pair r s) = rw (nest_res-with insts d r, nest_res-with insts d s) refl
  nest-with insts d (Sum rs) = ap suc (nest_resources-with insts d rs)

  pub nest_res-with : (insts : List LinearForm) (d : ℕ) (r : Res) → nest_res (res_with insts d r) ≡ nest_res r
  nest_res-with insts d (Binds n limits s) = nest-with insts (n + d) s

  pub nest_resources-with : (insts : List LinearForm) (d : ℕ) (rs : Resources) → nest_resources (resources_with insts d rs) ≡ nest_resources rs
  nest_resources-with insts d NoMore = refl
  nest_resources-with insts d (More r rs) = rw (nest_res-with insts d r, nest_resources-with insts d rs) refl

module _ (ints : List Ident) where
  mutual
    pub nest-read : (around : List Ident) (s : written.Shape) → nest (nameless_shape ints around s) ≡ nest_shape s
    nest-read around written.Unit = refl
    nest-read around (written.Int t) = refl
    nest-read around (written.End ref) = refl
    nest-read around (written.Pair r s) = rw (nest_res-read around r, nest_res-read around s) refl
    nest-read around (written.Sum rs) = ap suc (nest_resources-read around rs)

    pub nest_res-read : (around : List Ident) (r : written.Res) → nest_res (nameless_res ints around r) ≡ nest_resource r
    nest_res-read around (written.Binds b s) = nest-read (b.names ++ around) s

    pub nest_resources-read : (around : List Ident) (rs : written.Resources) → nest_resources (nameless_resources ints around rs) ≡ nest_arms rs
    nest_resources-read around written.NoMore = refl
    nest_resources-read around (written.More r rs) = rw (nest_res-read around r, nest_resources-read around rs) refl

mutual
  pub depth-nest : (w : ℕ → ℤ) (b : List ℤ) (s : Shape) (v : Value) (us : List Use) → HasShape w b s v us → depth v ≤ nest s
  depth-nest w b shape.Unit v us (is, none) = rw is (omega arith)
  depth-nest w b (Int f) v us (is, none) = rw is (omega arith)
  depth-nest w b (End f) v us (c, is, its) = rw is (omega arith)
  depth-nest w b (Pair r s) v us (a, d, vs, ws, is, split, first, second) = rw is (omega (arith, depth-nest_res w b r a vs first, depth-nest_res w b s d ws second))
  depth-nest w b (Sum rs) v us (i, a, is, arm) = rw is (omega (arith, depth-nest_arm w b rs i a us arm))

  pub depth-nest_res : (w : ℕ → ℤ) (b : List ℤ) (r : Res) (v : Value) (us : List Use) → Has w b r v us → depth v ≤ nest_res r
  depth-nest_res w b (Binds n limits s) v us (ks, len, keeps, has) = depth-nest w (ks ++ b) s v us has

  pub depth-nest_arm : (w : ℕ → ℤ) (b : List ℤ) (rs : Resources) (i : ℕ) (v : Value) (us : List Use) → HasArm w b rs i v us → depth v ≤ nest_resources rs
  depth-nest_arm w b NoMore i v us has = absurd has
  depth-nest_arm w b (More r rs) zero v us has = omega (arith, depth-nest_res w b r v us has)
  depth-nest_arm w b (More r rs) (suc i) v us has = omega (arith, depth-nest_arm w b rs i v us has)

-- ---- equal shapes

same_bool-is : (a b : Bool) → same_bool a b ≡ true → a ≡ b
same_bool-is true true e = refl
same_bool-is true false e = cc
same_bool-is false true e = cc
same_bool-is false false e = refl

same_list : (xs ys : List ℕ) → same xs ys ≡ true → xs ≡ ys
same_list [] [] e = refl
same_list [] (y ∷ ys) e = cc
same_list (x ∷ xs) [] e = cc
same_list (x ∷ xs) (y ∷ ys) e = let a = and_parts (nat_eq x y) (pointwise nat_eq xs ys) e in joined (eqb-true x y (a.0)) (same_list xs ys (a.1))
  where
    joined : x ≡ y → xs ≡ ys → x ∷ xs ≡ y ∷ ys
    joined p q = λ i. p i ∷ q i

pub same-is : (x y : Ident) → same x y ≡ true → x ≡ y
same-is x y e = same_list x y e

pub mark-is : (a b : Bool) → same_bool a b ≡ true → a ≡ b
mark-is a b e = same_bool-is a b e

same_relation-is : (a b : Relation) → same_relation a b ≡ true → a ≡ b
same_relation-is AtMost AtMost e = refl
same_relation-is Less Less e = refl
same_relation-is Same Same e = refl
same_relation-is AtMost Less e = cc
same_relation-is AtMost Same e = cc
same_relation-is Less AtMost e = cc
same_relation-is Less Same e = cc
same_relation-is Same AtMost e = cc
same_relation-is Same Less e = cc

same_forms-is : (fs gs : List LinearForm) → pointwise same_form fs gs ≡ true → fs ≡ gs
same_forms-is [] [] e = refl
same_forms-is [] (g ∷ gs) e = cc
same_forms-is (f ∷ fs) [] e = cc
same_forms-is (f ∷ fs) (g ∷ gs) e = let a = and_parts (same_form f g) (pointwise same_form fs gs) e in joined (same_form-is f g (a.0)) (same_forms-is fs gs (a.1))
  where
    joined : f ≡ g → fs ≡ gs → f ∷ fs ≡ g ∷ gs
    joined p q = λ i. p i ∷ q i

same_limits-is : (ls ms : List Limit) → pointwise same_limit ls ms ≡ true → ls ≡ ms
same_limits-is [] [] e = refl
same_limits-is [] (m ∷ ms) e = cc
same_limits-is (l ∷ ls) [] e = cc
same_limits-is (l ∷ ls) (m ∷ ms) e =
    let a = and_parts (same_limit l m) (pointwise same_limit ls ms) e in
    let b = and_parts (same_form (l.left) (m.left) && same_relation (l.relation) (m.relation)) (same_form (l.right) (m.right)) (a.0) in
    let c = and_parts (same_form (l.left) (m.left)) (same_relation (l.relation) (m.relation)) (b.0) in
    joined (same_form-is (l.left) (m.left) (c.0)) (same_relation-is (l.relation) (m.relation) (c.1)) (same_form-is (l.right) (m.right) (b.1)) (same_limits-is ls ms (a.1))
  where
    joined : l.left ≡ m.left → l.relation ≡ m.relation → l.right ≡ m.right → ls ≡ ms → l ∷ ls ≡ m ∷ ms
    joined p q r s = λ i. (record { left = p i; relation = q i; right = r i }) ∷ s i

mutual
  pub same_shape-is : (s t : Shape) → same_shape s t ≡ true → s ≡ t
  same_shape-is shape.Unit shape.Unit e = refl
  same_shape-is (Int f) (Int g) e = ap Int (same_form-is f g e)
  same_shape-is (End f) (End g) e =
      let a = and_parts (same_bool (f.dual) (g.dual) && same (f.name) (g.name)) (pointwise same_form (f.args) (g.args)) e in
      let b = and_parts (same_bool (f.dual) (g.dual)) (same (f.name) (g.name)) (a.0) in
      joined (same_bool-is (f.dual) (g.dual) (b.0)) (same-is (f.name) (g.name) (b.1)) (same_forms-is (f.args) (g.args) (a.1))
    where
      joined : f.dual ≡ g.dual → f.name ≡ g.name → f.args ≡ g.args → End f ≡ End g
      joined p q r = λ i. End (record { dual = p i; name = q i; args = r i })
  same_shape-is (Pair r s) (Pair t u) e = let a = and_parts (same_res r t) (same_res s u) e in joined (same_res-is r t (a.0)) (same_res-is s u (a.1))
    where
      joined : r ≡ t → s ≡ u → Pair r s ≡ Pair t u
      joined p q = λ i. Pair (p i) (q i)
  same_shape-is (Sum rs) (Sum ts) e = ap Sum (same_resources-is rs ts e)
  same_shape-is shape.Unit (Int g) e = cc
  same_shape-is shape.Unit (End g) e = cc
  same_shape-is shape.Unit (Pair t u) e = cc
  same_shape-is shape.Unit (Sum ts) e = cc
  same_shape-is (Int f) shape.Unit e = cc
  same_shape-is (Int f) (End g) e = cc
  same_shape-is (Int f) (Pair t u) e = cc
  same_shape-is (Int f) (Sum ts) e = cc
  same_shape-is (End f) shape.Unit e = cc
  same_shape-is (End f) (Int g) e = cc
  same_shape-is (End f) (Pair t u) e = cc
  same_shape-is (End f) (Sum ts) e = cc
  same_shape-is (Pair r s) shape.Unit e = cc
  same_shape-is (Pair r s) (Int g) e = cc
  same_shape-is (Pair r s) (End g) e = cc
  same_shape-is (Pair r s) (Sum ts) e = cc
  same_shape-is (Sum rs) shape.Unit e = cc
  same_shape-is (Sum rs) (Int g) e = cc
  same_shape-is (Sum rs) (End g) e = cc
  same_shape-is (Sum rs) (Pair t u) e = cc

  pub same_res-is : (r t : Res) → same_res r t ≡ true → r ≡ t
  same_res-is (Binds n limits s) (Binds m others t) e =
      let a = and_parts (nat_eq n m && pointwise same_limit limits others) (same_shape s t) e in
      let b = and_parts (nat_eq n m) (pointwise same_limit limits others) (a.0) in
      joined (eqb-true n m (b.0)) (same_limits-is limits others (b.1)) (same_shape-is s t (a.1))
    where
      joined : n ≡ m → limits ≡ others → s ≡ t → Binds n limits s ≡ Binds m others t
      joined p q r = λ i. Binds (p i) (q i) (r i)

  pub same_resources-is : (rs ts : Resources) → same_resources rs ts ≡ true → rs ≡ ts
  same_resources-is NoMore NoMore e = refl
  same_resources-is NoMore (More t ts) e = cc
  same_resources-is (More r rs) NoMore e = cc
  same_resources-is (More r rs) (More t ts) e = let a = and_parts (same_res r t) (same_resources rs ts) e in joined (same_res-is r t (a.0)) (same_resources-is rs ts (a.1))
    where
      joined : r ≡ t → rs ≡ ts → More r rs ≡ More t ts
      joined p q = λ i. More (p i) (q i)
