-- The names of parts stand in order, each once, and none is left out.
use Rattle.std.proofs.Common.{◌≡◌, Bool, true, false, ◌||◌, List, [], ◌∷◌, Option, Some, None, refl, sym, ap, ◌∙◌}
use Rattle.std.specs.Ordering.{nat_cmp, is_eq, ordering_reverse}
use Rattle.std.specs.List.{list_any, AllByRecursion}
use Rattle.std.specs.List.Sorted.{IsStrictlySortedBy}
use Rattle.std.specs.Cmp.Lexicographic.{slice_cmp, texts_ties, nat_list_cmp_total}
use Rattle.std.specs.declared.cmp.Ordering.{Ordering}
use Rattle.std.specs.declared.cmp.Ordering.TheVariants.{Less, Equal, Greater}
use Rattle.core_language.specs.Names.{Ident, same}
use Rattle.linear_forms.proofs.SameNames.{same_is}
use Rattle.chan_syntax.specs.declared.linear.Part.{Part}
use Rattle.session_lowering.specs.PutTerms.{by_order, with_name, with_some, names_in_order}

abbrev cmp : Ident → Ident → Ordering
cmp = slice_cmp nat_cmp

abbrev Below : Ident → List Ident → Type 0
Below x ys = AllByRecursion (λ y. cmp x y ≡ Less) ys

below_all : (x y : Ident) (zs : List Ident) → cmp x y ≡ Less → Below y zs → Below x zs
below_all x y [] less all = tt
below_all x y (z ∷ zs) less (first, rest) = (nat_list_cmp_total.trans x y z less first, below_all x y zs less rest)

below_with : (x y : Ident) (zs : List Ident) → cmp x y ≡ Less → Below x zs → Below x (with_name y zs)
below_with x y [] less all = (less, tt)
below_with x y (z ∷ zs) less (first, rest) = pick (cmp y z) (below_with x y zs less rest)
  where
    pick : (o : Ordering) → Below x (with_name y zs) → Below x (by_order o (y ∷ z ∷ zs) (z ∷ zs) (z ∷ with_name y zs))
    pick Less more = (less, (first, rest))
    pick Equal more = (first, rest)
    pick Greater more = (first, more)

sorted_with : (y : Ident) (zs : List Ident) → IsStrictlySortedBy cmp zs → IsStrictlySortedBy cmp (with_name y zs)
unfolding IsStrictlySortedBy
sorted_with y [] s = (tt, tt)
sorted_with y (z ∷ zs) (all, s) = pick (cmp y z) refl (sorted_with y zs s)
  where
    pick : (o : Ordering) → cmp y z ≡ o → IsStrictlySortedBy cmp (with_name y zs) → IsStrictlySortedBy cmp (by_order o (y ∷ z ∷ zs) (z ∷ zs) (z ∷ with_name y zs))
    pick Less is more = ((is, below_all y z zs is all), (all, s))
    pick Equal is more = (all, s)
    pick Greater is more = (below_with z y zs (nat_list_cmp_total.antisymm z y ∙ ap ordering_reverse is) all, more)

sorted_some : (o : Option Ident) (zs : List Ident) → IsStrictlySortedBy cmp zs → IsStrictlySortedBy cmp (with_some o zs)
sorted_some None zs s = s
sorted_some (Some x) zs s = sorted_with x zs s

pub in_order : (parts : List Part) → IsStrictlySortedBy cmp (names_in_order parts)
unfolding IsStrictlySortedBy
in_order [] = tt
in_order (p ∷ ps) = sorted_some p.name (names_in_order ps) (in_order ps)

-- ---- which names stand there

abbrev pub has : Ident → List Ident → Bool
has x ys = list_any (same x) ys

twice : (a b : Bool) → a || b ≡ a || (a || b)
twice true b = refl
twice false b = refl

turned : (a b c : Bool) → a || (b || c) ≡ b || (a || c)
turned true true c = refl
turned true false c = refl
turned false b c = refl

tied : (y z : Ident) → cmp y z ≡ Equal → y ≡ z
tied y z is = same_is y z (texts_ties y z ∙ ap is_eq is)

pub has_with : (x y : Ident) (zs : List Ident) → has x (with_name y zs) ≡ same x y || has x zs
has_with x y [] = refl
has_with x y (z ∷ zs) = pick (cmp y z) refl (has_with x y zs)
  where
    pick : (o : Ordering) → cmp y z ≡ o → has x (with_name y zs) ≡ same x y || has x zs → has x (by_order o (y ∷ z ∷ zs) (z ∷ zs) (z ∷ with_name y zs)) ≡ same x y || (same x z || has x zs)
    pick Less is more = refl
    pick Equal is more = twice (same x z) (has x zs) ∙ ap (λ w. same x w || (same x z || has x zs)) (sym (tied y z is))
    pick Greater is more = ap (λ b. same x z || b) more ∙ turned (same x z) (same x y) (has x zs)
