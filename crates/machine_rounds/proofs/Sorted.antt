-- Two ascending lists with the same elements are one list; and so the movers among the ready names are the movers.
use Rattle.std.proofs.Common.{◌≡◌, Bool, true, false, ◌&&◌, List, Ordering, Less, Equal, Greater, refl, ap, sym, ◌∙◌, filter}
use Rattle.std.specs.Ordering.{eq_by_cmp, is_eq}
use Rattle.std.specs.List.{list_any}
use Rattle.std.specs.List.Sorted.{IsStrictlySortedBy}
use Rattle.std.specs.Cmp.{IsTotalOrder}
use Rattle.machine_rounds.specs.Sets.{has}
use Rattle.std.proofs.lemmas.Map.Lookups.{CmpEqualImpliesEq, btree_set_from_contains}
use Rattle.std.proofs.lemmas.List.Kept.{IsStrictlySortedBy-filter}
use Rattle.std.proofs.lemmas.Map.Views.{any-filter_same}

pub equal_from : (o : Ordering) → is_eq o ≡ true → o ≡ Equal
equal_from Less e = cc
equal_from Equal e = refl
equal_from Greater e = cc

module _ {K : Type 0} (cmp : K → K → Ordering) where
  module _ (order : IsTotalOrder cmp) (same-is : CmpEqualImpliesEq cmp) where
    pub same_sorted : (xs ys : List K) → IsStrictlySortedBy cmp xs → IsStrictlySortedBy cmp ys → ((q : K) → has cmp xs q ≡ has cmp ys q) → xs ≡ ys
    same_sorted xs ys sx sy e = btree_set_from_contains order (record { keys = xs }) (record { keys = ys }) sx sy e same-is

    pub same_movers : (moves : K → Bool) (ready names : List K) → IsStrictlySortedBy cmp ready → IsStrictlySortedBy cmp names →
        ((q : K) → has cmp ready q ≡ false → moves q ≡ false) → ((q : K) → has cmp names q ≡ false → moves q ≡ false) → filter moves ready ≡ filter moves names
    same_movers moves ready names sr sn dead absent = same_sorted (filter moves ready) (filter moves names) (IsStrictlySortedBy-filter cmp moves ready sr) (IsStrictlySortedBy-filter cmp moves names sn) each
      where
        kept : (ks : List K) (q : K) → has cmp (filter moves ks) q ≡ (moves q && has cmp ks q)
        kept ks q = any-filter_same (eq_by_cmp cmp q) moves (moves q) (λ k e. ap moves (sym (same-is q k (equal_from (cmp q k) e)))) ks

        by : (q : K) (m a b : Bool) → moves q ≡ m → has cmp ready q ≡ a → has cmp names q ≡ b → (m && a) ≡ (m && b)
        by q false a b e f g = refl
        by q true true true e f g = refl
        by q true false b e f g = let y = dead q f in cc
        by q true true false e f g = let y = absent q g in cc

        each : (q : K) → has cmp (filter moves ready) q ≡ has cmp (filter moves names) q
        each q = kept ready q ∙ by q (moves q) (has cmp ready q) (has cmp names q) refl refl refl ∙ sym (kept names q)
