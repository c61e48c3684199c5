-- How often a sum counts an integer variable is what its row has there.
use Rattle.std.proofs.Common.{◌≡◌, ℕ, zero, suc, ◌+◌, ℤ, pos, ◌+ℤ◌, ◌*ℤ◌, true, false, true≢false, ◌&&◌, Result, List, [], ◌∷◌, map, Some, unwrap_or, refl, sym, ap, ◌∙◌, subst, arith}
use Rattle.std.specs.Prelude.{cond, nat_eq}
use Rattle.std.proofs.lemmas.Int.{ints}
use Rattle.std.proofs.lemmas.Bool.Decides.{nat_tests}
use Rattle.std.proofs.Math.IntN as Z
use Rattle.std.specs.List.{list_all, range_with_len}
use Rattle.std.specs.Ordering.{is_eq}
use Rattle.std.specs.BTreeMap.{is_at}
use Rattle.std.specs.Map.{lookup}
use Rattle.std.specs.Cmp.{unsigned_ties}
use Rattle.std.specs.declared.cmp.Ordering.{Ordering}
use Rattle.std.specs.declared.cmp.Ordering.TheVariants.{Less, Equal, Greater}
use Rattle.linear_forms.specs.Terms.{unit_at}
use Rattle.outline_language.specs.LinearForms.{Var, Free, Inside, Multiple, LinearForm, variable_order, multiples_at, free_values}
use Rattle.outline_language.specs.Canonical.{AreCanonical, IsCanonical}
use Rattle.outline_language.specs.Contexts.{Why, TooLarge, provided, row_formed}
use Rattle.linear_forms.specs.Normal.{fits}
use Rattle.farkas_check.specs.declared.cert.Row.{Row}
use Rattle.nameless_forms.specs.Counts.{count_in, coefficients_in}
use Rattle.nameless_forms.proofs.Adding.{IsBelow, tied_is}

unit_same : (i : ℕ) → unit_at i i ≡ pos 1
unit_same zero = refl
unit_same (suc i) = unit_same i

unit_other : (i j : ℕ) → (i ≡ j → ⊥) → unit_at i j ≡ pos 0
unit_other zero zero other = absurd (other refl)
unit_other zero (suc j) other = refl
unit_other (suc i) zero other = refl
unit_other (suc i) (suc j) other = unit_other i j (λ e. other (ap suc e))

-- another variable isn't counted
other_at : (i : ℕ) (v : Var) → is_eq (variable_order (Free i) v) ≡ false → free_values (unit_at i) v ≡ pos 0
other_at i (Inside j) e = refl
other_at i (Free j) e =
    let test : nat_eq i j ≡ false = unsigned_ties i j ∙ e in
    unit_other i j (λ same. true≢false (sym (equal i j same) ∙ test))
  where
    equal : (i j : ℕ) → i ≡ j → nat_eq i j ≡ true
    equal i j same = grind (arith, nat_tests)

none_at : (i : ℕ) (ms : List Multiple) → IsBelow (Free i) ms → multiples_at (free_values (unit_at i)) ms ≡ pos 0
none_at i [] below = refl
none_at i (m ∷ ms) below =
    let other = other_at i m.0 (ap is_eq below.0) in
    let rest = none_at i ms below.1 in
    rw (other, rest) (omega (arith, ints, Z.*ℤ-zero m.1))

pub count_is : (i : ℕ) (ms : List Multiple) → AreCanonical ms → count_in (Free i) ms ≡ multiples_at (free_values (unit_at i)) ms
count_is i [] canonical = refl
count_is i (m ∷ ms) (below, some, rest) = pick (variable_order (Free i) m.0) refl (count_is i ms rest)
  where
    one : (z : ℤ) → z *ℤ pos 1 ≡ z
    one z = omega (arith, ints)

    pick : (o : Ordering) → variable_order (Free i) m.0 ≡ o → count_in (Free i) ms ≡ multiples_at (free_values (unit_at i)) ms
        → unwrap_or (cond (is_eq o) (Some m.1) (lookup (is_at (variable_order (Free i))) ms)) (pos 0) ≡ (m.1 *ℤ free_values (unit_at i) m.0) +ℤ multiples_at (free_values (unit_at i)) ms
    pick Less q next = let other = other_at i m.0 (ap is_eq q) in rw other (omega (arith, ints, next, Z.*ℤ-zero m.1))
    pick Equal q next =
        let same : Free i ≡ m.0 = tied_is (Free i) m.0 q in
        let here : free_values (unit_at i) m.0 ≡ pos 1 = ap (free_values (unit_at i)) (sym same) ∙ unit_same i in
        let none = none_at i ms (subst (λ u. IsBelow u ms) (sym same) below) in
        rw here (omega (arith, ints, none, one m.1))
    pick Greater q next = let other = other_at i m.0 (ap is_eq q) in rw other (omega (arith, ints, next, Z.*ℤ-zero m.1))

pub coefficients_are : (n : ℕ) (ms : List Multiple) → AreCanonical ms → coefficients_in n ms ≡ map (λ i. multiples_at (free_values (unit_at i)) ms) (range_with_len 0 n)
coefficients_are n ms canonical = from 0 n
  where
    from : (a n : ℕ) → map (λ i. count_in (Free i) ms) (range_with_len a n) ≡ map (λ i. multiples_at (free_values (unit_at i)) ms) (range_with_len a n)
    from a zero = refl
    from a (suc n) = rw (count_is a ms canonical, from (a + 1) n) refl

pub row_by_counts : (n : ℕ) (f g : LinearForm) → IsCanonical g → g ≡ f
    → row_formed n f ≡ provided (list_all fits (coefficients_in n g.multiples) && fits g.constant) TooLarge (record { coefficients = coefficients_in n g.multiples; constant = g.constant })
row_by_counts n f g canonical same = subst (λ h. row_formed n h ≡ by_counts) same (rw (sym (coefficients_are n g.multiples canonical)) refl)
  where
    by_counts : Result Row Why
    by_counts = provided (list_all fits (coefficients_in n g.multiples) && fits g.constant) TooLarge (record { coefficients = coefficients_in n g.multiples; constant = g.constant })
