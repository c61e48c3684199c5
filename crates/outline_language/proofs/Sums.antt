-- Sums of linear forms are canonical.
use Rattle.std.proofs.Common.{◌≡◌, true≢false, ℕ, ℤ, pos, ◌+ℤ◌, ◌*ℤ◌, Bool, true, false, if◌then◌else◌, List, [], ◌∷◌, refl, sym, ap, ◌∙◌, subst, arith}
use Rattle.std.specs.Ordering.{nat_cmp, int_eq, ordering_reverse}
use Rattle.std.specs.Cmp.{nat_cmp_total}
use Rattle.std.specs.declared.cmp.Ordering.{Ordering}
use Rattle.std.specs.declared.cmp.Ordering.TheVariants.{Less, Equal, Greater}
use Rattle.std.specs.List.{AllByRecursion}
use Rattle.std.proofs.lemmas.Bool.Decides.{nat_tests}
use Rattle.outline_language.specs.LinearForms.{Var, Free, Inside, Multiple, LinearForm, variable_order, unless_zero, by_order, add_multiple, add_multiples, put_multiples}
use Rattle.outline_language.specs.Canonical.{IsCanonical, AreCanonical, SumsAreCanonical}
use Rattle.outline_language.proofs.OneForm.{order-trans}

is_equal : Ordering → Bool
is_equal Less = false
is_equal Equal = true
is_equal Greater = false

turned : (v w : Var) → variable_order v w ≡ Greater → variable_order w v ≡ Less
turned (Inside i) (Inside j) e = nat_cmp_total.antisymm j i ∙ ap ordering_reverse e
turned (Inside i) (Free j) e = absurd (not_so e)
  where
    not_so : Less ≡ Greater → ⊥
    not_so e = cc
turned (Free i) (Inside j) e = refl
turned (Free i) (Free j) e = nat_cmp_total.antisymm j i ∙ ap ordering_reverse e

nat_equal : (i j : ℕ) → nat_cmp i j ≡ Equal → i ≡ j
nat_equal i j e = grind (arith, nat_tests)

equal_is : (v w : Var) → variable_order v w ≡ Equal → v ≡ w
equal_is (Inside i) (Inside j) e = ap Inside (nat_equal i j e)
equal_is (Inside i) (Free j) e = absurd cc
equal_is (Free i) (Inside j) e = absurd cc
equal_is (Free i) (Free j) e = ap Free (nat_equal i j e)

abbrev IsBelow : Var → List Multiple → Type 0
IsBelow v ms = AllByRecursion (λ (n : Multiple). variable_order v n.0 ≡ Less) ms

below-trans : (v w : Var) (ms : List Multiple) → variable_order v w ≡ Less → IsBelow w ms → IsBelow v ms
below-trans v w [] less below = tt
below-trans v w (m ∷ ms) less below = (order-trans v w m.0 less below.0, below-trans v w ms less below.1)

below_unless : (w v : Var) (z : ℤ) (ms : List Multiple) → variable_order w v ≡ Less → IsBelow w ms → IsBelow w (unless_zero v z ms)
below_unless w v z ms less below = pick (int_eq z (pos 0))
  where
    pick : (b : Bool) → IsBelow w (if b then ms else ((v, z) ∷ ms))
    pick true = below
    pick false = (less, below)

canonical_unless : (v : Var) (z : ℤ) (ms : List Multiple) → IsBelow v ms → AreCanonical ms → AreCanonical (unless_zero v z ms)
canonical_unless v z ms below canonical = pick (int_eq z (pos 0)) refl
  where
    pick : (b : Bool) → int_eq z (pos 0) ≡ b → AreCanonical (if b then ms else ((v, z) ∷ ms))
    pick true q = canonical
    pick false q = (below, (λ e. true≢false (sym (ap (λ k. int_eq k (pos 0)) e) ∙ q)), canonical)

below_added : (w v : Var) (z : ℤ) (ms : List Multiple) → variable_order w v ≡ Less → IsBelow w ms → IsBelow w (add_multiple v z ms)
below_added w v z [] less below = below_unless w v z [] less tt
below_added w v z (m ∷ ms) less below = pick (variable_order v m.0) (below_added w v z ms less below.1)
  where
    pick : (o : Ordering) → IsBelow w (add_multiple v z ms) → IsBelow w (by_order o (unless_zero v z (m ∷ ms)) (unless_zero v (z +ℤ m.1) ms) (m ∷ add_multiple v z ms))
    pick Less rest = below_unless w v z (m ∷ ms) less below
    pick Equal rest = below_unless w v (z +ℤ m.1) ms less below.1
    pick Greater rest = (below.0, rest)

canonical_added : (v : Var) (z : ℤ) (ms : List Multiple) → AreCanonical ms → AreCanonical (add_multiple v z ms)
canonical_added v z [] canonical = canonical_unless v z [] tt tt
canonical_added v z (m ∷ ms) (below, some, rest) = pick (variable_order v m.0) refl (canonical_added v z ms rest)
  where
    pick : (o : Ordering) → variable_order v m.0 ≡ o → AreCanonical (add_multiple v z ms) → AreCanonical (by_order o (unless_zero v z (m ∷ ms)) (unless_zero v (z +ℤ m.1) ms) (m ∷ add_multiple v z ms))
    pick Less q next = canonical_unless v z (m ∷ ms) (q, below-trans v m.0 ms q below) (below, some, rest)
    pick Equal q next = canonical_unless v (z +ℤ m.1) ms (subst (λ u. IsBelow u ms) (sym (equal_is v m.0 q)) below) rest
    pick Greater q next = (below_added m.0 v z ms (turned v m.0 q) below, some, next)

canonical_sums : (weight : ℤ) (ms ns : List Multiple) → AreCanonical ns → AreCanonical (add_multiples weight ms ns)
canonical_sums weight [] ns canonical = canonical
canonical_sums weight (m ∷ ms) ns canonical = canonical_added m.0 (weight *ℤ m.1) (add_multiples weight ms ns) (canonical_sums weight ms ns canonical)

pub sums_canonical : SumsAreCanonical
sums_canonical weight f g canonical = canonical_sums weight f.multiples g.multiples canonical

-- so is a form put together of forms
pub put_canonical : (put : Var → LinearForm) (z : ℤ) (ms : List Multiple) → IsCanonical (put_multiples put z ms)
put_canonical put z [] = tt
put_canonical put z (m ∷ ms) = sums_canonical m.1 (put m.0) (put_multiples put z ms) (put_canonical put z ms)
