-- Adding a multiple, as taking the count of its variable out and putting the sum in.
use Rattle.std.proofs.Common.{◌≡◌, ℤ, pos, ◌+ℤ◌, ◌*ℤ◌, Bool, true, false, if◌then◌else◌, List, [], ◌∷◌, None, Some, unwrap_or, refl, sym, ap, ◌∙◌, subst, arith}
use Rattle.std.specs.Prelude.{cond}
use Rattle.std.proofs.lemmas.Int.{ints}
use Rattle.std.proofs.lemmas.Bool.Decides.{nat_tests}
use Rattle.std.specs.Ordering.{int_eq, is_eq}
use Rattle.std.specs.List.{AllByRecursion}
use Rattle.std.specs.BTreeMap.{insert_entry, is_at}
use Rattle.std.specs.Map.{lookup}
use Rattle.std.specs.declared.cmp.Ordering.{Ordering}
use Rattle.std.specs.declared.cmp.Ordering.TheVariants.{Less, Equal, Greater}
use Rattle.outline_language.specs.LinearForms.{Var, Free, Inside, Multiple, variable_order, by_order, unless_zero, add_multiple}
use Rattle.outline_language.specs.Canonical.{AreCanonical}
use Rattle.outline_language.proofs.OneForm.{order-trans}
use Rattle.outline_language.proofs.Sums.{sums_canonical}
use Rattle.nameless_forms.specs.Counts.{count_in, others_in}

-- ---- variables that stand before all others

abbrev pub IsBelow : Var → List Multiple → Type 0
IsBelow v ms = AllByRecursion (λ (n : Multiple). variable_order v n.0 ≡ Less) ms

below_trans : (v w : Var) (ms : List Multiple) → variable_order v w ≡ Less → IsBelow w ms → IsBelow v ms
below_trans v w [] less below = tt
below_trans v w (m ∷ ms) less below = (order-trans v w m.0 less below.0, below_trans v w ms less below.1)

pub tied_is : (v w : Var) → variable_order v w ≡ Equal → v ≡ w
tied_is (Inside i) (Inside j) e = ap Inside (grind (arith, nat_tests))
tied_is (Inside i) (Free j) e = absurd cc
tied_is (Free i) (Inside j) e = absurd cc
tied_is (Free i) (Free j) e = ap Free (grind (arith, nat_tests))

-- such a variable isn't there
pub absent : (v : Var) (ms : List Multiple) → IsBelow v ms → lookup (is_at (variable_order v)) ms ≡ None
absent v [] below = refl
absent v (m ∷ ms) below = rw below.0 (absent v ms below.1)

all_others : (v : Var) (ms : List Multiple) → IsBelow v ms → others_in v ms ≡ ms
all_others v [] below = refl
all_others v (m ∷ ms) below = rw below.0 (ap (λ ns. m ∷ ns) (all_others v ms below.1))

in_front : (v : Var) (z : ℤ) (ms : List Multiple) → IsBelow v ms → insert_entry variable_order ms v z ≡ (v, z) ∷ ms
in_front v z [] below = refl
in_front v z (m ∷ ms) below = rw below.0 refl

-- ---- the sum that is put in

abbrev with_sum : Var → ℤ → List Multiple → List Multiple
with_sum v z ms = if int_eq z (pos 0) then ms else insert_entry variable_order ms v z

before_all : (v : Var) (z : ℤ) (ms : List Multiple) → IsBelow v ms → unless_zero v z ms ≡ with_sum v z ms
before_all v z ms below = ap (λ ns. if int_eq z (pos 0) then ms else ns) (sym (in_front v z ms below))

pub added_by_sum : (v : Var) (z : ℤ) (ms : List Multiple) → AreCanonical ms → add_multiple v z ms ≡ with_sum v (count_in v ms +ℤ z) (others_in v ms)
added_by_sum v z [] canonical = let is : z ≡ pos 0 +ℤ z = omega (arith, ints) in ap (λ k. unless_zero v k []) is
added_by_sum v z (m ∷ ms) (below, some, rest) = pick (variable_order v m.0) refl (added_by_sum v z ms rest)
  where
    pick : (o : Ordering) → variable_order v m.0 ≡ o → add_multiple v z ms ≡ with_sum v (count_in v ms +ℤ z) (others_in v ms)
        → by_order o (unless_zero v z (m ∷ ms)) (unless_zero v (z +ℤ m.1) ms) (m ∷ add_multiple v z ms)
        ≡ with_sum v (unwrap_or (cond (is_eq o) (Some m.1) (lookup (is_at (variable_order v)) ms)) (pos 0) +ℤ z) (cond (is_eq o) ms (m ∷ others_in v ms))
    pick Less q next =
        let all : IsBelow v (m ∷ ms) = (q, below_trans v m.0 ms q below) in
        let none : pos 0 +ℤ z ≡ z = omega (arith, ints) in
        rw (absent v ms all.1, all_others v ms all.1, none) (before_all v z (m ∷ ms) all)
    pick Equal q next =
        let behind : IsBelow v ms = subst (λ u. IsBelow u ms) (sym (tied_is v m.0 q)) below in
        let turned : m.1 +ℤ z ≡ z +ℤ m.1 = omega (arith, ints) in
        rw turned (before_all v (z +ℤ m.1) ms behind)
    pick Greater q next = ap (λ ns. m ∷ ns) next ∙ behind (int_eq (count_in v ms +ℤ z) (pos 0)) (count_in v ms +ℤ z)
      where
        behind : (b : Bool) (s : ℤ) → m ∷ (if b then others_in v ms else insert_entry variable_order (others_in v ms) v s)
            ≡ (if b then m ∷ others_in v ms else insert_entry variable_order (m ∷ others_in v ms) v s)
        behind true s = refl
        behind false s = rw q refl

pub others_canonical : (v : Var) (ms : List Multiple) → AreCanonical ms → AreCanonical (others_in v ms)
others_canonical v [] canonical = tt
others_canonical v (m ∷ ms) (below, some, rest) = pick (is_eq (variable_order v m.0)) (others_canonical v ms rest)
  where
    fewer : (w : Var) (ns : List Multiple) → IsBelow w ns → IsBelow w (others_in v ns)
    fewer w [] all = tt
    fewer w (n ∷ ns) all = one (is_eq (variable_order v n.0)) (fewer w ns all.1)
      where
        one : (b : Bool) → IsBelow w (others_in v ns) → IsBelow w (cond b ns (n ∷ others_in v ns))
        one true less = all.1
        one false less = (all.0, less)

    pick : (b : Bool) → AreCanonical (others_in v ms) → AreCanonical (cond b ms (m ∷ others_in v ms))
    pick true next = rest
    pick false next = (fewer m.0 ms below, some, next)

pub added_canonical : (v : Var) (weight times : ℤ) (ms : List Multiple) → AreCanonical ms → AreCanonical (add_multiple v (weight *ℤ times) ms)
added_canonical v weight times ms canonical =
    sums_canonical weight (record { multiples = (v, times) ∷ []; constant = pos 0 }) (record { multiples = ms; constant = pos 0 }) canonical

-- ---- what is there afterwards

with_test : (v : Var) (z : ℤ) (ms : List Multiple) (s : ℤ) (b : Bool) → AreCanonical ms → s ≡ count_in v ms +ℤ z → int_eq s (pos 0) ≡ b
    → (if b then others_in v ms else insert_entry variable_order (others_in v ms) v s) ≡ add_multiple v z ms
with_test v z ms s b canonical is test =
    ap (λ d. if d then others_in v ms else insert_entry variable_order (others_in v ms) v s) (sym test) ∙ ap (λ k. with_sum v k (others_in v ms)) is ∙ sym (added_by_sum v z ms canonical)

pub added_nothing : (v : Var) (z : ℤ) (ms rest : List Multiple) (s : ℤ) → AreCanonical ms → s ≡ count_in v ms +ℤ z → int_eq s (pos 0) ≡ true → rest ≡ others_in v ms → rest ≡ add_multiple v z ms
added_nothing v z ms rest s canonical is test others = others ∙ with_test v z ms s true canonical is test

pub added_something : (v : Var) (z : ℤ) (ms rest : List Multiple) (s : ℤ) → AreCanonical ms → s ≡ count_in v ms +ℤ z → int_eq s (pos 0) ≡ false → rest ≡ others_in v ms → insert_entry variable_order rest v s ≡ add_multiple v z ms
added_something v z ms rest s canonical is test others = ap (λ ns. insert_entry variable_order ns v s) others ∙ with_test v z ms s false canonical is test
