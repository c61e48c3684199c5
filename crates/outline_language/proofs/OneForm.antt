-- A canonical form is the only one of its value.
use Rattle.std.proofs.Common.{◌≡◌, ◌≢◌, true≢false, ℕ, ℤ, pos, ◌+ℤ◌, ◌*ℤ◌, Bool, true, false, if◌then◌else◌, cond, nat_eq, nat_lt, List, [], ◌∷◌, refl, sym, ap, ◌∙◌, subst, arith}
use Rattle.std.specs.Prelude.{◌==◌}
use Rattle.std.specs.Ordering.{nat_cmp}
use Rattle.std.specs.Cmp.{nat_cmp_total}
use Rattle.std.specs.declared.cmp.Ordering.{Ordering}
use Rattle.std.specs.declared.cmp.Ordering.TheVariants.{Less, Equal, Greater}
use Rattle.std.specs.List.{AllByRecursion}
use Rattle.std.proofs.lemmas.Bool.Decides.{nat_tests}
use Rattle.std.proofs.lemmas.Int.{ints}
use Rattle.std.proofs.Math.IntN as Z
use Rattle.outline_language.specs.LinearForms.{Var, Free, Inside, Multiple, variable_order, same_var, multiples_at}
use Rattle.outline_language.specs.Canonical.{AreCanonical, OneForm}

-- ---- the order of variables

less_not_greater : Greater ≡ Less → ⊥
less_not_greater e = true≢false (sym (ap (λ o. is_less o) e))
  where
    is_less : Ordering → Bool
    is_less Less = true
    is_less Equal = false
    is_less Greater = false

pub order-trans : (u v w : Var) → variable_order u v ≡ Less → variable_order v w ≡ Less → variable_order u w ≡ Less
order-trans (Inside i) (Inside j) (Inside k) p q = nat_cmp_total.trans i j k p q
order-trans (Inside i) (Inside j) (Free k) p q = refl
order-trans (Inside i) (Free j) (Inside k) p q = absurd (less_not_greater q)
order-trans (Inside i) (Free j) (Free k) p q = refl
order-trans (Free i) (Inside j) w p q = absurd (less_not_greater p)
order-trans (Free i) (Free j) (Inside k) p q = absurd (less_not_greater q)
order-trans (Free i) (Free j) (Free k) p q = nat_cmp_total.trans i j k p q

no_less : (b : Bool) → cond b Equal Greater ≡ Less → ⊥
no_less true e = true≢false (sym (ap is_less e))
  where
    is_less : Ordering → Bool
    is_less Less = true
    is_less Equal = false
    is_less Greater = false
no_less false e = less_not_greater e

nat_differs : (i j : ℕ) → nat_cmp i j ≡ Less → nat_eq i j ≡ false
nat_differs i j less = pick (nat_lt i j) refl
  where
    pick : (b : Bool) → nat_lt i j ≡ b → nat_eq i j ≡ false
    pick true q = grind (arith, nat_tests)
    pick false q = absurd (no_less (i == j) (ap (λ b. cond b Less (cond (i == j) Equal Greater)) (sym q) ∙ less))

nat_itself : (i : ℕ) → nat_eq i i ≡ true
nat_itself i = grind (arith, nat_tests)

nat_is : (i j : ℕ) → nat_eq i j ≡ true → i ≡ j
nat_is i j e = grind (arith, nat_tests)

differs : (v w : Var) → variable_order v w ≡ Less → same_var v w ≡ false
differs (Inside i) (Inside j) less = nat_differs i j less
differs (Inside i) (Free j) less = refl
differs (Free i) (Inside j) less = refl
differs (Free i) (Free j) less = nat_differs i j less

itself : (v : Var) → same_var v v ≡ true
itself (Inside i) = nat_itself i
itself (Free i) = nat_itself i

same_is : (v w : Var) → same_var v w ≡ true → v ≡ w
same_is (Inside i) (Inside j) e = ap Inside (nat_is i j e)
same_is (Inside i) (Free j) e = absurd (true≢false (sym e))
same_is (Free i) (Inside j) e = absurd (true≢false (sym e))
same_is (Free i) (Free j) e = ap Free (nat_is i j e)

not_both : (v w : Var) → variable_order v w ≡ Less → variable_order w v ≡ Less → ⊥
not_both v w less more = true≢false (sym (itself v) ∙ differs v v (order-trans v w v less more))

-- ---- how often a list counts a variable

abbrev one_at : Var → Var → ℤ
one_at v w = if same_var v w then pos 1 else pos 0

abbrev counts_of : List Multiple → Var → ℤ
counts_of ms v = multiples_at (one_at v) ms

abbrev IsBelow : Var → List Multiple → Type 0
IsBelow v ms = AllByRecursion (λ (n : Multiple). variable_order v n.0 ≡ Less) ms

times_one : (z : ℤ) → z *ℤ pos 1 ≡ z
unfolding Z.one
times_one z = Z.*ℤ-one z

counts-here : (m : Multiple) (ms : List Multiple) → counts_of ms m.0 ≡ pos 0 → counts_of (m ∷ ms) m.0 ≡ m.1
counts-here m ms none =
    ap (λ b. (m.1 *ℤ (if b then pos 1 else pos 0)) +ℤ counts_of ms m.0) (itself m.0) ∙ omega (arith, ints, times_one m.1, none)

counts-later : (m : Multiple) (ms : List Multiple) (v : Var) → same_var v m.0 ≡ false → counts_of (m ∷ ms) v ≡ counts_of ms v
counts-later m ms v other =
    ap (λ b. (m.1 *ℤ (if b then pos 1 else pos 0)) +ℤ counts_of ms v) other ∙ omega (arith, ints, Z.*ℤ-zero m.1)

-- a variable below all others isn't counted
absent : (v : Var) (ms : List Multiple) → IsBelow v ms → counts_of ms v ≡ pos 0
absent v [] below = refl
absent v (m ∷ ms) below = counts-later m ms v (differs v m.0 below.0) ∙ absent v ms below.1

-- a variable that is counted is one of them
counted_below : (w v : Var) (ms : List Multiple) → IsBelow w ms → counts_of ms v ≢ pos 0 → variable_order w v ≡ Less
counted_below w v [] below some = absurd (some refl)
counted_below w v (m ∷ ms) below some = pick (same_var v m.0) refl (counted_below w v ms below.1)
  where
    pick : (b : Bool) → same_var v m.0 ≡ b → (counts_of ms v ≢ pos 0 → variable_order w v ≡ Less) → variable_order w v ≡ Less
    pick true q later = subst (λ u. variable_order w u ≡ Less) (sym (same_is v m.0 q)) below.0
    pick false q later = later (λ e. some (counts-later m ms v q ∙ e))

same_turned : (v w : Var) → same_var v w ≡ false → same_var w v ≡ false
same_turned v w other = pick (same_var w v) refl
  where
    pick : (b : Bool) → same_var w v ≡ b → same_var w v ≡ false
    pick true q = absurd (true≢false (sym (itself v) ∙ ap (same_var v) (sym (same_is w v q)) ∙ other))
    pick false q = q

-- lists in order that count the same are the same
one_list : (ms ns : List Multiple) → AreCanonical ms → AreCanonical ns → ((v : Var) → counts_of ms v ≡ counts_of ns v) → ms ≡ ns
one_list [] [] canonical too is = refl
one_list [] (n ∷ ns) canonical (below, some, rest) is = absurd (some (sym (counts-here n ns (absent n.0 ns below)) ∙ sym (is n.0)))
one_list (m ∷ ms) [] (below, some, rest) too is = absurd (some (sym (counts-here m ms (absent m.0 ms below)) ∙ is m.0))
one_list (m ∷ ms) (n ∷ ns) (below, some, rest) (below_too, some_too, rest_too) is = pick (same_var m.0 n.0) refl (one_list ms ns rest rest_too)
  where
    here : counts_of (m ∷ ms) m.0 ≡ m.1
    here = counts-here m ms (absent m.0 ms below)

    here_too : counts_of (n ∷ ns) n.0 ≡ n.1
    here_too = counts-here n ns (absent n.0 ns below_too)

    made : (a b : Multiple) → a.0 ≡ b.0 → a.1 ≡ b.1 → a ≡ b
    made (x, z) (y, w) variables times = rw (variables, times) refl

    pick : (b : Bool) → same_var m.0 n.0 ≡ b → (((v : Var) → counts_of ms v ≡ counts_of ns v) → ms ≡ ns) → m ∷ ms ≡ n ∷ ns
    pick true q next = rw (first, next later) refl
      where
        variable : m.0 ≡ n.0
        variable = same_is m.0 n.0 q

        first : m ≡ n
        first = made m n variable (sym here ∙ is m.0 ∙ ap (counts_of (n ∷ ns)) variable ∙ here_too)

        later : (v : Var) → counts_of ms v ≡ counts_of ns v
        later v = omega (arith, ints, is v, ap (λ (e : Multiple). e.1 *ℤ one_at v e.0) first)
    pick false q next =
        let first_there : counts_of ns m.0 ≡ m.1 = sym (counts-later n ns m.0 q) ∙ sym (is m.0) ∙ here in
        let second_there : counts_of ms n.0 ≡ n.1 = sym (counts-later m ms n.0 (same_turned m.0 n.0 q)) ∙ is n.0 ∙ here_too in
        absurd (not_both m.0 n.0
        (counted_below m.0 n.0 ms below (λ e. some_too (sym second_there ∙ e)))
        (counted_below n.0 m.0 ns below_too (λ e. some (sym first_there ∙ e))))

nowhere_counted : (ms : List Multiple) → multiples_at (λ v. pos 0) ms ≡ pos 0
nowhere_counted [] = refl
nowhere_counted (m ∷ ms) = omega (arith, ints, nowhere_counted ms, Z.*ℤ-zero m.1)

pub one_form : OneForm
one_form f g canonical too is = rw (one_list f.multiples g.multiples canonical too counts, constants) refl
  where
    constants : f.constant ≡ g.constant
    constants = omega (arith, ints, is (λ v. pos 0), nowhere_counted f.multiples, nowhere_counted g.multiples)

    counts : (v : Var) → counts_of f.multiples v ≡ counts_of g.multiples v
    counts v = omega (arith, ints, is (one_at v), constants)
