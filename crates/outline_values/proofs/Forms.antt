-- The values of linear forms.
use Rattle.std.proofs.Common.{◌≡◌, ℕ, zero, suc, ◌+◌, ◌≤◌, ℤ, pos, negsuc, ◌+ℤ◌, ◌-ℤ◌, ◌*ℤ◌, neg_ℤ, Bool, true, false, ◌&&◌, if◌then◌else◌, List, [], ◌∷◌, ◌++◌, map, length, Option, Some, None, unwrap_or, refl, ap, sym, ◌∙◌, arith, add-zero}
use Rattle.std.proofs.lemmas.Int.{ints}
use Rattle.std.proofs.lemmas.Bool.{and_parts, eqb-true}
use Rattle.std.proofs.lemmas.Bool.Decides.{Decides-int_eq}
use Rattle.std.proofs.Math.IntN as Z
use Rattle.std.specs.Ordering.{nat_cmp, int_eq}
use Rattle.std.specs.List.{range_with_len}
use Rattle.std.specs.declared.cmp.Ordering.{Ordering}
use Rattle.std.specs.declared.cmp.Ordering.TheVariants.{Less, Equal, Greater}
use Rattle.std.specs.Cmp.Lexicographic.{pointwise}
use Rattle.std.proofs.lemmas.Map.Lookups.{exact_unsigned}
use Rattle.core_language.specs.Names.{Ident}
use Rattle.core_language.specs.Terms.{Term}
use Rattle.farkas_check.specs.declared.cert.Row.{Row}
use Rattle.farkas_check.specs.Rows.{linear_part, value_at}
use Rattle.farkas_check.proofs.Products.{distribute, distribute_right, times_times}
use Rattle.linear_forms.specs.Terms.{times_of, unit_at}
use Rattle.outline_language.specs.LinearForms.{Var, Free, Inside, Multiple, LinearForm, variable_order, unless_zero, by_order, add_multiple, add_multiples, add_times, constant_form, variable_form, minus, plus_one, of_name, form_of_term, put_multiples, put_form, multiples_at, form_at, same_var, same_multiple, same_form, free_values, row_of}
use Rattle.outline_language.proofs.Values.{add_times-at}

-- ---- terms

pub term-agree : (f g : Var → ℤ) (a b : Ident → LinearForm) → ((x : Ident) → form_at f (a x) ≡ form_at g (b x)) → (t : Term) → form_at f (form_of_term a t) ≡ form_at g (form_of_term b t)
term-agree f g a b h [] = omega (arith, ints)
term-agree f g a b h (p ∷ ps) = omega (arith, ints, add_times-at f (times_of p) (of_name a p.name) (form_of_term a ps), add_times-at g (times_of p) (of_name b p.name) (form_of_term b ps), term-agree f g a b h ps, ap (λ z. times_of p *ℤ z) (one p.name))
  where
    one : (n : Option Ident) → form_at f (of_name a n) ≡ form_at g (of_name b n)
    one None = omega (arith, ints)
    one (Some x) = h x

-- ---- variables for which forms stand

multiples-agree : (f g : Var → ℤ) → ((v : Var) → f v ≡ g v) → (ms : List Multiple) → multiples_at f ms ≡ multiples_at g ms
multiples-agree f g h [] = refl
multiples-agree f g h (m ∷ ms) = rw (h m.0, multiples-agree f g h ms) refl

pub form-agree : (f g : Var → ℤ) → ((v : Var) → f v ≡ g v) → (a : LinearForm) → form_at f a ≡ form_at g a
form-agree f g h a = rw (multiples-agree f g h (a.multiples)) refl

-- ---- tests

same_var-is : (v w : Var) → same_var v w ≡ true → v ≡ w
same_var-is (Inside i) (Inside j) e = ap Inside (eqb-true i j e)
same_var-is (Free i) (Free j) e = ap Free (eqb-true i j e)
same_var-is (Inside i) (Free j) e = cc
same_var-is (Free i) (Inside j) e = cc

same_multiples-is : (ms ns : List Multiple) → pointwise same_multiple ms ns ≡ true → ms ≡ ns
same_multiples-is [] [] e = refl
same_multiples-is [] (n ∷ ns) e = cc
same_multiples-is (m ∷ ms) [] e = cc
same_multiples-is (m ∷ ms) (n ∷ ns) e =
    let a = and_parts (same_multiple m n) (pointwise same_multiple ms ns) e in
    let b = and_parts (same_var m.0 n.0) (int_eq m.1 n.1) (a.0) in
    joined (same_var-is m.0 n.0 (b.0)) ((Decides-int_eq m.1 n.1).0 (b.1)) (same_multiples-is ms ns (a.1))
  where
    joined : m.0 ≡ n.0 → m.1 ≡ n.1 → ms ≡ ns → m ∷ ms ≡ n ∷ ns
    joined p q r = λ i. (p i, q i) ∷ r i

pub same_form-is : (a b : LinearForm) → same_form a b ≡ true → a ≡ b
same_form-is a b e = let x = and_parts (pointwise same_multiple (a.multiples) (b.multiples)) (int_eq (a.constant) (b.constant)) e in joined (same_multiples-is (a.multiples) (b.multiples) (x.0)) ((Decides-int_eq (a.constant) (b.constant)).0 (x.1))
  where
    joined : a.multiples ≡ b.multiples → a.constant ≡ b.constant → a ≡ b
    joined p q = λ i. record { multiples = p i; constant = q i }

-- ---- rows

-- a sum over so many places
abbrev sum_to : ℕ → (ℕ → ℤ) → ℤ
sum_to zero g = pos 0
sum_to (suc n) g = g 0 +ℤ sum_to n (λ i. g (suc i))

sum_to-zero : (n : ℕ) (w : ℕ → ℤ) → sum_to n (λ i. pos 0 *ℤ w i) ≡ pos 0
sum_to-zero zero w = refl
sum_to-zero (suc n) w = omega (arith, ints, Z.zero-*ℤ (w 0), sum_to-zero n (λ i. w (suc i)))

sum_to-linear : (n : ℕ) (k : ℤ) (a b w : ℕ → ℤ) → sum_to n (λ i. ((k *ℤ a i) +ℤ b i) *ℤ w i) ≡ (k *ℤ sum_to n (λ i. a i *ℤ w i)) +ℤ sum_to n (λ i. b i *ℤ w i)
sum_to-linear zero k a b w = omega (arith, ints, Z.*ℤ-zero k)
sum_to-linear (suc n) k a b w =
    omega (arith, ints, sum_to-linear n k (λ i. a (suc i)) (λ i. b (suc i)) (λ i. w (suc i)), distribute_right (k *ℤ a 0) (b 0) (w 0), times_times k (a 0) (w 0), distribute k (a 0 *ℤ w 0) (sum_to n (λ i. a (suc i) *ℤ w (suc i))))

-- the place of a variable alone counts it
one_place : (n : ℕ) (w : ℕ → ℤ) (j : ℕ) → ((i : ℕ) → n ≤ i → w i ≡ pos 0) → sum_to n (λ i. unit_at i j *ℤ w i) ≡ w j
one_place zero w j none = sym (none j (omega arith))
one_place (suc n) w zero none = omega (arith, ints, sum_to-zero n (λ i. w (suc i)))
one_place (suc n) w (suc j) none = omega (arith, ints, Z.zero-*ℤ (w 0), one_place n (λ i. w (suc i)) j (λ i le. none (suc i) (omega arith)))

linear_range : (f w h : ℕ → ℤ) (a n : ℕ) → ((i : ℕ) → f (a + i) ≡ h i) → linear_part w (map f (range_with_len a n)) ≡ sum_to n (λ i. h i *ℤ w i)
linear_range f w h a zero e = refl
linear_range f w h a (suc n) e = rw (head, linear_range f (λ i. w (suc i)) (λ i. h (suc i)) (a + 1) n rest)
  where
    head : f a ≡ h 0
    head = rw (add-zero a) at (e 0)

    rest : (i : ℕ) → f ((a + 1) + i) ≡ h (suc i)
    rest i = let same : (a + 1) + i ≡ a + suc i = omega arith in rw same (e (suc i))

places_sum : (n : ℕ) (w : ℕ → ℤ) → ((i : ℕ) → n ≤ i → w i ≡ pos 0) → (ms : List Multiple) → sum_to n (λ i. multiples_at (free_values (unit_at i)) ms *ℤ w i) ≡ multiples_at (free_values w) ms
places_sum n w none [] = sum_to-zero n w
places_sum n w none (m ∷ ms) =
    sum_to-linear n m.1 (λ i. free_values (unit_at i) m.0) (λ i. multiples_at (free_values (unit_at i)) ms) w
    ∙ omega (arith, ints, ap (λ z. m.1 *ℤ z) (one m.0), places_sum n w none ms)
  where
    one : (v : Var) → sum_to n (λ i. free_values (unit_at i) v *ℤ w i) ≡ free_values w v
    one (Free j) = one_place n w j none
    one (Inside j) = sum_to-zero n w

-- a row has the value of its form, where past its variables all is 0
pub row-at : (n : ℕ) (w : ℕ → ℤ) → ((i : ℕ) → n ≤ i → w i ≡ pos 0) → (a : LinearForm) → value_at w (row_of n a) ≡ form_at (free_values w) a
row-at n w none a = omega (arith, ints, ranged, places_sum n w none (a.multiples))
  where
    ranged : linear_part w (map (λ i. multiples_at (free_values (unit_at i)) (a.multiples)) (range_with_len 0 n)) ≡ sum_to n (λ i. multiples_at (free_values (unit_at i)) (a.multiples) *ℤ w i)
    ranged = linear_range (λ i. multiples_at (free_values (unit_at i)) (a.multiples)) w (λ i. multiples_at (free_values (unit_at i)) (a.multiples)) 0 n (λ i. let e : 0 + i ≡ i = omega arith in rw e refl)
