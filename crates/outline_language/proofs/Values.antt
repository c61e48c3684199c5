-- The values of sums, and of forms that are put in.
use Rattle.std.proofs.Common.{◌≡◌, ℕ, ℤ, pos, negsuc, ◌+ℤ◌, ◌-ℤ◌, ◌*ℤ◌, Bool, true, false, if◌then◌else◌, List, [], ◌∷◌, refl, ap, arith}
use Rattle.std.proofs.lemmas.Int.{ints}
use Rattle.std.proofs.lemmas.Bool.Decides.{Decides-int_eq}
use Rattle.std.proofs.Math.IntN as Z
use Rattle.std.specs.Ordering.{nat_cmp, int_eq}
use Rattle.std.specs.declared.cmp.Ordering.{Ordering}
use Rattle.std.specs.declared.cmp.Ordering.TheVariants.{Less, Equal, Greater}
use Rattle.std.proofs.lemmas.Map.Lookups.{exact_unsigned}
use Rattle.farkas_check.proofs.Products.{distribute, distribute_right, times_times}
use Rattle.outline_language.specs.LinearForms.{Var, Free, Inside, Multiple, LinearForm, variable_order, unless_zero, by_order, add_multiple, add_multiples, add_times, constant_form, variable_form, minus, plus_one, put_multiples, put_form, multiples_at, form_at}

-- ---- sums

unless_zero-at : (f : Var → ℤ) (v : Var) (z : ℤ) (ms : List Multiple) → multiples_at f (unless_zero v z ms) ≡ (z *ℤ f v) +ℤ multiples_at f ms
unless_zero-at f v z ms = go (int_eq z (pos 0)) refl
  where
    go : (b : Bool) → int_eq z (pos 0) ≡ b → multiples_at f (if b then ms else ((v, z) ∷ ms)) ≡ (z *ℤ f v) +ℤ multiples_at f ms
    go true e = let is : z ≡ pos 0 = (Decides-int_eq z (pos 0)).0 e in rw is (omega (arith, ints, Z.zero-*ℤ (f v)))
    go false e = refl

tied : (i j : ℕ) → nat_cmp i j ≡ Equal → i ≡ j
tied i j e = exact_unsigned i j e

same_place : (v w : Var) → variable_order v w ≡ Equal → v ≡ w
same_place (Inside i) (Inside j) e = ap Inside (tied i j e)
same_place (Inside i) (Free j) e = cc
same_place (Free i) (Inside j) e = cc
same_place (Free i) (Free j) e = ap Free (tied i j e)

add_multiple-at : (f : Var → ℤ) (v : Var) (z : ℤ) (ms : List Multiple) → multiples_at f (add_multiple v z ms) ≡ (z *ℤ f v) +ℤ multiples_at f ms
add_multiple-at f v z [] = unless_zero-at f v z []
add_multiple-at f v z (m ∷ ms) = go (variable_order v m.0) refl (add_multiple-at f v z ms)
  where
    go : (o : Ordering) → variable_order v m.0 ≡ o → multiples_at f (add_multiple v z ms) ≡ (z *ℤ f v) +ℤ multiples_at f ms → multiples_at f (by_order o (unless_zero v z (m ∷ ms)) (unless_zero v (z +ℤ m.1) ms) (m ∷ add_multiple v z ms)) ≡ (z *ℤ f v) +ℤ multiples_at f (m ∷ ms)
    go Less e ih = unless_zero-at f v z (m ∷ ms)
    go Equal e ih = let same : f v ≡ f m.0 = ap f (same_place v m.0 e) in omega (arith, ints, unless_zero-at f v (z +ℤ m.1) ms, distribute_right z m.1 (f v), ap (λ x. m.1 *ℤ x) same)
    go Greater e ih = omega (arith, ints, ih)

add_multiples-at : (f : Var → ℤ) (k : ℤ) (ms ns : List Multiple) → multiples_at f (add_multiples k ms ns) ≡ (k *ℤ multiples_at f ms) +ℤ multiples_at f ns
add_multiples-at f k [] ns = omega (arith, ints, Z.*ℤ-zero k)
add_multiples-at f k (m ∷ ms) ns =
    omega (arith, ints, add_multiple-at f m.0 (k *ℤ m.1) (add_multiples k ms ns), add_multiples-at f k ms ns, times_times k m.1 (f m.0), distribute k (m.1 *ℤ f m.0) (multiples_at f ms))

pub add_times-at : (f : Var → ℤ) (k : ℤ) (a b : LinearForm) → form_at f (add_times k a b) ≡ (k *ℤ form_at f a) +ℤ form_at f b
add_times-at f k a b = omega (arith, ints, add_multiples-at f k (a.multiples) (b.multiples), distribute k (multiples_at f (a.multiples)) (a.constant))

pub constant-at : (f : Var → ℤ) (z : ℤ) → form_at f (constant_form z) ≡ z
constant-at f z = omega (arith, ints)

pub variable-at : (f : Var → ℤ) (v : Var) → form_at f (variable_form v) ≡ f v
variable-at f v = omega (arith, ints)

pub minus-at : (f : Var → ℤ) (a b : LinearForm) → form_at f (minus a b) ≡ form_at f a -ℤ form_at f b
minus-at f a b = omega (arith, ints, add_times-at f (negsuc 0) b a)

pub plus_one-at : (f : Var → ℤ) (a : LinearForm) → form_at f (plus_one a) ≡ form_at f a +ℤ pos 1
plus_one-at f a = omega (arith, ints)

-- ---- variables for which forms stand

put_multiples-at : (f : Var → ℤ) (put : Var → LinearForm) (z : ℤ) (ms : List Multiple) → form_at f (put_multiples put z ms) ≡ multiples_at (λ v. form_at f (put v)) ms +ℤ z
put_multiples-at f put z [] = omega (arith, ints)
put_multiples-at f put z (m ∷ ms) = omega (arith, ints, add_times-at f m.1 (put m.0) (put_multiples put z ms), put_multiples-at f put z ms)

pub put-at : (f : Var → ℤ) (put : Var → LinearForm) (a : LinearForm) → form_at f (put_form put a) ≡ form_at (λ v. form_at f (put v)) a
put-at f put a = put_multiples-at f put (a.constant) (a.multiples)
