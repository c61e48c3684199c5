-- Which end it is.
use Rattle.std.proofs.Common.{◌≡◌, ℕ, ◌+◌, ◌≤◌, Bool, true, false, cond, not, ◌&&◌, List, [], ◌∷◌, refl, ap, ◌⊎◌, inl, inr, arith, ℤ}
use Rattle.std.specs.Ordering.{int_eq}
use Rattle.std.proofs.lemmas.Bool.Decides.{Decides-int_eq}
use Rattle.std.proofs.lemmas.Bool.{and_parts}
use Rattle.core_language.specs.Names.{same_name}
use Rattle.graphs.specs.Graph.{count}
use Rattle.moved_uses.proofs.Bags.{name-is, name-self}
use Rattle.outline_language.specs.Equations.{Concrete}

abbrev pub same_ints : List ℤ → List ℤ → Bool
same_ints [] [] = true
same_ints [] (y ∷ ys) = false
same_ints (x ∷ xs) [] = false
same_ints (x ∷ xs) (y ∷ ys) = int_eq x y && same_ints xs ys

same_ints-is : (xs ys : List ℤ) → same_ints xs ys ≡ true → xs ≡ ys
same_ints-is [] [] e = refl
same_ints-is [] (y ∷ ys) e = cc
same_ints-is (x ∷ xs) [] e = cc
same_ints-is (x ∷ xs) (y ∷ ys) e = let a = and_parts (int_eq x y) (same_ints xs ys) e in let b : x ≡ y = (Decides-int_eq x y).0 (a.0) in let c : xs ≡ ys = same_ints-is xs ys (a.1) in cc

same_ints-self : (xs : List ℤ) → same_ints xs xs ≡ true
same_ints-self [] = refl
same_ints-self (x ∷ xs) = rw ((Decides-int_eq x x).1 refl, same_ints-self xs) refl

abbrev pub same_flag : Bool → Bool → Bool
same_flag true b = b
same_flag false b = not b

flag-is : (a b : Bool) → same_flag a b ≡ true → a ≡ b
flag-is true true e = refl
flag-is false false e = refl
flag-is true false e = cc
flag-is false true e = cc

flag-self : (a : Bool) → same_flag a a ≡ true
flag-self true = refl
flag-self false = refl

-- two ends are one; the names of protocols are lists of numbers, as names are
abbrev pub same_concrete : Concrete → Concrete → Bool
same_concrete a b = same_flag (a.dual) (b.dual) && (same_name (a.name) (b.name) && same_ints (a.args) (b.args))

pub same_concrete-is : (a b : Concrete) → same_concrete a b ≡ true → a ≡ b
same_concrete-is a b e = go (flag-is (a.dual) (b.dual) (x.0)) (name-is (a.name) (b.name) (y.0)) (same_ints-is (a.args) (b.args) (y.1))
  where
    x : (same_flag (a.dual) (b.dual) ≡ true) × ((same_name (a.name) (b.name) && same_ints (a.args) (b.args)) ≡ true)
    x = and_parts (same_flag (a.dual) (b.dual)) (same_name (a.name) (b.name) && same_ints (a.args) (b.args)) e

    y : (same_name (a.name) (b.name) ≡ true) × (same_ints (a.args) (b.args) ≡ true)
    y = and_parts (same_name (a.name) (b.name)) (same_ints (a.args) (b.args)) (x.1)

    go : a.dual ≡ b.dual → a.name ≡ b.name → a.args ≡ b.args → a ≡ b
    go p q r = λ i. record { dual = p i; name = q i; args = r i }

pub same_concrete-self : (a : Concrete) → same_concrete a a ≡ true
same_concrete-self a = rw (flag-self (a.dual), name-self (a.name), same_ints-self (a.args)) refl

-- what each test counts is there
pub one_of : (e : Concrete) (es : List Concrete) → ((q : Concrete → Bool) → cond (q e) 1 0 ≤ count q es) → 1 ≤ count (same_concrete e) es
one_of e es h = omega (arith, h (same_concrete e), ap {B = ℕ} (λ b. cond b 1 0) (same_concrete-self e))

pub one_of_one : (e a : Concrete) → 1 ≤ count (same_concrete e) (a ∷ []) → e ≡ a
one_of_one e a h = go (same_concrete e a) refl h
  where
    go : (b : Bool) → same_concrete e a ≡ b → 1 ≤ cond b 1 0 + 0 → e ≡ a
    go true f h = same_concrete-is e a f
    go false f h = absurd (omega arith)

pub one_of_two : (e a b : Concrete) → 1 ≤ count (same_concrete e) (a ∷ b ∷ []) → (e ≡ a) ⊎ (e ≡ b)
one_of_two e a b h = go (same_concrete e a) refl h
  where
    go : (v : Bool) → same_concrete e a ≡ v → 1 ≤ cond v 1 0 + (cond (same_concrete e b) 1 0 + 0) → (e ≡ a) ⊎ (e ≡ b)
    go true f h = inl (same_concrete-is e a f)
    go false f h = inr (one_of_one e b (omega arith))
