-- What one part adds to each place.
use Rattle.std.proofs.Common.{◌≡◌, ℕ, zero, suc, ◌+◌, ◌<◌, ◌≤◌, ◌^◌, unsigned_abs, ◌≢◌, Option, map, set, ℤ, pos, ◌+ℤ◌, ◌*ℤ◌, Bool, true, false, List, [], ◌∷◌, length, get_or, position, Some, None, nat_lt, not, refl, sym, ◌∙◌, ap, arith}
use Rattle.std.proofs.lemmas.Int.{ints}
use Rattle.std.proofs.Math.IntN as Z
use Rattle.std.specs.List.{position_or_len, range_with_len}
use Rattle.std.proofs.lemmas.List.Quantifiers.{position-Some}
use Rattle.std.proofs.lemmas.List.Sums.{prefix_len-le-length}
use Rattle.std.proofs.lemmas.Grind.{common_steps}
use Rattle.core_language.specs.Names.{Ident, same}
use Rattle.linear_forms.specs.Terms.{by_place, unit_at, counted}
use Rattle.farkas_check.proofs.Sums.{size-add}
use Rattle.wide_sums.proofs.Sizes.{size-mul}
use Rattle.outline_rules.proofs.Ranges.{added_at, unchanged}

pub unit_self : (i : ℕ) → unit_at i i ≡ pos 1
unit_self zero = refl
unit_self (suc i) = unit_self i

pub unit_other : (i j : ℕ) → i ≢ j → unit_at i j ≡ pos 0
unit_other zero zero h = absurd (h refl)
unit_other zero (suc j) h = refl
unit_other (suc i) zero h = refl
unit_other (suc i) (suc j) h = unit_other i j (λ e. h (ap suc e))

at_first : (ints : List Ident) (w : ℕ → ℤ) (x d : Ident) (i : ℕ) → i < length ints → same (get_or ints i d) x ≡ true → ((k : ℕ) → k < i → same (get_or ints k d) x ≡ false) → by_place ints w x ≡ w i
at_first [] w x d i h t f = absurd (omega arith)
at_first (y ∷ ys) w x d zero h t f = rw t
at_first (y ∷ ys) w x d (suc i) h t f = rw (f 0 (omega arith)) (at_first ys (λ i. w (suc i)) x d i (omega arith) t (λ k m. f (suc k) (omega arith)))

-- the value of an integer variable is that of its place
pub at_its_place : (ints : List Ident) (w : ℕ → ℤ) (x : Ident) (i : ℕ) → position (λ y. same y x) ints ≡ Some i → by_place ints w x ≡ w i
at_its_place ints w x i e =
    let found = position-Some (λ y. same y x) ints i x e in
    at_first ints w x x i found.0 found.1 found.2

at_none : (ints : List Ident) (w : ℕ → ℤ) (x : Ident) → position_or_len (λ y. same y x) ints ≡ length ints → by_place ints w x ≡ pos 0
at_none [] w x e = refl
at_none (y ∷ ys) w x e = pick (same y x) refl (at_none ys (λ i. w (suc i)) x)
  where
    pick : (b : Bool) → same y x ≡ b → (position_or_len (λ z. same z x) ys ≡ length ys → by_place ys (λ i. w (suc i)) x ≡ pos 0) → by_place (y ∷ ys) w x ≡ pos 0
    pick true q rest = let none : 0 ≡ suc (length ys) = rw q at e in absurd (omega arith)
    pick false q rest = let more : 1 + position_or_len (λ z. same z x) ys ≡ suc (length ys) = rw q at e in rw q (rest (omega arith))

-- no integer variable has this name
pub at_no_place : (ints : List Ident) (w : ℕ → ℤ) (x : Ident) → position (λ y. same y x) ints ≡ None → by_place ints w x ≡ pos 0
at_no_place ys w x e = at_none ys w x (pick (nat_lt (position_or_len (λ y. same y x) ys) (length ys)) refl)
  where
    pick : (b : Bool) → nat_lt (position_or_len (λ y. same y x) ys) (length ys) ≡ b → position_or_len (λ y. same y x) ys ≡ length ys
    pick true q = let found : Some (position_or_len (λ y. same y x) ys) ≡ None = rw q at e in absurd (cc)
    pick false q = grind (arith, prefix_len-le-length (λ y. not (same y x)) ys, common_steps)

-- nothing and one, some times
pub nothing : (w t : ℤ) → w *ℤ (t *ℤ pos 0) ≡ pos 0
nothing w t = rw (Z.*ℤ-zero t) (Z.*ℤ-zero w)

pub whole : (w t : ℤ) → w *ℤ (t *ℤ pos 1) ≡ w *ℤ t
unfolding Z.one
whole w t = ap (λ (x : ℤ). w *ℤ x) (Z.*ℤ-one t)

-- an integer variable is counted at its place alone
pub place_adds : (ints : List Ident) (name : Option Ident) (x : Ident) (p : ℕ) (w t z d : ℤ) (f : ℕ → ℤ) (xs : List ℤ) → name ≡ Some x → position (λ y. same y x) ints ≡ Some p → z ≡ get_or xs p d +ℤ (w *ℤ t) → xs ≡ map f (range_with_len 0 (length ints)) → set xs p z ≡ map (λ i. f i +ℤ (w *ℤ (t *ℤ counted (pos 0) (by_place ints (unit_at i)) name))) (range_with_len 0 (length ints))
place_adds ys name x p w t z d f xs n e v k =
    rw n (added_at (length ys) p f (λ i. w *ℤ (t *ℤ by_place ys (unit_at i) x)) xs z d (position-Some (λ y. same y x) ys p x e).0 k (v ∙ ap (λ (c : ℤ). get_or xs p d +ℤ c) (sym here)) elsewhere)
  where
    here : w *ℤ (t *ℤ by_place ys (unit_at p) x) ≡ w *ℤ t
    here = rw (at_its_place ys (unit_at p) x p e, unit_self p) (whole w t)

    elsewhere : (j : ℕ) → j ≢ p → w *ℤ (t *ℤ by_place ys (unit_at j) x) ≡ pos 0
    elsewhere j h = rw (at_its_place ys (unit_at j) x p e, unit_other j p h) (nothing w t)

pub nowhere_adds : (ints : List Ident) (name : Option Ident) (x : Ident) (w t : ℤ) (f : ℕ → ℤ) (xs : List ℤ) → name ≡ Some x → position (λ y. same y x) ints ≡ None → xs ≡ map f (range_with_len 0 (length ints)) → xs ≡ map (λ i. f i +ℤ (w *ℤ (t *ℤ counted (pos 0) (by_place ints (unit_at i)) name))) (range_with_len 0 (length ints))
nowhere_adds ys name x w t f xs n e k =
    rw n (k ∙ unchanged (length ys) f (λ i. w *ℤ (t *ℤ by_place ys (unit_at i) x)) (λ j. rw (at_no_place ys (unit_at j) x e) (nothing w t)))

-- a name is nothing to the constant
pub name_adds : (name : Option Ident) (x : Ident) (w t z : ℤ) → name ≡ Some x → z ≡ z +ℤ (w *ℤ (t *ℤ counted (pos 1) (λ x. pos 0) name))
name_adds name x w t z n = rw (n, nothing w t) (omega (arith, ints))

-- a sum grows by no more than the product
pub grown : (old w t : ℤ) (size : ℕ) → unsigned_abs old ≤ size → unsigned_abs w ≤ 2 ^ 63 → unsigned_abs t ≤ 2 ^ 63 → unsigned_abs (old +ℤ (w *ℤ t)) ≤ size + 2 ^ 126
grown old w t size o h k = omega (arith, size-add old (w *ℤ t), size-mul w t (2 ^ 63) (2 ^ 63) h k)
