-- What stands at a place of a list.
use Rattle.std.proofs.Common.{◌≡◌, ℕ, zero, suc, ◌+◌, ◌<◌, ◌≤◌, List, [], ◌∷◌, ◌++◌, length, map, Some, slice_get, refl, ap, arith, ◌⊎◌, inl, inr, ⊎_elim}
use Rattle.std.proofs.lemmas.Bool.{cases_lt}

-- one of two numbers is below the other, or not
pub either_way : (a b : ℕ) → (a < b) ⊎ (b ≤ a)
either_way a b = cases_lt a b

pub place_below : {X : Type 0} (xs : List X) (i : ℕ) (x : X) → slice_get xs i ≡ Some x → i < length xs
place_below [] i x is = cc
place_below (y ∷ ys) zero x is = omega arith
place_below (y ∷ ys) (suc i) x is = let lt = place_below ys i x is in omega (arith, lt)

pub at_left : {X : Type 0} (xs ys : List X) (i : ℕ) → i < length xs → slice_get (xs ++ ys) i ≡ slice_get xs i
at_left [] ys i lt = absurd (omega (arith, lt))
at_left (x ∷ xs) ys zero lt = refl
at_left (x ∷ xs) ys (suc i) lt = at_left xs ys i (omega (arith, lt))

pub at_right : {X : Type 0} (xs ys : List X) (i k : ℕ) → i ≡ length xs + k → slice_get (xs ++ ys) i ≡ slice_get ys k
at_right [] ys i k e = let same : i ≡ k = omega (arith, e) in ap (slice_get ys) same
at_right (x ∷ xs) ys zero k e = absurd (omega (arith, e))
at_right (x ∷ xs) ys (suc i) k e = at_right xs ys i k (omega (arith, e))

pub at_end : {X : Type 0} (xs : List X) (x : X) → slice_get (xs ++ x ∷ []) (length xs) ≡ Some x
at_end [] x = refl
at_end (y ∷ ys) x = at_end ys x

-- a place of a list that was lengthened is one of the list, or one of what follows
pub among_both : {X : Type 0} (xs ys : List X) (i : ℕ) (x : X) → slice_get (xs ++ ys) i ≡ Some x
    → ((i < length xs) × (slice_get xs i ≡ Some x)) ⊎ ((k : ℕ) × (i ≡ length xs + k) × (slice_get ys k ≡ Some x))
among_both [] ys i x is = inr (i, omega arith, is)
among_both (y ∷ xs) ys zero x is = inl (omega arith, is)
among_both (y ∷ xs) ys (suc i) x is = ⊎_elim (λ p. inl (omega (arith, p.0), p.1)) (λ p. inr (p.0, omega (arith, p.1), p.2)) (among_both xs ys i x is)

-- a place of a list with one more is one of the list, or the last
pub among_pushed : {X : Type 0} (xs : List X) (last : X) (i : ℕ) (x : X) → slice_get (xs ++ last ∷ []) i ≡ Some x
    → ((i < length xs) × (slice_get xs i ≡ Some x)) ⊎ ((i ≡ length xs) × (last ≡ x))
among_pushed [] last zero x is = let same : last ≡ x = cc in inr (refl, same)
among_pushed [] last (suc i) x is = cc
among_pushed (y ∷ xs) last zero x is = inl (omega arith, is)
among_pushed (y ∷ xs) last (suc i) x is = ⊎_elim (λ p. inl (omega (arith, p.0), p.1)) (λ p. inr (omega (arith, p.0), p.1)) (among_pushed xs last i x is)

-- what stands in a mapped list is the image of what stands there
pub at_mapped : {X Y : Type 0} (f : X → Y) (xs : List X) (i : ℕ) (y : Y) → slice_get (map f xs) i ≡ Some y → (x : X) × (slice_get xs i ≡ Some x) × (f x ≡ y)
at_mapped f [] i y is = cc
at_mapped f (x ∷ xs) zero y is = let same : f x ≡ y = cc in (x, refl, same)
at_mapped f (x ∷ xs) (suc i) y is = at_mapped f xs i y is

pub map_at : {X Y : Type 0} (f : X → Y) (xs : List X) (i : ℕ) (x : X) → slice_get xs i ≡ Some x → slice_get (map f xs) i ≡ Some (f x)
map_at f [] i x is = cc
map_at f (y ∷ xs) zero x is = let same : y ≡ x = cc in ap (λ z. Some (f z)) same
map_at f (y ∷ xs) (suc i) x is = map_at f xs i x is
