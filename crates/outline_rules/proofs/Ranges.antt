-- Lists over ranges, where one place is set.
use Rattle.std.proofs.Common.{◌≡◌, ℕ, zero, suc, ◌+◌, ◌<◌, ◌≤◌, ◌≢◌, ℤ, pos, ◌+ℤ◌, List, [], ◌∷◌, ◌++◌, map, set, get_or, All, unsigned_abs, refl, arith, add-zero}
use Rattle.std.proofs.lemmas.Int.{ints}
use Rattle.std.proofs.lemmas.List.FromFn.{get_or-map-range_with_len, map-range_with_len_more, length-map-range_with_len}
use Rattle.std.specs.List.{range_with_len}

pub range_cong : (f g : ℕ → ℤ) (a n : ℕ) → ((j : ℕ) → a ≤ j → f j ≡ g j) → map f (range_with_len a n) ≡ map g (range_with_len a n)
range_cong f g a zero h = refl
range_cong f g a (suc n) h = rw (h a (omega arith), range_cong f g (a + 1) n (λ j k. h j (omega arith)))

set_range : (f g : ℕ → ℤ) (z : ℤ) (a n i : ℕ) → i < n → z ≡ g (a + i) → ((j : ℕ) → j ≢ a + i → f j ≡ g j) → set (map f (range_with_len a n)) i z ≡ map g (range_with_len a n)
set_range f g z a zero i h e k = absurd (omega arith)
set_range f g z a (suc n) zero h e k =
    let first : z ≡ g a = rw (add-zero a) at e in
    rw (first, range_cong f g (a + 1) n (λ j m. k j (λ q. omega arith)))
set_range f g z a (suc n) (suc i) h e k =
    let same : (a + 1) + i ≡ a + suc i = omega arith in
    rw (k a (λ q. omega arith), set_range f g z (a + 1) n i (omega arith) (rw same e) (λ j m. k j (λ q. m (omega arith))))

-- where one sum changes, each has what is added there
pub added_at : (n p : ℕ) (f m : ℕ → ℤ) (xs : List ℤ) (z d : ℤ) → p < n → xs ≡ map f (range_with_len 0 n) → z ≡ get_or xs p d +ℤ m p → ((j : ℕ) → j ≢ p → m j ≡ pos 0) → set xs p z ≡ map (λ i. f i +ℤ m i) (range_with_len 0 n)
added_at n p f m xs z d h e v o =
    let old : get_or xs p d ≡ f p = rw e (get_or-map-range_with_len f 0 n p p d h (omega arith)) in
    let here : 0 + p ≡ p = omega arith in
    let new : z ≡ f (0 + p) +ℤ m (0 + p) = rw here (rw old at v) in
    rw e (set_range f (λ i. f i +ℤ m i) z 0 n p h new (λ j k. let none : m j ≡ pos 0 = o j (λ q. k (omega arith)) in omega (arith, ints)))

pub unchanged : (n : ℕ) (f m : ℕ → ℤ) → ((j : ℕ) → m j ≡ pos 0) → map f (range_with_len 0 n) ≡ map (λ i. f i +ℤ m i) (range_with_len 0 n)
unchanged n f m h = range_cong f (λ i. f i +ℤ m i) 0 n (λ j k. let none = h j in omega (arith, ints))

pub zeros_more : (n : ℕ) → map {B = ℤ} (λ i. pos 0) (range_with_len 0 (n + 1)) ≡ map (λ i. pos 0) (range_with_len 0 n) ++ pos 0 ∷ []
zeros_more n = map-range_with_len_more (λ i. pos 0) 0 n n (omega arith)

pub zeros_small : (n size : ℕ) → All (λ z. unsigned_abs z ≤ size) (map (λ i. pos 0) (range_with_len 0 n))
zeros_small n size = λ k d h. rw (get_or-map-range_with_len (λ i. pos 0) 0 n k k d (rw (length-map-range_with_len (λ i. pos 0) 0 n) at h) (omega arith)) (omega arith)
