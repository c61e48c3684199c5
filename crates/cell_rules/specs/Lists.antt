-- Sums, counts and places of lists.
use Rattle.std.specs.Prelude.{◌≡◌, ◌⊎◌, ℕ, zero, suc, ◌+◌, List, [], ◌∷◌, cond, ◌==◌, if◌then◌else◌}

abbrev pub total : {A : Type 0} → (A → ℕ) → List A → ℕ
total f [] = 0
total f (x ∷ xs) = f x + total f xs

-- the sum of f below n
abbrev pub below : (ℕ → ℕ) → ℕ → ℕ
below f zero = 0
below f (suc n) = below f n + f n

-- 1 where the two are one number
abbrev pub one : ℕ → ℕ → ℕ
one i x = cond (x == i) 1 0

abbrev pub count : ℕ → List ℕ → ℕ
count i xs = total (one i) xs

-- the list with its first c left out
abbrev pub without : ℕ → List ℕ → List ℕ
without c [] = []
without c (x ∷ xs) = if x == c then xs else (x ∷ without c xs)

abbrev pub In : {A : Type 0} → A → List A → Type 0
In x [] = ⊥
In x (y ∷ ys) = (x ≡ y) ⊎ In x ys

-- the pairs whose first part is not i
abbrev pub besides : {A : Type 0} → ℕ → List (ℕ × A) → List (ℕ × A)
besides i [] = []
besides i (x ∷ xs) = if x.0 == i then besides i xs else (x ∷ besides i xs)
