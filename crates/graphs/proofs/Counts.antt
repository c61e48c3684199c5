-- Counts of a list: after a map, of a part, of a choice.
use Rattle.std.proofs.Common.{◌≡◌, suc, ◌+◌, ◌≤◌, Bool, true, false, cond, not, ◌&&◌, List, [], ◌∷◌, ◌++◌, map, length, refl, ap, arith, filter}
use Rattle.graphs.specs.Graph.{count, kept}

-- the first list's elements, each as often at most, are among the second's
abbrev pub Within : {X : Type 0} → List X → List X → Type 0
Within {X} xs ys = (p : X → Bool) → count p xs ≤ count p ys

pub count-map : {X Y : Type 0} (p : Y → Bool) (f : X → Y) (xs : List X) → count p (map f xs) ≡ count (λ x. p (f x)) xs
count-map p f [] = refl
count-map p f (x ∷ xs) = ap (λ n. cond (p (f x)) 1 0 + n) (count-map p f xs)

pub count-append : {X : Type 0} (p : X → Bool) (xs ys : List X) → count p (xs ++ ys) ≡ count p xs + count p ys
count-append p [] ys = omega arith
count-append p (x ∷ xs) ys = omega (arith, count-append p xs ys)

pub count_agree : {X : Type 0} (p q : X → Bool) → ((x : X) → p x ≡ q x) → (xs : List X) → count p xs ≡ count q xs
count_agree p q same [] = refl
count_agree p q same (x ∷ xs) = rw (same x) (ap (λ n. cond (q x) 1 0 + n) (count_agree p q same xs))

-- a test by cases on another one
pub count_cases : {X : Type 0} (p q : X → Bool) (xs : List X) → count (λ x. p x && q x) xs + count (λ x. not (p x) && q x) xs ≡ count q xs
count_cases p q [] = refl
count_cases p q (x ∷ xs) = let e = count_cases p q xs in go (p x) (q x) e
  where
    go : (a b : Bool) → count (λ x. p x && q x) xs + count (λ x. not (p x) && q x) xs ≡ count q xs → (cond (a && b) 1 0 + count (λ x. p x && q x) xs) + (cond (not a && b) 1 0 + count (λ x. not (p x) && q x) xs) ≡ cond b 1 0 + count q xs
    go true true e = omega arith
    go true false e = omega arith
    go false true e = omega arith
    go false false e = omega arith

pub Within-kept : {X : Type 0} (mask : List Bool) (xs : List X) → Within (kept mask xs) xs
Within-kept mask [] p = omega arith
Within-kept [] (x ∷ xs) p = omega arith
Within-kept (true ∷ mask) (x ∷ xs) p = omega (arith, Within-kept mask xs p)
Within-kept (false ∷ mask) (x ∷ xs) p = omega (arith, Within-kept mask xs p)

pub count-filter : {X : Type 0} (p q : X → Bool) (xs : List X) → count p (filter q xs) ≡ count (λ x. q x && p x) xs
count-filter p q [] = refl
count-filter p q (x ∷ xs) = go (q x) (count-filter p q xs)
  where
    go : (v : Bool) → count p (filter q xs) ≡ count (λ x. q x && p x) xs → count p (cond v (x ∷ filter q xs) (filter q xs)) ≡ cond (v && p x) 1 0 + count (λ x. q x && p x) xs
    go true h = omega arith
    go false h = omega arith

pub count_and_le : {X : Type 0} (p q : X → Bool) (xs : List X) → count (λ x. p x && q x) xs ≤ count p xs
count_and_le p q [] = omega arith
count_and_le p q (x ∷ xs) = go (p x) (q x) (count_and_le p q xs)
  where
    go : (a b : Bool) → count (λ x. p x && q x) xs ≤ count p xs → cond (a && b) 1 0 + count (λ x. p x && q x) xs ≤ cond a 1 0 + count p xs
    go true true h = omega arith
    go true false h = omega arith
    go false true h = omega arith
    go false false h = omega arith

pub count-le-length : {X : Type 0} (p : X → Bool) (xs : List X) → count p xs ≤ length xs
count-le-length p [] = omega arith
count-le-length p (x ∷ xs) = go (p x) (count-le-length p xs)
  where
    go : (a : Bool) → count p xs ≤ length xs → cond a 1 0 + count p xs ≤ suc (length xs)
    go true h = omega arith
    go false h = omega arith

-- no element is left where none passes and none fails
pub nil_from_count : {X : Type 0} (p : X → Bool) (xs : List X) → count p xs ≡ 0 → filter (λ x. not (p x)) xs ≡ [] → xs ≡ []
nil_from_count p [] e f = refl
nil_from_count p (x ∷ xs) e f = go (p x) e f
  where
    go : (v : Bool) → cond v 1 0 + count p xs ≡ 0 → cond (not v) (x ∷ filter (λ x. not (p x)) xs) (filter (λ x. not (p x)) xs) ≡ [] → x ∷ xs ≡ []
    go true e f = absurd (omega arith)
    go false e f = cc

pub cond_not : (v : Bool) → cond (not v) 1 0 + cond v 1 0 ≡ 1
cond_not true = refl
cond_not false = refl

pub count_split : {X : Type 0} (p q : X → Bool) (xs : List X) → count (λ x. p x && q x) xs + count (λ x. p x && not (q x)) xs ≡ count p xs
count_split p q [] = refl
count_split p q (x ∷ xs) = go (p x) (q x) (count_split p q xs)
  where
    go : (a b : Bool) → count (λ x. p x && q x) xs + count (λ x. p x && not (q x)) xs ≡ count p xs → (cond (a && b) 1 0 + count (λ x. p x && q x) xs) + (cond (a && not b) 1 0 + count (λ x. p x && not (q x)) xs) ≡ cond a 1 0 + count p xs
    go true true h = omega arith
    go true false h = omega arith
    go false true h = omega arith
    go false false h = omega arith
