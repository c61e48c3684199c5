-- The numbers of the nodes that mention a name: which they are, and that they ascend.
use Rattle.std.proofs.Common.{◌≡◌, ℕ, zero, suc, ◌+◌, ◌<◌, ◌≤◌, Bool, true, false, ◌||◌, ◌&&◌, cond, leb, List, [], ◌∷◌, ◌++◌, length, get_or, Some, slice_get, ⊎_elim, refl, sym, ap, ◌∙◌, subst, arith}
use Rattle.std.specs.List.{list_any}
use Rattle.std.specs.List.Sorted.{IsNonDecreasing}
use Rattle.std.proofs.lemmas.Bool.{and_parts, and_from, or_cases, or_left, or_right, leb-true}
use Rattle.std.proofs.lemmas.List.Folds.{list_any-append}
use Rattle.core_language.specs.Names.{Ident, same}
use Rattle.core_programs.specs.declared.nodes.Node.{Node}
use Rattle.name_uses.specs.Uses.{times, is_between}
use Rattle.core_programs.specs.Uses.{mentions, uses_from}

-- the node at a number mentions the name
abbrev pub Mentions : List Node → Ident → ℕ → Type 0
Mentions nodes x n = (y : Node) × (slice_get nodes n ≡ Some y) × (list_any (same x) (mentions y) ≡ true)

pub same_truth : (a b : Bool) → (a ≡ true → b ≡ true) → (b ≡ true → a ≡ true) → a ≡ b
same_truth true b to from = sym (to refl)
same_truth false true to from = from refl
same_truth false false to from = refl

absorbed : (q a : Bool) → (q || (a && q)) ≡ q
absorbed true a = refl
absorbed false true = refl
absorbed false false = refl

times_any : (p : ℕ → Bool) (x : Ident) (n : ℕ) (ys : List Ident) → list_any p (times x n ys) ≡ (list_any (same x) ys && p n)
times_any p x n [] = refl
times_any p x n (y ∷ ys) = by (same x y) (times_any p x n ys)
  where
    by : (b : Bool) → list_any p (times x n ys) ≡ (list_any (same x) ys && p n) → list_any p (cond b (n ∷ times x n ys) (times x n ys)) ≡ ((b || list_any (same x) ys) && p n)
    by true e = ap (λ z. p n || z) e ∙ absorbed (p n) (list_any (same x) ys)
    by false e = e

-- a use that passes a test is a node that mentions the name
pub used : (p : ℕ → Bool) (x : Ident) (n : ℕ) (nodes : List Node) → list_any p (uses_from n nodes x) ≡ true → (k : ℕ) × Mentions nodes x k × (p (n + k) ≡ true)
used p x n [] is = cc
used p x n (y ∷ nodes) is = ⊎_elim
    (λ here.
    let (mentioned, passes) = and_parts (list_any (same x) (mentions y)) (p n) (sym (times_any p x n (mentions y)) ∙ here) in
    let first : n ≡ n + 0 = omega arith in
    (0, (y, refl, mentioned), subst (λ m. p m ≡ true) first passes))
    (λ later.
    let (k, mentioned, passes) = used p x (n + 1) nodes later in
    let shifted : n + 1 + k ≡ n + suc k = omega arith in
    (suc k, mentioned, subst (λ m. p m ≡ true) shifted passes))
    (or_cases (list_any p (times x n (mentions y))) (list_any p (uses_from (n + 1) nodes x)) (sym (list_any-append p (times x n (mentions y)) (uses_from (n + 1) nodes x)) ∙ is))

pub uses : (p : ℕ → Bool) (x : Ident) (n : ℕ) (nodes : List Node) (k : ℕ) → Mentions nodes x k → p (n + k) ≡ true → list_any p (uses_from n nodes x) ≡ true
uses p x n [] k (y, is, mentioned) passes = cc
uses p x n (z ∷ nodes) zero (y, is, mentioned) passes =
    let found : z ≡ y = cc in
    let first : n + 0 ≡ n = omega arith in
    list_any-append p (times x n (mentions z)) (uses_from (n + 1) nodes x)
    ∙ or_left _ _ (times_any p x n (mentions z) ∙ and_from _ _ (subst (λ w. list_any (same x) (mentions w) ≡ true) (sym found) mentioned) (subst (λ m. p m ≡ true) first passes))
uses p x n (z ∷ nodes) (suc k) mentioned passes =
    let shifted : n + suc k ≡ n + 1 + k = omega arith in
    list_any-append p (times x n (mentions z)) (uses_from (n + 1) nodes x)
    ∙ or_right _ _ (uses p x (n + 1) nodes k mentioned (subst (λ m. p m ≡ true) shifted passes))

-- ---- they ascend

-- the numbers ascend from one on
abbrev From : ℕ → List ℕ → Type 0
From n [] = Unit {0}
From n (x ∷ xs) = (n ≤ x) × From x xs

weaken : (n m : ℕ) (xs : List ℕ) → n ≤ m → From m xs → From n xs
weaken n m [] le from = tt
weaken n m (x ∷ xs) le (low, from) = (omega (arith, le, low), from)

from_times : (x : Ident) (n : ℕ) (ys : List Ident) (rest : List ℕ) → From n rest → From n (times x n ys ++ rest)
from_times x n [] rest from = from
from_times x n (y ∷ ys) rest from = by (same x y) (from_times x n ys rest from)
  where
    by : (b : Bool) → From n (times x n ys ++ rest) → From n (cond b (n ∷ times x n ys) (times x n ys) ++ rest)
    by true f = (omega arith, f)
    by false f = f

from_uses : (n : ℕ) (nodes : List Node) (x : Ident) → From n (uses_from n nodes x)
from_uses n [] x = tt
from_uses n (y ∷ nodes) x = from_times x n (mentions y) (uses_from (n + 1) nodes x) (weaken n (n + 1) (uses_from (n + 1) nodes x) (omega arith) (from_uses (n + 1) nodes x))

at_least : (n : ℕ) (xs : List ℕ) (i d : ℕ) → From n xs → i < length xs → n ≤ get_or xs i d
at_least n [] i d from lt = absurd (omega (arith, lt))
at_least n (x ∷ xs) zero d (low, from) lt = low
at_least n (x ∷ xs) (suc i) d (low, from) lt = let more = at_least x xs i d from (omega (arith, lt)) in omega (arith, low, more)

rises : (n : ℕ) (xs : List ℕ) → From n xs → (i j d : ℕ) → i ≤ j → j < length xs → get_or xs i d ≤ get_or xs j d
rises n [] from i j d le lt = absurd (omega (arith, lt))
rises n (x ∷ xs) (low, from) zero zero d le lt = omega arith
rises n (x ∷ xs) (low, from) zero (suc j) d le lt = at_least x xs j d from (omega (arith, lt))
rises n (x ∷ xs) (low, from) (suc i) zero d le lt = absurd (omega (arith, le))
rises n (x ∷ xs) (low, from) (suc i) (suc j) d le lt = rises x xs from i j d (omega (arith, le)) (omega (arith, lt))

pub ascending : (numbers : List ℕ) (nodes : List Node) (x : Ident) → numbers ≡ uses_from 0 nodes x → IsNonDecreasing numbers
ascending numbers nodes x is = subst IsNonDecreasing (sym is) (rises 0 (uses_from 0 nodes x) (from_uses 0 nodes x))

-- ---- between two numbers

pub bounds : (low high n : ℕ) → is_between low high n ≡ true → (low ≤ n) × (n ≤ high)
bounds low high n is = let (from, to) = and_parts (leb low n) (leb n high) is in (leb-true low n from, leb-true n high to)
