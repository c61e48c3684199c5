-- What names and bare numbers count of a term decides its sums.
use Rattle.std.proofs.Common.{◌≡◌, ℕ, zero, suc, ◌≤◌, ℤ, pos, neg_ℤ, ◌+ℤ◌, ◌*ℤ◌, ◌-ℤ◌, Bool, true, false, not, if◌then◌else◌, [], ◌∷◌, ◌++◌, length, map, Option, Some, None, refl, sym, ap, arith}
use Rattle.std.proofs.lemmas.Int.{ints}
use Rattle.std.proofs.Math.IntN as Z
use Rattle.core_language.specs.Names.{Ident, same}
use Rattle.core_language.specs.Terms.{Part, Term}
use Rattle.farkas_check.proofs.Products.{distribute_right, neg_times}
use Rattle.linear_forms.specs.Terms.{times_of, counted, sum_of, negated, less}
use Rattle.linear_forms.specs.NormalTerms.{one_named, count_of, bare_of, IsSameSum}
use Rattle.linear_forms.proofs.SameNames.{same_is, same-self}

pub sum-append : (u : ℤ) (a : Ident → ℤ) (s t : Term) → sum_of u a (s ++ t) ≡ sum_of u a s +ℤ sum_of u a t
sum-append u a [] t = omega (arith, ints)
sum-append u a (p ∷ ps) t = omega (arith, ints, sum-append u a ps t)

-- a term without the parts that name x
abbrev is_named : Ident → Option Ident → Bool
is_named x None = false
is_named x (Some y) = same x y

abbrev without : Ident → Term → Term
without x [] = []
without x (p ∷ ps) = if is_named x p.name then without x ps else (p ∷ without x ps)

without-shorter : (x : Ident) (t : Term) → length (without x t) ≤ length t
without-shorter x [] = le
  where
    le : 0 ≤ 0
    le = omega arith
without-shorter x (p ∷ ps) = pick (is_named x p.name) (without-shorter x ps)
  where
    pick : (b : Bool) → length (without x ps) ≤ length ps → length (if b then without x ps else (p ∷ without x ps)) ≤ suc (length ps)
    pick true h = omega arith
    pick false h = omega arith

no_more : (t c s k a r : ℤ) → s ≡ (k *ℤ a) +ℤ r → (t *ℤ c) +ℤ s ≡ (((t *ℤ pos 0) +ℤ k) *ℤ a) +ℤ ((t *ℤ c) +ℤ r)
no_more t c s k a r h = omega (arith, ints, h, distribute_right (t *ℤ pos 0) k a, ap (λ z. z *ℤ a) (Z.*ℤ-zero t), Z.zero-*ℤ a)

one_more : (t s k a r : ℤ) → s ≡ (k *ℤ a) +ℤ r → (t *ℤ a) +ℤ s ≡ (((t *ℤ pos 1) +ℤ k) *ℤ a) +ℤ r
unfolding Z.one
one_more t s k a r h = omega (arith, ints, h, distribute_right (t *ℤ pos 1) k a, ap (λ z. z *ℤ a) (Z.*ℤ-one t))

one_unit : (t s b u : ℤ) → s ≡ b *ℤ u → (t *ℤ u) +ℤ s ≡ ((t *ℤ pos 1) +ℤ b) *ℤ u
unfolding Z.one
one_unit t s b u h = omega (arith, ints, h, distribute_right (t *ℤ pos 1) b u, ap (λ z. z *ℤ u) (Z.*ℤ-one t))

-- a sum is that of a name and of the rest
sum-split : (x : Ident) (u : ℤ) (a : Ident → ℤ) (t : Term) → sum_of u a t ≡ (count_of x t *ℤ a x) +ℤ sum_of u a (without x t)
sum-split x u a [] = omega (arith, ints, Z.zero-*ℤ (a x))
sum-split x u a (p ∷ ps) = each p.name refl (sum-split x u a ps)
  where
    other : (n : Option Ident) → p.name ≡ n → is_named x n ≡ false → counted (pos 0) (one_named x) n ≡ pos 0 → sum_of u a ps ≡ (count_of x ps *ℤ a x) +ℤ sum_of u a (without x ps) → sum_of u a (p ∷ ps) ≡ (count_of x (p ∷ ps) *ℤ a x) +ℤ sum_of u a (without x (p ∷ ps))
    other n e q z rest = rw (e, q, z) (no_more (times_of p) (counted u a n) (sum_of u a ps) (count_of x ps) (a x) (sum_of u a (without x ps)) rest)

    here : (y : Ident) (b : Bool) → p.name ≡ Some y → same x y ≡ b → sum_of u a ps ≡ (count_of x ps *ℤ a x) +ℤ sum_of u a (without x ps) → sum_of u a (p ∷ ps) ≡ (count_of x (p ∷ ps) *ℤ a x) +ℤ sum_of u a (without x (p ∷ ps))
    here y true e q rest = rw (e, q, sym (same_is x y q)) (one_more (times_of p) (sum_of u a ps) (count_of x ps) (a x) (sum_of u a (without x ps)) rest)
    here y false e q rest = other (Some y) e q (rw q refl) rest

    each : (n : Option Ident) → p.name ≡ n → sum_of u a ps ≡ (count_of x ps *ℤ a x) +ℤ sum_of u a (without x ps) → sum_of u a (p ∷ ps) ≡ (count_of x (p ∷ ps) *ℤ a x) +ℤ sum_of u a (without x (p ∷ ps))
    each None e rest = other None e refl refl rest
    each (Some y) e rest = here y (same x y) e refl rest

-- where no name counts, the sum is the constant's
no_counts : (n : ℕ) (t : Term) → length t ≤ n → ((x : Ident) → count_of x t ≡ pos 0) → (u : ℤ) (a : Ident → ℤ) → sum_of u a t ≡ bare_of t *ℤ u
no_counts n [] l h u a = sym (Z.zero-*ℤ u)
no_counts zero (p ∷ ps) l h u a = absurd (omega arith)
no_counts (suc n) (p ∷ ps) l h u a = each p.name refl (no_counts n)
  where
    each : (name : Option Ident) → p.name ≡ name → ((t : Term) → length t ≤ n → ((x : Ident) → count_of x t ≡ pos 0) → (u : ℤ) (a : Ident → ℤ) → sum_of u a t ≡ bare_of t *ℤ u) → sum_of u a (p ∷ ps) ≡ bare_of (p ∷ ps) *ℤ u
    each None e again =
        let less : (x : Ident) → count_of x ps ≡ pos 0 = λ x. let z : (times_of p *ℤ pos 0) +ℤ count_of x ps ≡ pos 0 = rw e at (h x) in omega (arith, ints, Z.*ℤ-zero (times_of p)) in
        rw e (one_unit (times_of p) (sum_of u a ps) (bare_of ps) u (again ps (omega arith) less u a))
    each (Some x) e again =
        let gone : without x (p ∷ ps) ≡ without x ps = rw (e, same-self x) refl in
        let none : (z : Ident) → count_of z (without x ps) ≡ pos 0 = λ z. let whole : count_of z (without x (p ∷ ps)) ≡ pos 0 = omega (arith, ints, h z, sum-split x (pos 0) (one_named z) (p ∷ ps), ap (λ k. k *ℤ one_named z x) (h x), Z.zero-*ℤ (one_named z x)) in rw gone at whole in
        let sum : sum_of u a (p ∷ ps) ≡ sum_of u a (without x (p ∷ ps)) = omega (arith, ints, sum-split x u a (p ∷ ps), ap (λ k. k *ℤ a x) (h x), Z.zero-*ℤ (a x)) in
        let bare : bare_of (p ∷ ps) ≡ bare_of (without x (p ∷ ps)) = omega (arith, ints, sum-split x (pos 1) (λ y. pos 0) (p ∷ ps), Z.*ℤ-zero (count_of x (p ∷ ps))) in
        rw (sum, bare, gone) (again (without x ps) (omega (arith, without-shorter x ps)) none u a)

-- ---- a term taken away
neg_neg : (z : ℤ) → neg_ℤ (neg_ℤ z) ≡ z
neg_neg z = omega (arith, ints)

pub times-negated : (p : Part) → times_of (negated p) ≡ neg_ℤ (times_of p)
times-negated p = pick p.negative
  where
    pick : (b : Bool) → (if not b then neg_ℤ p.factor else p.factor) ≡ neg_ℤ (if b then neg_ℤ p.factor else p.factor)
    pick true = sym (neg_neg p.factor)
    pick false = refl

pub sum-negated : (u : ℤ) (a : Ident → ℤ) (t : Term) → sum_of u a (map negated t) ≡ neg_ℤ (sum_of u a t)
sum-negated u a [] = refl
sum-negated u a (p ∷ ps) = rw (times-negated p) (omega (arith, ints, neg_times (times_of p) (counted u a p.name), sum-negated u a ps))

pub sum-less : (u : ℤ) (a : Ident → ℤ) (s t : Term) → sum_of u a (less s t) ≡ sum_of u a s -ℤ sum_of u a t
sum-less u a s t = omega (arith, ints, sum-append u a s (map negated t), sum-negated u a t)

-- terms that count each name and the unit alike have one sum everywhere
pub same_counts : (s t : Term) → ((x : Ident) → count_of x s ≡ count_of x t) → bare_of s ≡ bare_of t → IsSameSum s t
same_counts s t h b = λ u a.
    let none : (x : Ident) → count_of x (less s t) ≡ pos 0 = λ x. omega (arith, ints, sum-less (pos 0) (one_named x) s t, h x) in
    let bare : bare_of (less s t) ≡ pos 0 = omega (arith, ints, sum-less (pos 1) (λ x. pos 0) s t, b) in
    omega (arith, ints, sum-less u a s t, no_counts (length (less s t)) (less s t) (omega arith) none u a, ap (λ k. k *ℤ u) bare, Z.zero-*ℤ u)
