-- A valid certificate shows that the claim follows.
use Rattle.std.proofs.Common.{◌≡◌, ℕ, zero, suc, ◌<◌, ◌≤◌, ℤ, pos, ◌+ℤ◌, ◌*ℤ◌, ◌≤ℤ◌, List, [], ◌∷◌, length, All, slice_get, unwrap_or, refl, ap, sym, ◌∙◌, arith}
use Rattle.std.proofs.lemmas.Int.{ints}
use Rattle.std.proofs.Math.IntN as Z
use Rattle.farkas_check.specs.declared.cert.Row.{Row}
use Rattle.farkas_check.specs.declared.cert.Mention.{Mention}
use Rattle.farkas_check.specs.Rows.{coefficient, linear_part, value_at, Entails, zero_row, hypothesis, width}
use Rattle.farkas_check.specs.Certificates.{combined, claimed_at, combined_at, constant_left, IsValid}
use Rattle.farkas_check.proofs.Products.{distribute, distribute_right, times_times, times_at_most_zero, below_divisor}
use Rattle.farkas_check.proofs.Sums.{combined-cong, hypothesis-at}
use Rattle.farkas_check.proofs.Widths.{widest_from-least, hypothesis-within}

-- the coefficients of the first n variables times their values, summed
abbrev sum_below : (ℕ → ℤ) → ℕ → (ℕ → ℤ) → ℤ
sum_below values zero of = pos 0
sum_below values (suc n) of = (of 0 *ℤ values 0) +ℤ sum_below (λ variable. values (suc variable)) n (λ variable. of (suc variable))

sum_below-cong : (values : ℕ → ℤ) (n : ℕ) (f g : ℕ → ℤ) → ((variable : ℕ) → f variable ≡ g variable) → sum_below values n f ≡ sum_below values n g
sum_below-cong values zero f g same = refl
sum_below-cong values (suc n) f g same = rw (same 0, sum_below-cong (λ variable. values (suc variable)) n (λ variable. f (suc variable)) (λ variable. g (suc variable)) (λ variable. same (suc variable)))

sum_below-zero : (values : ℕ → ℤ) (n : ℕ) → sum_below values n (λ variable. pos 0) ≡ pos 0
sum_below-zero values zero = refl
sum_below-zero values (suc n) = omega (arith, ints, Z.zero-*ℤ (values 0), sum_below-zero (λ variable. values (suc variable)) n)

sum_below-add : (values : ℕ → ℤ) (n : ℕ) (f g : ℕ → ℤ) → sum_below values n (λ variable. f variable +ℤ g variable) ≡ sum_below values n f +ℤ sum_below values n g
sum_below-add values zero f g = refl
sum_below-add values (suc n) f g = omega (arith, ints, distribute_right (f 0) (g 0) (values 0), sum_below-add (λ variable. values (suc variable)) n (λ variable. f (suc variable)) (λ variable. g (suc variable)))

sum_below-scale : (values : ℕ → ℤ) (n : ℕ) (k : ℤ) (f : ℕ → ℤ) → sum_below values n (λ variable. k *ℤ f variable) ≡ k *ℤ sum_below values n f
sum_below-scale values zero k f = sym (Z.*ℤ-zero k)
sum_below-scale values (suc n) k f =
    omega (arith, ints, times_times k (f 0) (values 0), distribute k (f 0 *ℤ values 0) (sum_below (λ variable. values (suc variable)) n (λ variable. f (suc variable))), sum_below-scale (λ variable. values (suc variable)) n k (λ variable. f (suc variable)))

-- a linear part is such a sum, of as many variables as it has or more
linear_part-below : (values : ℕ → ℤ) (cs : List ℤ) (n : ℕ) → length cs ≤ n → linear_part values cs ≡ sum_below values n (λ variable. unwrap_or (slice_get cs variable) (pos 0))
linear_part-below values [] n h = sym (sum_below-zero values n)
linear_part-below values (c ∷ cs) zero h = absurd (omega arith)
linear_part-below values (c ∷ cs) (suc n) h = rw (linear_part-below (λ variable. values (suc variable)) cs n (omega arith))

sum_below-combined : (values : ℕ → ℤ) (n : ℕ) (hyps : List Row) (ms : List Mention) → sum_below values n (λ variable. combined (λ row. coefficient row variable) hyps ms) ≡ combined (λ row. sum_below values n (coefficient row)) hyps ms
sum_below-combined values n hyps [] = sum_below-zero values n
sum_below-combined values n hyps (m ∷ ms) =
    sum_below-add values n (λ variable. m.factor *ℤ coefficient (hypothesis hyps m.index) variable) (λ variable. combined (λ row. coefficient row variable) hyps ms)
    ∙ omega (arith, ints, sum_below-scale values n m.factor (coefficient (hypothesis hyps m.index)), sum_below-combined values n hyps ms)

combined-add : (f g : Row → ℤ) (hyps : List Row) (ms : List Mention) → combined (λ row. f row +ℤ g row) hyps ms ≡ combined f hyps ms +ℤ combined g hyps ms
combined-add f g hyps [] = refl
combined-add f g hyps (m ∷ ms) = omega (arith, ints, distribute m.factor (f (hypothesis hyps m.index)) (g (hypothesis hyps m.index)), combined-add f g hyps ms)

-- a sum of non-negative multiples of numbers that are at most 0
combined_at_most_zero : (number : Row → ℤ) (hyps : List Row) (ms : List Mention) → All (λ m. m.index < length hyps) ms → All (λ m. pos 0 ≤ℤ m.factor) ms → All (λ hyp. number hyp ≤ℤ pos 0) hyps → combined number hyps ms ≤ℤ pos 0
combined_at_most_zero number hyps [] indexed weights each = omega (arith, ints)
combined_at_most_zero number hyps (m ∷ ms) indexed weights each =
    let inside : m.index < length hyps = indexed 0 m (omega arith) in
    let weight : pos 0 ≤ℤ m.factor = weights 0 m (omega arith) in
    let low : number (hypothesis hyps m.index) ≤ℤ pos 0 = rw (hypothesis-at hyps m.index zero_row inside) (each m.index zero_row inside) in
    let rest : combined number hyps ms ≤ℤ pos 0 = combined_at_most_zero number hyps ms (λ k d h. indexed (suc k) d (omega arith)) (λ k d h. weights (suc k) d (omega arith)) each in
    omega (arith, ints, times_at_most_zero m.factor (number (hypothesis hyps m.index)) weight low)

-- the identity between linear forms gives one between numbers
claimed_value : (divisor : ℕ) (mentions : List Mention) (hyps : List Row) (claim : Row) (values : ℕ → ℤ) → IsValid divisor mentions hyps claim → pos divisor *ℤ value_at values claim ≡ combined (value_at values) hyps mentions +ℤ constant_left divisor mentions hyps claim
claimed_value divisor mentions hyps claim values valid =
    let n = width hyps claim in
    let d = pos divisor in
    let claim_part : linear_part values claim.coefficients ≡ sum_below values n (coefficient claim) = linear_part-below values claim.coefficients n (widest_from-least (length claim.coefficients) hyps) in
    let scaled = sum_below-scale values n d (coefficient claim) in
    let same = sum_below-cong values n (claimed_at divisor claim) (combined_at mentions hyps) valid.equal in
    let summed = sum_below-combined values n hyps mentions in
    let parts : combined (λ row. sum_below values n (coefficient row)) hyps mentions ≡ combined (λ row. linear_part values row.coefficients) hyps mentions =
    combined-cong (λ row. sum_below values n (coefficient row)) (λ row. linear_part values row.coefficients) hyps mentions (λ index. sym (linear_part-below values (hypothesis hyps index).coefficients n (hypothesis-within (length claim.coefficients) hyps index))) in
    let values_added = combined-add (λ row. linear_part values row.coefficients) (λ row. row.constant) hyps mentions in
    let linear : d *ℤ linear_part values claim.coefficients ≡ combined (λ row. linear_part values row.coefficients) hyps mentions = ap (λ x. d *ℤ x) claim_part ∙ sym scaled ∙ same ∙ summed ∙ parts in
    omega (arith, ints, linear, values_added, distribute d (linear_part values claim.coefficients) claim.constant)

pub entailed : (divisor : ℕ) (mentions : List Mention) (hyps : List Row) (claim : Row) → 1 ≤ divisor → IsValid divisor mentions hyps claim → Entails hyps claim
entailed divisor mentions hyps claim positive valid values each =
    below_divisor divisor (value_at values claim) positive
    (omega (arith, ints, valid.constant, claimed_value divisor mentions hyps claim values valid, combined_at_most_zero (value_at values) hyps mentions valid.indexed valid.non_negative each))
