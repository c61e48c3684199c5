-- No row has a coefficient past the width.
use Rattle.std.proofs.Common.{◌≡◌, ℕ, zero, suc, ◌≤◌, max, pos, List, [], ◌∷◌, length, All, fold, arith}
use Rattle.std.proofs.lemmas.Option.{slice_get_past}
use Rattle.farkas_check.specs.declared.cert.Row.{Row}
use Rattle.farkas_check.specs.Rows.{coefficient, hypothesis, width}

abbrev pub widest_from : ℕ → List Row → ℕ
widest_from a hyps = fold (λ widest row. max widest (length row.coefficients)) a hyps

pub widest_from-least : (a : ℕ) (hyps : List Row) → a ≤ widest_from a hyps
widest_from-least a [] = omega arith
widest_from-least a (h ∷ hs) = omega (arith, widest_from-least (max a (length h.coefficients)) hs)

pub hypothesis-within : (a : ℕ) (hyps : List Row) (index : ℕ) → length (hypothesis hyps index).coefficients ≤ widest_from a hyps
hypothesis-within a [] index = omega arith
hypothesis-within a (h ∷ hs) zero = omega (arith, widest_from-least (max a (length h.coefficients)) hs)
hypothesis-within a (h ∷ hs) (suc index) = hypothesis-within (max a (length h.coefficients)) hs index

pub widest_from-most : (a n : ℕ) (hyps : List Row) → a ≤ n → All (λ hyp. length hyp.coefficients ≤ n) hyps → widest_from a hyps ≤ n
widest_from-most a n [] h each = h
widest_from-most a n (r ∷ rs) h each =
    let first : length r.coefficients ≤ n = each 0 r (omega arith) in
    widest_from-most (max a (length r.coefficients)) n rs (omega arith) (λ k d b. each (suc k) d (omega arith))

pub coefficient-past : (row : Row) (variable : ℕ) → length row.coefficients ≤ variable → coefficient row variable ≡ pos 0
coefficient-past row variable h = rw (slice_get_past row.coefficients variable h)

pub claim-past : (hyps : List Row) (claim : Row) (variable : ℕ) → width hyps claim ≤ variable → coefficient claim variable ≡ pos 0
claim-past hyps claim variable h = coefficient-past claim variable (omega (arith, widest_from-least (length claim.coefficients) hyps))

pub hypothesis-past : (hyps : List Row) (claim : Row) (variable : ℕ) → width hyps claim ≤ variable → (index : ℕ) → coefficient (hypothesis hyps index) variable ≡ pos 0
hypothesis-past hyps claim variable h index = coefficient-past (hypothesis hyps index) variable (omega (arith, hypothesis-within (length claim.coefficients) hyps index))
