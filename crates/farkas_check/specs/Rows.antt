-- Linear rows over the integers.
use Rattle.std.specs.Prelude.{ℕ, suc, ◌≤◌, max, ℤ, pos, ◌+ℤ◌, ◌*ℤ◌, ◌≤ℤ◌, List, [], ◌∷◌, All, fold, length, slice_get, unwrap_or}
use Rattle.farkas_check.specs.declared.cert.Row.{Row}

-- the coefficient of a variable, which is 0 past the end of the list
abbrev pub coefficient : Row → ℕ → ℤ
coefficient row variable = unwrap_or (slice_get row.coefficients variable) (pos 0)

-- a row has at most 256 coefficients
abbrev pub IsNarrow : Row → Type 0
IsNarrow row = length row.coefficients ≤ 256

-- each coefficient times what its variable has, summed
abbrev pub linear_part : (ℕ → ℤ) → List ℤ → ℤ
linear_part values [] = pos 0
linear_part values (c ∷ cs) = (c *ℤ values 0) +ℤ linear_part (λ variable. values (suc variable)) cs

-- what the linear form of a row is where the variables have these values
abbrev pub value_at : (ℕ → ℤ) → Row → ℤ
value_at values row = linear_part values row.coefficients +ℤ row.constant

-- wherever each hypothesis is at most 0, the claim is at most 0
abbrev pub Entails : List Row → Row → Type 0
Entails hyps claim = (values : ℕ → ℤ) → All (λ hyp. value_at values hyp ≤ℤ pos 0) hyps → value_at values claim ≤ℤ pos 0

-- the row in which every number is 0
abbrev pub zero_row : Row
zero_row = record { coefficients = []; constant = pos 0 }

-- the hypothesis with this number
abbrev pub hypothesis : List Row → ℕ → Row
hypothesis hyps index = unwrap_or (slice_get hyps index) zero_row

-- below how many variables the coefficients of the rows lie
abbrev pub width : List Row → Row → ℕ
width hyps claim = fold (λ widest row. max widest (length row.coefficients)) (length claim.coefficients) hyps
