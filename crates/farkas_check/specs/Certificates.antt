-- Which certificates are valid, and what fails of the others.
use Rattle.std.specs.Prelude.{◌≡◌, ℕ, ◌<◌, ℤ, pos, ◌+ℤ◌, ◌-ℤ◌, ◌*ℤ◌, ◌≤ℤ◌, Bool, true, false, not, List, [], ◌∷◌, ◌++◌, All, length, flat_map, nat_le, int_lt, Result, Ok, Err}
use Rattle.std.specs.List.{range_with_len}
use Rattle.std.specs.Ordering.{int_eq}
use Rattle.farkas_check.specs.Rows.{coefficient, hypothesis, width}
use Rattle.farkas_check.specs.declared.cert.Row.{Row}
use Rattle.farkas_check.specs.declared.cert.Mention.{Mention}
use Rattle.farkas_check.specs.declared.cert.CertFault.{CertFault}
use Rattle.farkas_check.specs.declared.cert.CertFault.TheVariants.{BadIndex, Negative, NotEqual, Constant}

-- each factor times a number of its hypothesis, summed
abbrev pub combined : (Row → ℤ) → List Row → List Mention → ℤ
combined number hyps [] = pos 0
combined number hyps (m ∷ ms) = (m.factor *ℤ number (hypothesis hyps m.index)) +ℤ combined number hyps ms

-- what the claim times the divisor has at a variable, and what the sum of the hypotheses has there
abbrev pub claimed_at : ℕ → Row → ℕ → ℤ
claimed_at divisor claim variable = pos divisor *ℤ coefficient claim variable

abbrev pub combined_at : List Mention → List Row → ℕ → ℤ
combined_at mentions hyps variable = combined (λ row. coefficient row variable) hyps mentions

-- the constant of the claim times the divisor less that of the sum
abbrev pub constant_left : ℕ → List Mention → List Row → Row → ℤ
constant_left divisor mentions hyps claim = (pos divisor *ℤ claim.constant) -ℤ combined (λ row. row.constant) hyps mentions

-- the claim times the divisor is a sum of non-negative multiples of hypotheses, plus a constant below the divisor
pub record IsValid (divisor : ℕ) (mentions : List Mention) (hyps : List Row) (claim : Row) : Type 0 where
  pub indexed : All (λ m. m.index < length hyps) mentions
  pub non_negative : All (λ m. pos 0 ≤ℤ m.factor) mentions
  pub equal : (variable : ℕ) → claimed_at divisor claim variable ≡ combined_at mentions hyps variable
  pub constant : constant_left divisor mentions hyps claim ≤ℤ (pos divisor -ℤ pos 1)

-- the fault, where it is one
abbrev pub fault_if : Bool → CertFault → List CertFault
fault_if true fault = fault ∷ []
fault_if false fault = []

-- what fails of a mention: it names no hypothesis, then its factor is negative
abbrev pub faults_of_mention : List Row → Mention → List CertFault
faults_of_mention hyps m =
    fault_if (nat_le (length hyps) m.index) (BadIndex m.index) ++ fault_if (int_lt m.factor (pos 0)) (Negative m.index)

-- what fails of the mentions, in order
abbrev pub mention_faults : List Row → List Mention → List CertFault
mention_faults hyps mentions = flat_map (faults_of_mention hyps) mentions

-- at a variable the claim times the divisor and the sum differ
abbrev pub faults_at_variable : ℕ → List Mention → List Row → Row → ℕ → List CertFault
faults_at_variable divisor mentions hyps claim variable =
    fault_if (not (int_eq (claimed_at divisor claim variable) (combined_at mentions hyps variable))) (NotEqual variable (claimed_at divisor claim variable) (combined_at mentions hyps variable))

-- the variables at which they differ, in order
abbrev pub coefficient_faults : ℕ → List Mention → List Row → Row → List CertFault
coefficient_faults divisor mentions hyps claim = flat_map (faults_at_variable divisor mentions hyps claim) (range_with_len 0 (width hyps claim))

-- the constant that is left is the divisor or more
abbrev pub constant_faults : ℕ → List Mention → List Row → Row → List CertFault
constant_faults divisor mentions hyps claim =
    fault_if (int_lt (pos divisor -ℤ pos 1) (constant_left divisor mentions hyps claim)) (Constant (constant_left divisor mentions hyps claim) divisor)

-- all that fails, in order: mentions, then coefficients, then the constant
abbrev pub faults : ℕ → List Mention → List Row → Row → List CertFault
faults divisor mentions hyps claim =
    mention_faults hyps mentions ++ coefficient_faults divisor mentions hyps claim ++ constant_faults divisor mentions hyps claim

-- the first of the faults, if there is one
abbrev pub verdict : List CertFault → Result (Unit {0}) CertFault
verdict [] = Ok tt
verdict (fault ∷ _) = Err fault

-- the variable that the fault names, if it names one, is below this number
abbrev pub IsWithin : ℕ → CertFault → Type 0
IsWithin variables (NotEqual variable left right) = variable < variables
IsWithin variables _ = Unit {0}
