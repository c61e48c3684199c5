-- Sums of the places of a row.
use Rattle.std.specs.Prelude.{◌≡◌, ℕ, ◌≤◌, ℤ, pos, ◌+ℤ◌, ◌*ℤ◌, unsigned_abs, List, All, map, length}
use Rattle.std.specs.List.{range_with_len}
use Rattle.core_language.specs.Names.{Ident}
use Rattle.core_language.specs.Terms.{Part, Term}
use Rattle.linear_forms.specs.Terms.{IntVar, times_of, counted, sum_of, named, by_place, unit_at}
use Rattle.farkas_check.specs.declared.cert.Row.{Row}
use Rattle.outline_rules.specs.declared.sums.Sums.{Sums}

-- the row of the sums
abbrev pub row_in : Sums → Row
row_in sums = record { coefficients = sums.coefficients.items; constant = sums.constant }

-- as many sums as there are variables, of at most this size
pub record IsWithin (variables size : ℕ) (sums : Sums) : Type 0 where
  pub count : length sums.coefficients.items ≡ variables
  pub coefficients : All (λ z. unsigned_abs z ≤ size) sums.coefficients.items
  pub constant : unsigned_abs sums.constant ≤ size

-- to each coefficient and to the constant so much is added
pub record Adds (variables : ℕ) (more : ℕ → ℤ) (unit : ℤ) (old new : Sums) : Type 0 where
  pub coefficients : (f : ℕ → ℤ) → old.coefficients.items ≡ map f (range_with_len 0 variables) → new.coefficients.items ≡ map (λ i. f i +ℤ more i) (range_with_len 0 variables)
  pub constant : new.constant ≡ old.constant +ℤ unit

-- a part that names an integer variable, or nothing
abbrev pub AddsPart : List Ident → ℤ → Part → Sums → Sums → Type 0
AddsPart ints weight part = Adds (length ints) (λ i. weight *ℤ (times_of part *ℤ counted (pos 0) (by_place ints (unit_at i)) part.name)) (weight *ℤ (times_of part *ℤ counted (pos 1) (λ x. pos 0) part.name))

-- a term over the integer variables
abbrev pub AddsTerm : List Ident → ℤ → Term → Sums → Sums → Type 0
AddsTerm ints weight term = Adds (length ints) (λ i. weight *ℤ sum_of (pos 0) (by_place ints (unit_at i)) term) (weight *ℤ sum_of (pos 1) (λ x. pos 0) term)

-- a part that may name a program variable
abbrev pub AddsMeaning : List Ident → List IntVar → Part → Sums → Sums → Type 0
AddsMeaning ints vars part = Adds (length ints) (λ i. times_of part *ℤ counted (pos 0) (named vars (pos 0) (by_place ints (unit_at i))) part.name) (times_of part *ℤ counted (pos 1) (named vars (pos 1) (λ x. pos 0)) part.name)
