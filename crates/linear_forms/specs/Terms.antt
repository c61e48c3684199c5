-- Terms as linear rows over the integer variables of a context.
use Rattle.std.specs.Prelude.{◌≡◌, ℕ, zero, suc, ℤ, pos, neg_ℤ, ◌+ℤ◌, ◌*ℤ◌, false, not, if◌then◌else◌, List, [], ◌∷◌, ◌++◌, map, length, Option, Some, None}
use Rattle.std.specs.List.{range_with_len}
use Rattle.core_language.specs.Names.{Ident, same}
use Rattle.core_language.specs.Terms.{Part, Term}
use Rattle.farkas_check.specs.declared.cert.Row.{Row}
use Rattle.farkas_check.specs.Rows.{value_at}

-- a program variable that is an integer, and its term over the integer variables
pub record IntVar : Type 0 where
  pub name : Ident
  pub term : Term

-- the integer variables of a context in order, and its program variables that are integers
pub record IntNames : Type 0 where
  pub ints : List Ident
  pub vars : List IntVar

-- how often a part counts
abbrev pub times_of : Part → ℤ
times_of part = if part.negative then neg_ℤ part.factor else part.factor

-- what a part names, or the unit where it is a bare number
abbrev pub counted : ℤ → (Ident → ℤ) → Option Ident → ℤ
counted unit at None = unit
counted unit at (Some x) = at x

-- the sum of the parts
abbrev pub sum_of : ℤ → (Ident → ℤ) → Term → ℤ
sum_of unit at [] = pos 0
sum_of unit at (p ∷ ps) = (times_of p *ℤ counted unit at p.name) +ℤ sum_of unit at ps

-- a part taken away in place of added
abbrev pub negated : Part → Part
negated part = record { negative = not part.negative; factor = part.factor; name = part.name }

-- the first term less the second
abbrev pub less : Term → Term → Term
less t u = t ++ map negated u

abbrev pub one : Part
one = record { negative = false; factor = pos 1; name = None }

-- each name with the term at its place
abbrev pub put_of : List Ident → List Term → List IntVar
put_of [] ts = []
put_of (x ∷ xs) [] = []
put_of (x ∷ xs) (t ∷ ts) = record { name = x; term = t } ∷ put_of xs ts

-- a name: the term of a program variable, else an integer variable
abbrev pub named : List IntVar → ℤ → (Ident → ℤ) → Ident → ℤ
named [] unit at x = at x
named (v ∷ vs) unit at x = if same v.name x then sum_of unit at v.term else named vs unit at x

-- a term whose program variables stand for their terms
abbrev pub meaning_at : IntNames → ℤ → (Ident → ℤ) → Term → ℤ
meaning_at names unit at term = sum_of unit (named names.vars unit at) term

-- what an integer variable has, by its place
abbrev pub by_place : List Ident → (ℕ → ℤ) → Ident → ℤ
by_place [] values x = pos 0
by_place (y ∷ ys) values x = if same y x then values 0 else by_place ys (λ i. values (suc i)) x

-- the value of a term where the integer variables have these values
abbrev pub term_value : IntNames → (ℕ → ℤ) → Term → ℤ
term_value names values term = meaning_at names (pos 1) (by_place names.ints values) term

-- one at its own place
abbrev pub unit_at : ℕ → ℕ → ℤ
unit_at zero zero = pos 1
unit_at zero (suc j) = pos 0
unit_at (suc i) zero = pos 0
unit_at (suc i) (suc j) = unit_at i j

-- how often a term counts the integer variable at a place, and its constant
abbrev pub coefficient_of : IntNames → Term → ℕ → ℤ
coefficient_of names term i = meaning_at names (pos 0) (by_place names.ints (unit_at i)) term

abbrev pub constant_of : IntNames → Term → ℤ
constant_of names term = meaning_at names (pos 1) (λ x. pos 0) term

-- the normal form
abbrev pub normal_form : IntNames → Term → Row
normal_form names term = record {
  coefficients = map (coefficient_of names term) (range_with_len 0 (length names.ints));
  constant = constant_of names term;
}

abbrev pub NormalHasTheValue : Type 0
NormalHasTheValue = (names : IntNames) (term : Term) (values : ℕ → ℤ) → value_at values (normal_form names term) ≡ term_value names values term

abbrev pub NormalIsTheOnlyRow : Type 0
NormalIsTheOnlyRow = (names : IntNames) (term : Term) (row : Row) → length row.coefficients ≡ length names.ints → ((values : ℕ → ℤ) → value_at values row ≡ term_value names values term) → row ≡ normal_form names term
