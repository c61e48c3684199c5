-- The one spelling of a linear form as a term.
use Rattle.std.specs.Prelude.{◌≡◌, ◌≢◌, ℤ, pos, negsuc, neg_ℤ, int_lt, true, false, ◌&&◌, if◌then◌else◌, List, [], ◌∷◌, ◌++◌, All, map, flat_map, Option, Some, None}
use Rattle.std.specs.Ordering.{nat_cmp, int_eq}
use Rattle.std.specs.List.Sorted.{IsStrictlySortedBy}
use Rattle.std.specs.Cmp.Lexicographic.{slice_cmp}
use Rattle.core_language.specs.Names.{Ident, same}
use Rattle.core_language.specs.Terms.{Part, Term}
use Rattle.linear_forms.specs.Terms.{sum_of}
use Rattle.linear_forms.specs.Normal.{fits}

-- a name, and how often it counts
abbrev pub Counted : Type 0
Counted = Ident × ℤ

-- a number as a part: a negative one is taken away, but for -2^63, whose size 64 bits don't hold
abbrev pub signed : Option Ident → ℤ → Part
signed name z = if int_lt z (pos 0) && int_lt (negsuc 9223372036854775807) z then record { negative = true; factor = neg_ℤ z; name = name } else record { negative = false; factor = z; name = name }

-- a name and how often it counts, left out where that is 0 times
abbrev pub counted_once : Counted → List Counted
counted_once c = if int_eq c.1 (pos 0) then [] else (c ∷ [])

abbrev pub nonzero : List Counted → List Counted
nonzero counts = flat_map counted_once counts

abbrev pub named_parts : List Counted → List Part
named_parts counts = map (λ c. signed (Some c.0) c.1) counts

-- the constant, which is not written where it is 0 and something else is
abbrev pub constant_parts : List Counted → ℤ → List Part
constant_parts [] constant = signed None constant ∷ []
constant_parts (c ∷ cs) constant = if int_eq constant (pos 0) then [] else (signed None constant ∷ [])

-- names, then the constant
abbrev pub spelled : List Counted → ℤ → Term
spelled counts constant = named_parts counts ++ constant_parts counts constant

-- each name once, in the order of names, none of them 0 times, then the constant
pub record IsNormal (term : Term) : Type 0 where
  pub counts : List Counted
  pub constant : ℤ
  pub ordered : IsStrictlySortedBy (slice_cmp nat_cmp) (map (λ c. c.0) counts)
  pub counted : All (λ c. c.1 ≢ pos 0) counts
  pub spelled : term ≡ spelled counts constant

-- one at a name, and nothing elsewhere
abbrev pub one_named : Ident → Ident → ℤ
one_named x y = if same x y then pos 1 else pos 0

-- how often a term counts a name, and its constant
abbrev pub count_of : Ident → Term → ℤ
count_of x term = sum_of (pos 0) (one_named x) term

abbrev pub bare_of : Term → ℤ
bare_of term = sum_of (pos 1) (λ x. pos 0) term

-- 64 bits hold each number of the term's normal form
pub record NumbersFit (term : Term) : Type 0 where
  pub counts : (x : Ident) → fits (count_of x term) ≡ true
  pub constant : fits (bare_of term) ≡ true

-- one value, whatever names and bare numbers count
abbrev pub IsSameSum : Term → Term → Type 0
IsSameSum t u = (unit : ℤ) (at : Ident → ℤ) → sum_of unit at t ≡ sum_of unit at u
