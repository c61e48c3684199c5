-- What `normal` answers, memory aside.
use Rattle.std.specs.Prelude.{◌≡◌, ℤ, pos, negsuc, int_le, Bool, true, false, not, ◌&&◌, ◌||◌, if◌then◌else◌, List, flat_map, find, Option, Some, None, option_to_list, Result, Ok, Err}
use Rattle.std.specs.List.{list_all, list_any}
use Rattle.core_language.specs.Names.{Ident, same}
use Rattle.core_language.specs.Terms.{Term}
use Rattle.farkas_check.specs.declared.cert.Row.{Row}
use Rattle.linear_forms.specs.Terms.{IntNames, normal_form}

pub data Fault : Type 0 where
  NotInt : Ident → Fault
  TooLarge : Fault

abbrev pub names_of : Term → List Ident
names_of term = flat_map (λ p. option_to_list p.name) term

abbrev pub is_int : IntNames → Ident → Bool
is_int names x = list_any (λ v. same v.name x) names.vars || list_any (λ y. same y x) names.ints

-- the first name of the term that is no integer
abbrev pub not_int : IntNames → Term → Option Ident
not_int names term = find (λ x. not (is_int names x)) (names_of term)

-- within 64 bits
abbrev pub fits : ℤ → Bool
fits z = int_le (negsuc 9223372036854775807) z && int_le z (pos 9223372036854775807)

-- a number where 64 bits hold it, else the fault
abbrev pub IsNumberOf : {E : Type 0} → (too_large : E) → ℤ → Result ℤ E → Type 0
IsNumberOf too_large z (Ok n) = (n ≡ z) × (fits z ≡ true)
IsNumberOf too_large z (Err fault) = (fault ≡ too_large) × (fits z ≡ false)

abbrev pub row_fits : Row → Bool
row_fits row = list_all fits row.coefficients && fits row.constant

abbrev pub within_64_bits : Row → Result Row Fault
within_64_bits row = if row_fits row then Ok row else Err TooLarge

abbrev pub normal_if : Option Ident → Row → Result Row Fault
normal_if (Some x) row = Err (NotInt x)
normal_if None row = within_64_bits row

abbrev pub normal_of : IntNames → Term → Result Row Fault
normal_of names term = normal_if (not_int names term) (normal_form names term)
