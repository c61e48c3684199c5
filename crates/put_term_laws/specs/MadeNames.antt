-- Made names are apart.
use Rattle.std.specs.Prelude.{◌≡◌, ℕ, ◌<◌, ◌+◌, ◌^◌, List, length, Some}
use Rattle.core_language.specs.Names.{Ident}
use Rattle.linear_forms.specs.Substitution.{place_of}
use Rattle.session_lowering.specs.MadeNames.{numbered, numbered_from}

-- two numbers make two names
abbrev pub NumberedIsOne : Type 0
NumberedIsOne = (base : Ident) (i j : ℕ) → i < 2 ^ 64 → j < 2 ^ 64 → numbered base i ≡ numbered base j → i ≡ j

-- a numbered name of a list stands at its number, counted from the first
abbrev pub NumberedStands : Type 0
NumberedStands = (base : Ident) (k i : ℕ) (xs : List Ident) → i < length xs → k + length xs < 2 ^ 64 → place_of (numbered_from base k xs) (numbered base (k + i)) ≡ Some i
