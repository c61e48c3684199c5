-- Narrow terms and limits have forms and rows whose numbers 64 bits hold.
use Rattle.std.specs.Prelude.{◌≡◌, true, List, [], length}
use Rattle.std.specs.List.{list_all}
use Rattle.core_language.specs.Names.{Ident}
use Rattle.core_language.specs.Terms.{Term, Limit}
use Rattle.linear_forms.specs.Normal.{row_fits}
use Rattle.narrow_terms.specs.Numbers.{is_narrow, is_narrow_limit}
use Rattle.outline_language.specs.LinearForms.{form_fits, row_of}
use Rattle.outline_language.specs.Nameless.{nameless_term, nameless_limit, forms_of_limit}

-- whatever its names stand for
abbrev pub NarrowTermsFit : Type 0
NarrowTermsFit = (ints around : List Ident) (t : Term) → is_narrow t ≡ true → form_fits (nameless_term ints around t) ≡ true

-- over the integer variables with these names
abbrev pub NarrowLimitsFit : Type 0
NarrowLimitsFit =
    (ints : List Ident) (limit : Limit) → is_narrow_limit limit ≡ true
    → list_all (λ g. row_fits (row_of (length ints) g)) (forms_of_limit (nameless_limit ints [] limit)) ≡ true
