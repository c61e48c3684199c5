-- Terms put in for names are instances of nameless forms and resources.
use Rattle.std.specs.Prelude.{◌≡◌, List, [], map, length, ◌++◌}
use Rattle.core_language.specs.Names.{Ident}
use Rattle.core_language.specs.Terms.{Term}
use Rattle.core_language.specs.Resources.{Res}
use Rattle.linear_forms.specs.Terms.{IntVar}
use Rattle.linear_forms.specs.Substitution.{IsPutTerm, IsPutRes}
use Rattle.outline_language.specs.LinearForms.{LinearForm}
use Rattle.outline_language.specs.Nameless.{nameless_term, nameless_res, form_with, res_with}

-- the names for which terms are put in
abbrev pub names_put : List IntVar → List Ident
names_put put = map (λ v. v.name) put

-- the forms of these terms, over the integer variables
abbrev pub forms_put : List Ident → List IntVar → List LinearForm
forms_put ints put = map (λ v. nameless_term ints [] v.term) put

-- a term with the terms put in, under binders, is read as the nameless form with the instances
abbrev pub PutTermIsInstance : Type 0
PutTermIsInstance = (ints before after : List Ident) (put : List IntVar) (t u : Term) → IsPutTerm put before after t u
    → nameless_term ints after u ≡ form_with (forms_put ints put) (length before) (nameless_term ints (before ++ names_put put) t)

-- and a resource with the terms put in as the nameless resource with the instances
abbrev pub PutResIsInstance : Type 0
PutResIsInstance = (ints : List Ident) (put : List IntVar) (r s : Res) → IsPutRes put [] [] r s
    → nameless_res ints [] s ≡ res_with (forms_put ints put) 0 (nameless_res ints (names_put put) r)
