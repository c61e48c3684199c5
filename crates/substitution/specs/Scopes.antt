-- What is put in for names, and the binders around a place, as lists of names and terms.
use Rattle.std.specs.Prelude.{List, map}
use Rattle.core_language.specs.Names.{Ident}
use Rattle.linear_forms.specs.Terms.{IntVar}
use Rattle.chan_syntax.specs.Reading.{term_of}
use Rattle.substitution.specs.declared.scope.Put.{Put}
use Rattle.substitution.specs.declared.scope.Binder.{Binder}

-- a name of the list, and the term at its place
abbrev pub put_in : Put → IntVar
put_in put = record { name = put.name; term = term_of put.term }

-- the binders around a place as they were, and as they are in the result
abbrev pub before_of : List Binder → List Ident
before_of scope = map (λ b. b.name) scope

abbrev pub after_of : List Binder → List Ident
after_of scope = map (λ b. b.made) scope
