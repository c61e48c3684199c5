-- Terms under binders that are renamed.
use Rattle.std.specs.Prelude.{◌≡◌, ℕ, suc, ◌++◌, List, [], ◌∷◌, Option, Some, None}
use Rattle.core_language.specs.Names.{Ident}
use Rattle.core_language.specs.Terms as core
use Rattle.linear_forms.specs.Substitution.{place_of, IsPutTerm}
use Rattle.chan_base.specs.declared.spans.Span.{Span}
use Rattle.chan_syntax.specs.declared.linear.Term.{Term}
use Rattle.chan_syntax.specs.Reading.{term_of}
use Rattle.session_lowering.specs.declared.puts.Put.{Put}
use Rattle.session_lowering.specs.PutTerms.{puts, put_term}
use Rattle.session_lowering.specs.Helpers.{names_as_terms}
use Rattle.put_term_laws.specs.PutTerms.{vars_of}

-- a name is none of the new ones
abbrev pub IsClear : List Ident → Option Ident → Type 0
IsClear after None = Unit {0}
IsClear after (Some x) = place_of after x ≡ None

-- and so are those of a term
abbrev pub IsClearTerm : List Ident → core.Term → Type 0
IsClearTerm after [] = Unit {0}
IsClearTerm after (p ∷ ps) = IsClear after p.name × IsClearTerm after ps

-- and those of the terms that are put in
abbrev pub AreClear : List Ident → List Put → Type 0
AreClear after [] = Unit {0}
AreClear after (p ∷ ps) = IsClearTerm after (term_of p.term) × AreClear after ps

-- the names stand in the list at their places, from this place on
abbrev pub StandFrom : List Ident → ℕ → List Ident → Type 0
StandFrom all k [] = Unit {0}
StandFrom all k (x ∷ xs) = (place_of all x ≡ Some k) × StandFrom all (suc k) xs

abbrev pub AsMany : List Ident → List Ident → Type 0
AsMany [] [] = Unit {0}
AsMany (x ∷ xs) (y ∷ ys) = AsMany xs ys
AsMany _ _ = ⊥

-- new names for the binders around a term, and the terms put in, at once
abbrev pub RenamedIsPut : Type 0
RenamedIsPut = (span : Span) (before after : List Ident) (ps : List Put) (t : Term) → AsMany before after → StandFrom after 0 after
    → AreClear after ps → IsClearTerm after (term_of t)
    → IsPutTerm (vars_of ps) before after (term_of t) (term_of (put_term span (puts before (names_as_terms span after) ++ ps) t))
