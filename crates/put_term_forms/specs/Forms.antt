-- A term that lowering puts in, as a form of a context.
use Rattle.std.specs.Prelude.{◌≡◌, List, ◌++◌, length}
use Rattle.core_language.specs.Names.{Ident}
use Rattle.chan_base.specs.declared.spans.Span.{Span}
use Rattle.chan_syntax.specs.declared.linear.Term.{Term}
use Rattle.chan_syntax.specs.Reading.{term_of}
use Rattle.outline_language.specs.Nameless.{nameless_term, form_with}
use Rattle.nameless_ties.specs.Ties.{names_put, forms_put}
use Rattle.session_lowering.specs.declared.puts.Put.{Put}
use Rattle.session_lowering.specs.PutTerms.{puts, put_term}
use Rattle.session_lowering.specs.Helpers.{names_as_terms}
use Rattle.put_term_laws.specs.PutTerms.{vars_of}
use Rattle.put_term_laws.specs.Under.{AsMany, StandFrom, AreClear, IsClearTerm}

-- with new names for the binders around it, its form is that of the term with the instances
abbrev pub PutTermIsForm : Type 0
PutTermIsForm = (span : Span) (ints before after : List Ident) (ps : List Put) (t : Term) → AsMany before after → StandFrom after 0 after
    → AreClear after ps → IsClearTerm after (term_of t)
    → nameless_term ints after (term_of (put_term span (puts before (names_as_terms span after) ++ ps) t))
    ≡ form_with (forms_put ints (vars_of ps)) (length before) (nameless_term ints (before ++ names_put (vars_of ps)) (term_of t))
