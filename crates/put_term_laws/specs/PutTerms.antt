-- What the terms that lowering puts in are worth.
use Rattle.std.specs.Prelude.{[], List, map}
use Rattle.linear_forms.specs.Terms.{IntVar}
use Rattle.linear_forms.specs.NormalTerms.{IsNormal, IsSameSum}
use Rattle.linear_forms.specs.Substitution.{IsPutTerm}
use Rattle.chan_base.specs.declared.spans.Span.{Span}
use Rattle.chan_syntax.specs.declared.linear.Part.{Part}
use Rattle.chan_syntax.specs.declared.linear.Term.{Term}
use Rattle.chan_syntax.specs.Reading.{part_of, term_of}
use Rattle.session_lowering.specs.declared.puts.Put.{Put}
use Rattle.session_lowering.specs.PutTerms.{normal, put_term}

-- the terms that stand for names, spans aside
abbrev pub vars_of : List Put → List IntVar
vars_of ps = map (λ p. record { name = p.name; term = term_of p.term }) ps

-- a normal form has the value of its parts
abbrev pub NormalIsSame : Type 0
NormalIsSame = (span : Span) (parts : List Part) → IsSameSum (term_of (normal span parts)) (map part_of parts)

-- and is one
abbrev pub NormalIsNormal : Type 0
NormalIsNormal = (span : Span) (parts : List Part) → IsNormal (term_of (normal span parts))

-- a term with terms put in is that
abbrev pub PutTermIsPut : Type 0
PutTermIsPut = (span : Span) (ps : List Put) (t : Term) → IsPutTerm (vars_of ps) [] [] (term_of t) (term_of (put_term span ps t))
