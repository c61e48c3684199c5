-- What `parse` promises.
use Rattle.std.specs.Prelude.{◌≡◌, ℕ, ◌+◌, List, [], ◌∷◌}
use Rattle.chan_base.specs.declared.spans.Span.{Span}
use Rattle.text_tokens.specs.Text.{Token, span_behind}
use Rattle.grammar_laws.specs.Laws.{IsUnexpected, IsTooDeep}
use Rattle.surface_grammar.specs.Declarations.{program}
use Rattle.surface_grammar.specs.Language.{surface, max_levels}
use Rattle.chan_parser.specs.declared.parse_fault.ParseFault.{ParseFault}
use Rattle.chan_parser.specs.declared.parse_fault.ParseFault.TheVariants.{Unexpected, TooDeep, Memory}

-- the place of the first of these tokens, or just behind the last byte of the source where there is none
abbrev pub place_of : List ℕ → List Token → Span
place_of source [] = span_behind source []
place_of source (t ∷ ts) = t.span

-- why a text is not in the grammar
pub data Fault : Type 0 where
  unexpected : (span : Span) → Fault
  too_deep : (span : Span) → Fault

-- The fault is the first of these tokens of the source: the first token that no text of the grammar goes on with, or the end where all are
-- only the front of a text, or else the first token that opens a level too many.
abbrev pub IsFirstFault : List ℕ → List Token → Fault → Type 0
IsFirstFault source ts (unexpected span) = (rest : List Token) × IsUnexpected surface (max_levels + 1) program ts rest × (span ≡ place_of source rest)
IsFirstFault source ts (too_deep span) = (rest : List Token) × IsTooDeep surface (max_levels + 1) program ts rest × (span ≡ place_of source rest)

-- the error is the first fault, or tells of want of memory
abbrev pub IsFaultOf : List ℕ → List Token → ParseFault → Type 0
IsFaultOf source ts (Unexpected span) = IsFirstFault source ts (unexpected span)
IsFaultOf source ts (TooDeep span) = IsFirstFault source ts (too_deep span)
IsFaultOf source ts Memory = Unit {0}

-- the error is this fault, or tells of want of memory
abbrev pub Says : ParseFault → Fault → Type 0
Says (Unexpected span) (unexpected other) = span ≡ other
Says (Unexpected span) (too_deep other) = ⊥
Says (TooDeep span) (unexpected other) = ⊥
Says (TooDeep span) (too_deep other) = span ≡ other
Says Memory fault = Unit {0}

-- the answer for want of memory
abbrev pub IsMemory : ParseFault → Type 0
IsMemory (Unexpected span) = ⊥
IsMemory (TooDeep span) = ⊥
IsMemory Memory = Unit {0}
