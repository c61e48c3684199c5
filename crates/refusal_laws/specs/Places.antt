-- Where a fault of the parser stands in its text.
use Rattle.std.specs.Prelude.{◌≡◌, ◌⊎◌, ℕ, List, []}
use Rattle.chan_base.specs.declared.spans.Span.{Span}
use Rattle.text_tokens.specs.Text.{Token, HasTokens, IsWithin, span_behind}
use Rattle.chan_parser.specs.Parse.{Fault, unexpected, too_deep, IsFirstFault}

-- where a fault stands
abbrev pub span_of : Fault → Span
span_of (unexpected span) = span
span_of (too_deep span) = span

-- the span is of some bytes of the text, or the empty one just behind its last byte
abbrev pub IsWithinOrBehind : List ℕ → Span → Type 0
IsWithinOrBehind text span = IsWithin text span ⊎ (span ≡ span_behind text [])

-- the first fault of the tokens of a text stands within it or just behind it
abbrev pub IsWithinTheText : Type 0
IsWithinTheText = (text : List ℕ) (tokens : List Token) (fault : Fault) → HasTokens text tokens → IsFirstFault text tokens fault → IsWithinOrBehind text (span_of fault)
