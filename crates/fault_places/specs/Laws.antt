-- Where the faults of form of a program, and of a text, stand.
use Rattle.std.specs.Prelude.{◌≡◌, ◌⊎◌, ℕ, Bool, List, [], take, IsTrue}
use Rattle.chan_base.specs.declared.spans.Span.{Span}
use Rattle.chan_syntax.specs.declared.surface_tree.Surface.{Surface}
use Rattle.form_faults.specs.declared.faults.IllKind.TheVariants as kind
use Rattle.form_faults.specs.declared.faults.Ill.{Ill}
use Rattle.core_programs.specs.declared.nodes.Parts.{Parts}
use Rattle.core_programs.specs.declared.faults.BuildFault.TheVariants as fault
use Rattle.core_programs.specs.Form.{IsFault}
use Rattle.core_numbering.specs.Numbering.{IsNumberingFault}
use Rattle.text_tokens.specs.Text.{Token, HasTokens, IsWithin, span_behind}
use Rattle.surface_grammar.specs.Language.{Derives}
use Rattle.fault_places.specs.Programs.{InParts}
use Rattle.fault_places.specs.SurfaceTrees.{InSurface}

-- there is no `main`, which is told at 1:1, before the first byte
abbrev pub TellsNoMain : Ill → Type 0
TellsNoMain ill = (ill.kind ≡ kind.NoMain) × (ill.span ≡ span_behind [] [])

-- What holds of each span in the parts of a program holds of the span of its fault, unless there is no `main`.
abbrev pub StandsInParts : Type 0
StandsInParts =
    (holds : Span → Bool) (parts : Parts) (ill : Ill) → InParts (λ span. IsTrue (holds span)) parts → IsFault parts ill → IsTrue (holds ill.span) ⊎ TellsNoMain ill

-- the empty span before the first byte of the span
abbrev pub before : List ℕ → Span → Span
before text span = span_behind (take span.start text) []

-- the span is of some bytes of the text, and its line and column are those of the first of them
abbrev pub IsAt : List ℕ → Span → Type 0
IsAt text span = IsWithin text span × (span.line ≡ (before text span).line) × (span.column ≡ (before text span).column)

-- Each span in the tree of a text is of some bytes of the text.
abbrev pub SpansStandInText : Type 0
SpansStandInText = (text : List ℕ) (tokens : List Token) (tree : Surface) → HasTokens text tokens → Derives tree tokens → InSurface (IsAt text) tree

-- The fault of form of a text stands at some bytes of the text, unless there is no `main`.
abbrev pub StandsInText : Type 0
StandsInText =
    (text : List ℕ) (tokens : List Token) (tree : Surface) (ill : Ill) → HasTokens text tokens → Derives tree tokens → IsNumberingFault tree (fault.Ill ill)
    → IsAt text ill.span ⊎ TellsNoMain ill
