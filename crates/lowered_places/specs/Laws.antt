-- Where the faults of the first pass stand, and the spans of the core tree.
use Rattle.std.specs.Prelude.{◌≡◌, Bool, Ok, Err, IsTrue}
use Rattle.chan_base.specs.declared.spans.Span.{Span}
use Rattle.chan_syntax.specs.declared.surface_tree.Surface.{Surface}
use Rattle.form_faults.specs.declared.faults.Ill.{Ill}
use Rattle.session_lowering.specs.Lowered.{desugared}
use Rattle.fault_places.specs.SurfaceTrees.{InSurface}
use Rattle.lowered_places.specs.Agains.{AgainsIn}

-- What holds of each span of a tree, and of the word of each `again`, holds of each span of its core tree.
abbrev pub KeepsSpans : Type 0
KeepsSpans =
    (holds : Span → Bool) (tree core : Surface) → InSurface (λ span. IsTrue (holds span)) tree → AgainsIn (λ span. IsTrue (holds span)) tree → desugared tree ≡ Ok core
    → InSurface (λ span. IsTrue (holds span)) core

-- It holds of the span of a fault of the first pass.
abbrev pub StandsInTree : Type 0
StandsInTree =
    (holds : Span → Bool) (tree : Surface) (ill : Ill) → InSurface (λ span. IsTrue (holds span)) tree → AgainsIn (λ span. IsTrue (holds span)) tree → desugared tree ≡ Err ill
    → IsTrue (holds ill.span)
