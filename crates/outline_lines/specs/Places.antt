-- Faults of the code as the definitions have them.
use Rattle.std.specs.Prelude.{List}
use Rattle.core_language.specs.Names.{Ident}
use Rattle.chan_base.specs.declared.spans.Span.{Span}
use Rattle.core_programs.specs.Bodies.{span_of}
use Rattle.outline_language.specs.Outlined.{Fault}
use Rattle.outline_obligations.specs.Reasons.{why_of}
use Rattle.outline_obligations.specs.declared.faults.Why.{Why}

-- a reason at a place, where integer variables have these names
abbrev pub fault_at : Span → Why → List Ident → Fault
fault_at span why names = record { span = span_of span; why = why_of why; names = names }
