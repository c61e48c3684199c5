use Rattle.std.proofs.Common.{◌≡◌, drop, map}
use Rattle.chan_syntax.specs.Reading.{term_of}
use Rattle.outline_language.specs.Contexts.{meanings}
use Rattle.outline_contexts.specs.Trails.{context_in}
use Rattle.outline_contexts.proofs.Meanings.{behind}
use Rattle.outline_contexts.proofs.trail.Context.meanings.Given as goal

abbrev pub invariant-loop-term : goal.invariant-loop-term
invariant-loop-term l = behind l.forms (meanings (context_in l.self) (map term_of (drop l.term-index l.terms))) ≡ meanings (context_in l.self) (map term_of l.terms)
