-- Instances as the definitions have them.
use Rattle.chan_syntax.specs.declared.operands.Proof.{Proof}
use Rattle.outline_language.specs.Contexts as definition
use Rattle.outline_obligations.specs.Cursors.{cursor_at}
use Rattle.outline_instances.specs.declared.supplying.Supplied.{Supplied}

-- instances for binders, and what is left of the proof
abbrev pub supplied_of : Proof → Supplied → definition.Supplied
supplied_of proof supplied = record { forms = supplied.forms; cursor = cursor_at proof supplied.taken }
