use Rattle.std.proofs.Common.{◌≡◌, drop}
use Rattle.form_faults.specs.Faults.{least}
use Rattle.form_faults.specs.Terms.{parts_faults}
use Rattle.form_faults.proofs.terms.check_parts.Given as goal

abbrev pub invariant-loop-part : goal.invariant-loop-part
invariant-loop-part l = least l.first (parts_faults l.may l.scope l.span (drop l.part-index l.parts)) ≡ least l.initial.first (parts_faults l.may l.scope l.span l.parts)
