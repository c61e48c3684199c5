use Rattle.std.proofs.Common.{◌≡◌, drop}
use Rattle.form_faults.specs.Faults.{least}
use Rattle.form_faults.specs.Terms.{terms_faults}
use Rattle.form_faults.proofs.terms.check_terms.Given as goal

abbrev pub invariant-loop-term : goal.invariant-loop-term
invariant-loop-term l = least l.first (terms_faults l.may l.scope (drop l.term-index l.terms)) ≡ least l.initial.first (terms_faults l.may l.scope l.terms)
