use Rattle.std.proofs.Common.{◌≡◌, drop}
use Rattle.form_faults.specs.Faults.{least}
use Rattle.form_faults.specs.Terms.{fixed_terms_faults}
use Rattle.form_faults.proofs.terms.check_fixed_terms.Given as goal

abbrev pub invariant-loop-term : goal.invariant-loop-term
invariant-loop-term l = least l.first (fixed_terms_faults l.scope (drop l.term-index l.terms)) ≡ least l.initial.first (fixed_terms_faults l.scope l.terms)
