use Rattle.std.proofs.Common.{◌≡◌, drop}
use Rattle.form_faults.specs.Faults.{least}
use Rattle.form_faults.specs.Terms.{limits_faults}
use Rattle.form_faults.proofs.terms.check_limits.Given as goal

abbrev pub invariant-loop-limit : goal.invariant-loop-limit
invariant-loop-limit l = least l.first (limits_faults l.scope (drop l.limit-index l.limits)) ≡ least l.initial.first (limits_faults l.scope l.limits)
