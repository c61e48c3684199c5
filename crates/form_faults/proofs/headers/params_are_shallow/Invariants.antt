use Rattle.std.proofs.Common.{◌≡◌, drop}
use Rattle.form_faults.specs.Resources.{params_are_shallow}
use Rattle.form_faults.proofs.headers.params_are_shallow.Given as goal

abbrev pub invariant-loop-param : goal.invariant-loop-param
invariant-loop-param l = params_are_shallow (drop l.param-index l.params) ≡ params_are_shallow l.params
