use Rattle.std.proofs.Common.{◌≡◌, drop}
use Rattle.form_faults.specs.Faults.{least}
use Rattle.form_faults.specs.Operands.{supplies_faults}
use Rattle.form_faults.proofs.operands.check_supplies.Given as goal

abbrev pub invariant-loop-supply : goal.invariant-loop-supply
invariant-loop-supply l = least l.first (supplies_faults l.scope (drop l.supply-index l.supplies)) ≡ least l.initial.first (supplies_faults l.scope l.supplies)
