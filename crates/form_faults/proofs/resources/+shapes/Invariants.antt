use Rattle.std.proofs.Common.{◌≡◌, drop}
use Rattle.form_faults.specs.Faults.{least}
use Rattle.form_faults.specs.Resources.{resources_faults}
use Rattle.form_faults.proofs.resources.+shapes.Given as goal

abbrev pub invariant-check_resources-loop-resource : goal.invariant-check_resources-loop-resource
invariant-check_resources-loop-resource l =
    (least l.first (resources_faults l.protos l.scope (drop l.resource-index l.resources)) ≡ least l.initial.first (resources_faults l.protos l.initial.scope l.resources))
    × (l.scope ≡ l.initial.scope)
