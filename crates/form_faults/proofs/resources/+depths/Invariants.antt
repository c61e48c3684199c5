use Rattle.std.proofs.Common.{◌≡◌, drop, nat_le}
use Rattle.form_faults.specs.Resources.{greatest_depth}
use Rattle.form_faults.proofs.resources.+depths.Given as goal

abbrev pub invariant-are_within-loop-resource : goal.invariant-are_within-loop-resource
invariant-are_within-loop-resource l = nat_le (greatest_depth (drop l.resource-index l.resources)) l.most ≡ nat_le (greatest_depth l.resources) l.most
