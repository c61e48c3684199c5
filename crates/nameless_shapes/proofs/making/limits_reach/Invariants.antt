use Rattle.std.proofs.Common.{◌≤◌, length, map, drop}
use Rattle.nameless_forms.specs.Limits.{limit_of}
use Rattle.nameless_shapes.specs.Closed.{AreLimitsKept}
use Rattle.nameless_shapes.proofs.making.limits_reach.Given as goal

abbrev pub invariant-loop-left : goal.invariant-loop-left
invariant-loop-left l = (l.left ≤ length l.limits) × AreLimitsKept l.reach (map limit_of (drop l.left l.limits))

abbrev pub decreases-loop-left : goal.decreases-loop-left
decreases-loop-left l = l.left
