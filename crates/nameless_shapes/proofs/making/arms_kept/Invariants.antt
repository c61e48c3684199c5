use Rattle.std.proofs.Common.{◌≤◌, length, drop}
use Rattle.nameless_shapes.specs.Reading.{resources_from}
use Rattle.nameless_shapes.specs.Closed.{AreKept}
use Rattle.nameless_shapes.proofs.making.arms_kept.Given as goal

abbrev pub invariant-loop-left : goal.invariant-loop-left
invariant-loop-left l = (l.left ≤ length l.arms) × AreKept l.has_end l.reach (resources_from (drop l.left l.arms))

abbrev pub decreases-loop-left : goal.decreases-loop-left
decreases-loop-left l = l.left
