use Rattle.std.proofs.Common.{◌≤◌, length, drop}
use Rattle.nameless_shapes.specs.Closed.{AreFormsKept}
use Rattle.nameless_shapes.proofs.making.forms_reach.Given as goal

abbrev pub invariant-loop-left : goal.invariant-loop-left
invariant-loop-left l = (l.left ≤ length l.forms) × AreFormsKept l.reach (drop l.left l.forms)

abbrev pub decreases-loop-left : goal.decreases-loop-left
decreases-loop-left l = l.left
