use Rattle.std.proofs.Common.{◌≤◌, length}
use Rattle.choice_protocols.proofs.FirstNamed.{LeadsFrom}
use Rattle.choice_protocols.proofs.indexes.index_sources.Given as goal

abbrev pub invariant-loop-left : goal.invariant-loop-left
invariant-loop-left l = (l.left ≤ length l.sources) × LeadsFrom l.sources l.left l.index

abbrev pub decreases-loop-left : goal.decreases-loop-left
decreases-loop-left l = l.left
