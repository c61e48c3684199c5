use Rattle.std.proofs.Common.{◌≤◌, length}
use Rattle.core_programs.proofs.FirstNamed.{LeadsFrom}
use Rattle.core_programs.proofs.indexes.index_funcs.Given as goal

abbrev pub invariant-loop-left : goal.invariant-loop-left
invariant-loop-left l = (l.left ≤ length l.funcs) × LeadsFrom l.funcs l.left l.index

abbrev pub decreases-loop-left : goal.decreases-loop-left
decreases-loop-left l = l.left
