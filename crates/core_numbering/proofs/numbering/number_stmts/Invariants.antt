use Rattle.std.proofs.Common.{◌≤◌, ◌∷◌, [], length, drop}
use Rattle.core_numbering.specs.Numbering.{StmtsAt}
use Rattle.core_numbering.specs.Rooted.{Adds}
use Rattle.core_numbering.proofs.numbering.number_stmts.Given as goal

abbrev pub invariant-loop-left : goal.invariant-loop-left
invariant-loop-left l =
    (l.left ≤ length l.stmts) × Adds l.initial.nodes l.nodes (l.last ∷ []) l.next × StmtsAt l.nodes (drop l.left l.stmts) l.next l.last

abbrev pub decreases-loop-left : goal.decreases-loop-left
decreases-loop-left l = l.left
