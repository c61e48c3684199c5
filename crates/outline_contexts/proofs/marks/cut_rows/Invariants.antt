use Rattle.std.proofs.Common.{◌≡◌, length, take}
use Rattle.outline_contexts.proofs.marks.cut_rows.Given as goal

abbrev pub invariant-loop-rows : goal.invariant-loop-rows
invariant-loop-rows l = take l.many l.rows ≡ take l.many l.fn.rows

abbrev pub decreases-loop-rows : goal.decreases-loop-rows
decreases-loop-rows l = length l.rows
