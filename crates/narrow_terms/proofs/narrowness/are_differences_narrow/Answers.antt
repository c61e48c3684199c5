use Rattle.std.proofs.Common.{arith}
use Rattle.narrow_terms.specs.Sums.{difference_in}
use Rattle.narrow_terms.proofs.Adding.{opened_at}
use Rattle.narrow_terms.proofs.Rows.{narrow_step, narrow_end}
use Rattle.narrow_terms.proofs.narrowness.are_differences_narrow.Goals as goal

pub returns-then-not-is_difference_narrow : goal.returns-then-not-is_difference_narrow
returns-then-not-is_difference_narrow c =
    let step = narrow_step (difference_in c.args.left.now c.args.right.now) c.args.parts.now c.loop-part.part-index c.part-item.result c.is_difference_narrow.result
    (opened_at c.args.parts.now c.loop-part.part-index c.part-item.result c.loop-part-test.true c.part-item.is) c.is_difference_narrow.ensures in
    grind (arith, step)

pub loop-part-preserved : goal.loop-part-preserved
loop-part-preserved c =
    let step = narrow_step (difference_in c.args.left.now c.args.right.now) c.args.parts.now c.loop-part.part-index c.part-item.result c.is_difference_narrow.result
    (opened_at c.args.parts.now c.loop-part.part-index c.part-item.result c.loop-part-test.true c.part-item.is) c.is_difference_narrow.ensures in
    grind (arith, step)

pub returns : goal.returns
returns c =
    let end = narrow_end (difference_in c.args.left.now c.args.right.now) c.args.parts.now c.loop-part.part-index c.loop-part-test.false in
    grind (arith, end)
