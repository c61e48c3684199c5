use Rattle.std.proofs.Common.{arith}
use Rattle.narrow_terms.specs.Sums.{count_in}
use Rattle.narrow_terms.proofs.Adding.{opened_at}
use Rattle.narrow_terms.proofs.Rows.{narrow_step, narrow_end}
use Rattle.narrow_terms.proofs.narrowness.are_narrow.Goals as goal

pub returns-then-not-is_count_narrow : goal.returns-then-not-is_count_narrow
returns-then-not-is_count_narrow c =
    let step = narrow_step (count_in c.args.sums.now) c.args.parts.now c.loop-part.part-index c.part-item.result c.is_count_narrow.result
    (opened_at c.args.parts.now c.loop-part.part-index c.part-item.result c.loop-part-test.true c.part-item.is) c.is_count_narrow.ensures in
    grind (arith, step)

pub loop-part-preserved : goal.loop-part-preserved
loop-part-preserved c =
    let step = narrow_step (count_in c.args.sums.now) c.args.parts.now c.loop-part.part-index c.part-item.result c.is_count_narrow.result
    (opened_at c.args.parts.now c.loop-part.part-index c.part-item.result c.loop-part-test.true c.part-item.is) c.is_count_narrow.ensures in
    grind (arith, step)

pub returns : goal.returns
returns c =
    let end = narrow_end (count_in c.args.sums.now) c.args.parts.now c.loop-part.part-index c.loop-part-test.false in
    grind (arith, end)
