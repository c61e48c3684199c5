use Rattle.std.proofs.Common.{sym, ap, ◌∙◌, arith}
use Rattle.nameless_shapes.specs.Reading.{shape_at}
use Rattle.nameless_shapes.proofs.Arms.{arm_within, sums_same}
use Rattle.nameless_shapes.proofs.comparing.+comparing.Goals as goal

pub same_resources-same_res-requires : goal.same_resources-same_res-requires
same_resources-same_res-requires t c =
    let within = arm_within c.args.left.now c.loop-index.index c.index-left-index.result c.loop-index-test.true c.index-left-index.is in
    (omega (arith, within, c.decreases), tt)

pub same_shape-returns-in-Sum-Sum : goal.same_shape-returns-in-Sum-Sum
same_shape-returns-in-Sum-Sum t c =
    rw (c.as_slice.ensures, c.as_slice-in-Sum-Sum.ensures) at c.same_resources.ensures
    ∙ sums_same c.args.left.now c.args.right.now c.in-Sum-Sum.arms c.in-Sum-Sum.others (sym c.get.ensures ∙ ap shape_at c.in-Sum-Sum.is-0) (sym c.get-2.ensures ∙ ap shape_at c.in-Sum-Sum.is-1)
