use Rattle.std.proofs.Common.{sym, ap, ◌∙◌, arith}
use Rattle.std.proofs.lemmas.Result.{err_from_is_err_and}
use Rattle.outline_language.specs.Nameless as nameless
use Rattle.outline_language.specs.Nameless.{shape_with, shape_fits, res_with, res_fits, resources_fit}
use Rattle.nameless_shapes.specs.Reading.{shape_at, resources_from}
use Rattle.nameless_shapes.proofs.Arms.{arm_within}
use Rattle.shape_instances.proofs.Sums.{sum_with, sum_fits, sum_fails}
use Rattle.shape_instances.proofs.putting.+putting.Goals as goal

pub put_node-returns-in_err-arms-in-Sum-clause-err : goal.put_node-returns-in_err-arms-in-Sum-clause-err
put_node-returns-in_err-arms-in-Sum-clause-err t c =
    let p = err_from_is_err_and c.from_residual-in_err-arms-in-Sum.result c.from_residual-in_err-arms-in-Sum.ensures.1 in
    rw (p.1, p.2) (λ e. sum_fails c.args.instances.now c.args.depth c.args.shape.now c.in-Sum.arms (sym c.get.ensures ∙ ap shape_at c.in-Sum.is) (rw c.as_slice.ensures at c.in_err-arms-in-Sum.ensures.err e))

pub put_node-returns-in_ok-sum-in-Sum-clause-ok : goal.put_node-returns-in_ok-sum-in-Sum-clause-ok
put_node-returns-in_ok-sum-in-Sum-clause-ok t c =
    sum_with c.args.instances.now c.args.depth c.args.shape.now c.in-Sum.arms (sym c.get.ensures ∙ ap shape_at c.in-Sum.is) c.in_ok-arms-in-Sum.arms c.in_ok-sum-in-Sum.field-0 c.in_ok-sum-in-Sum.ensures (rw c.as_slice.ensures at c.in_ok-arms-in-Sum.ensures.ok)

pub put_node-returns-in_ok-sum-in-Sum-clause-fits : goal.put_node-returns-in_ok-sum-in-Sum-clause-fits
put_node-returns-in_ok-sum-in-Sum-clause-fits t c =
    sum_fits c.args.instances.now c.args.depth c.args.shape.now c.in-Sum.arms (sym c.get.ensures ∙ ap shape_at c.in-Sum.is) (rw c.as_slice.ensures at c.in_ok-arms-in-Sum.ensures.fits)

pub put_resources-put_res-requires : goal.put_resources-put_res-requires
put_resources-put_res-requires t c =
    let within = arm_within c.args.resources.now c.loop-resource.resource-index c.resource-item.result c.loop-resource-test.true c.resource-item.is in
    (omega (arith, within, c.decreases), tt)
