use Rattle.std.proofs.Common.{map, arith, sym, ◌∙◌, ap, subst}
use Rattle.chan_syntax.proofs.Rows.{shape_pair as pair_of, shape_sum as sum_of}
use Rattle.chan_syntax.specs.Reading.{limit_of, res_of, shape_of}
use Rattle.linear_forms.specs.Replacing.{IsShortShape, IsShortRes}
use Rattle.linear_forms.proofs.Shorts.{all_more, all_map, longer_names, longer_limits, longer_res}
use Rattle.std.proofs.lemmas.List.{take_all}
use Rattle.substitution.proofs.Listed.{short_from}
use Rattle.substitution.proofs.lengths.+lengths.Goals as goal

pub with_res-returns-clause-short : goal.with_res-returns-clause-short
with_res-returns-clause-short n c =
    (longer_names c.with_names-names.result c.with_shape.result c.args.res.now.bound.names (omega (arith, c.with_limits-limits.ensures.more, c.with_shape.ensures.more)) (rw c.as_slice.ensures at c.with_names-names.ensures.short), longer_limits c.with_limits-limits.result c.with_shape.result (map limit_of c.args.res.now.bound.limits) c.with_shape.ensures.more (rw c.as_slice-2.ensures at c.with_limits-limits.ensures.short), c.with_shape.ensures.short)

pub with_shape-returns-in-Pair-clause-short : goal.with_shape-returns-in-Pair-clause-short
with_shape-returns-in-Pair-clause-short n c =
    subst (IsShortShape c.with_res-in-Pair.result) (sym (ap shape_of c.in-Pair.is ∙ pair_of c.in-Pair.first c.in-Pair.second)) (longer_res c.with_res.result c.with_res-in-Pair.result (res_of c.in-Pair.first) c.with_res-in-Pair.ensures.more (rw c.get.ensures at c.with_res.ensures.short), rw c.get-in-Pair.ensures at c.with_res-in-Pair.ensures.short)

pub with_shape-returns-in-Sum-clause-short : goal.with_shape-returns-in-Sum-clause-short
with_shape-returns-in-Sum-clause-short n c =
    subst (IsShortShape c.with_resources.result) (sym (ap shape_of c.in-Sum.is ∙ sum_of c.in-Sum.arms)) (short_from c.with_resources.result (map res_of c.in-Sum.arms) (rw c.as_slice-in-Sum.ensures at c.with_resources.ensures.short))

pub with_resources-loop-resource-preserved : goal.with_resources-loop-resource-preserved
with_resources-loop-resource-preserved n c =
    (omega (arith, c.loop-resource.invariant.0, c.with_res-longest.ensures.more), all_more (λ r. IsShortRes c.loop-resource.longest (res_of r)) (λ r. IsShortRes c.with_res-longest.result (res_of r)) c.args.resources.now c.loop-resource.resource-index c.resource-item.result c.loop-resource-test.true (λ r h. longer_res c.loop-resource.longest c.with_res-longest.result (res_of r) c.with_res-longest.ensures.more h) c.loop-resource.invariant.1 (rw (sym c.resource-item.is) c.with_res-longest.ensures.short))

pub with_resources-returns-clause-short : goal.with_resources-returns-clause-short
with_resources-returns-clause-short n c = all_map (IsShortRes c.loop-resource.longest) res_of c.args.resources.now (rw (take_all c.loop-resource.resource-index c.args.resources.now c.loop-resource-test.false) at c.loop-resource.invariant.1)
