use Rattle.std.proofs.Common.{rules, ◌≤◌, map, sym, subst, arith}
use Rattle.nameless_forms.specs.Limits.{limit_of}
use Rattle.nameless_shapes.specs.Closed.{AreLimitsKept}
use Rattle.nameless_shapes.proofs.Lists.{one_earlier}
use Rattle.nameless_shapes.proofs.Closing.{one_limit_more}
use Rattle.nameless_shapes.proofs.making.limits_reach.Goals as goal

pub loop-left-preserved : goal.loop-left-preserved
loop-left-preserved c =
    let first = one_earlier c.args.limits.now c.loop-left.left c.index-limits-left.result c.loop-left-test.true c.loop-left.invariant.0 c.index-limits-left.is in
    let left : c.reach.result ≤ c.max-reach.result = search rules in
    let right : c.reach-in-loop-left.result ≤ c.max-reach.result = search rules in
    let rest : c.loop-left.reach ≤ c.max-reach.result = search rules in (
      omega (arith, c.loop-left.invariant.0),
      subst (λ ls. AreLimitsKept c.max-reach.result (map limit_of ls)) (sym first) (one_limit_more c.max-reach.result c.reach.result c.reach-in-loop-left.result c.loop-left.reach (limit_of c.index-limits-left.result) _ left right rest c.reach.ensures.closed c.reach.ensures.fits c.reach-in-loop-left.ensures.closed c.reach-in-loop-left.ensures.fits c.loop-left.invariant.1),
    )
