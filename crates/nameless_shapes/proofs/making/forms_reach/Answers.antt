use Rattle.std.proofs.Common.{rules, ◌≤◌, sym, subst, arith}
use Rattle.nameless_shapes.specs.Closed.{AreFormsKept}
use Rattle.nameless_shapes.proofs.Lists.{one_earlier}
use Rattle.nameless_shapes.proofs.Closing.{one_form_more}
use Rattle.nameless_shapes.proofs.making.forms_reach.Goals as goal

pub loop-left-preserved : goal.loop-left-preserved
loop-left-preserved c =
    let first = one_earlier c.args.forms.now c.loop-left.left c.index-forms-left.result c.loop-left-test.true c.loop-left.invariant.0 c.index-forms-left.is in
    let one : c.reach.result ≤ c.max-reach.result = search rules in
    let rest : c.loop-left.reach ≤ c.max-reach.result = search rules in (
      omega (arith, c.loop-left.invariant.0),
      subst (AreFormsKept c.max-reach.result) (sym first) (one_form_more c.max-reach.result c.reach.result c.loop-left.reach _ _ one rest c.reach.ensures.closed c.reach.ensures.fits c.loop-left.invariant.1),
    )
