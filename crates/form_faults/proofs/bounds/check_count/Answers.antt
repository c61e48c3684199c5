use Rattle.std.proofs.Common.{◌≤◌, length, arith}
use Rattle.chan_syntax.specs.declared.linear.Limit.{Limit}
use Rattle.form_faults.specs.Terms.{limits_past}
use Rattle.form_faults.proofs.Firsts.{past_end}
use Rattle.form_faults.proofs.bounds.check_count.Goals as goal

pub returns-in-None : goal.returns-in-None
unfolding limits_past
returns-in-None c =
    let long : length c.args.limits.now ≤ c.args.most = grind (arith, c.in-None.ensures.lookup.0) in
    past_end (λ (l : Limit). l.left.span) c.args.first.now c.args.limits.now c.args.most long
