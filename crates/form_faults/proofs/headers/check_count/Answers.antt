use Rattle.std.proofs.Common.{◌≤◌, length, arith}
use Rattle.chan_syntax.specs.declared.resources.Param.{Param}
use Rattle.form_faults.specs.Resources.{params_past}
use Rattle.form_faults.proofs.Firsts.{past_end}
use Rattle.form_faults.proofs.headers.check_count.Goals as goal

pub returns-in-None : goal.returns-in-None
unfolding params_past
returns-in-None c =
    let long : length c.args.params.now ≤ 16 = grind (arith, c.in-None.ensures.lookup.0) in
    past_end (λ (p : Param). p.name_span) c.args.first.now c.args.params.now 16 long
