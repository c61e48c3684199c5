use Rattle.std.proofs.Common.{◌≤◌, length, arith}
use Rattle.chan_syntax.specs.declared.resources.Proto.{Proto}
use Rattle.form_faults.proofs.Firsts.{past_end}
use Rattle.core_programs.proofs.tables.count_protos.Goals as goal

pub returns-in-None : goal.returns-in-None
returns-in-None c =
    let long : length c.args.protos.now ≤ 4096 = grind (arith, c.in-None.ensures.lookup.0) in
    past_end (λ (x : Proto). x.span) c.args.first.now c.args.protos.now 4096 long
