use Rattle.std.proofs.Common.{◌≤◌, length, arith}
use Rattle.core_programs.specs.declared.nodes.Func.{Func}
use Rattle.form_faults.proofs.Firsts.{past_end}
use Rattle.core_programs.proofs.tables.count_funcs.Goals as goal

pub returns-in-None : goal.returns-in-None
returns-in-None c =
    let long : length c.args.funcs.now ≤ 4096 = grind (arith, c.in-None.ensures.lookup.0) in
    past_end (λ (x : Func). x.span) c.args.first.now c.args.funcs.now 4096 long
