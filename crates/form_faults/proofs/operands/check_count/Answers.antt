use Rattle.std.proofs.Common.{◌≤◌, length, arith}
use Rattle.chan_syntax.specs.declared.operands.WrittenMention.{WrittenMention}
use Rattle.form_faults.specs.Operands.{mentions_past}
use Rattle.form_faults.proofs.Firsts.{past_end}
use Rattle.form_faults.proofs.operands.check_count.Goals as goal

pub returns-in-None : goal.returns-in-None
unfolding mentions_past
returns-in-None c =
    let long : length c.args.mentions.now ≤ 256 = grind (arith, c.in-None.ensures.lookup.0) in
    past_end (λ (m : WrittenMention). m.span) c.args.first.now c.args.mentions.now 256 long
