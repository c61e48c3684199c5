use Rattle.std.proofs.Common.{◌≡◌, drop}
use Rattle.form_faults.specs.Faults.{least}
use Rattle.form_faults.specs.Operands.{mentions_faults}
use Rattle.form_faults.proofs.operands.check_mentions.Given as goal

abbrev pub invariant-loop-mention : goal.invariant-loop-mention
invariant-loop-mention l = least l.first (mentions_faults (drop l.mention-index l.mentions)) ≡ least l.initial.first (mentions_faults l.mentions)
