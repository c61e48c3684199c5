use Rattle.std.proofs.Common.{◌≡◌, take}
use Rattle.chan_syntax.proofs.operand_copies.copy_supplies.Given as goal

abbrev pub invariant-loop-value : goal.invariant-loop-value
invariant-loop-value l = l.copy ≡ take l.value-index l.value-items
