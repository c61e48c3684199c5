use Rattle.std.proofs.Common.{◌≡◌, take}
use Rattle.chan_syntax.proofs.copies.copy_limits.Given as goal

abbrev pub invariant-loop-limit : goal.invariant-loop-limit
invariant-loop-limit l = l.copy ≡ take l.limit-index l.limit-items
