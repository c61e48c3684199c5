use Rattle.std.proofs.Common.{◌≡◌, take}
use Rattle.outline_walk.proofs.refusals.copy_of.Given as goal

abbrev pub invariant-loop-name : goal.invariant-loop-name
invariant-loop-name l = l.copy ≡ take l.name-index l.names
