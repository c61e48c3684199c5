use Rattle.std.proofs.Common.{◌≡◌, take}
use Rattle.substitution.specs.Places.{puts_for}
use Rattle.substitution.proofs.scope.puts_of.Given as goal

abbrev pub invariant-loop-index : goal.invariant-loop-index
invariant-loop-index l = l.put ≡ puts_for (take l.index l.names) (take l.index l.by)
