use Rattle.std.proofs.Common.{◌≡◌, ◌++◌, take}
use Rattle.substitution.proofs.scope.joined.Given as goal

abbrev pub invariant-loop-binder : goal.invariant-loop-binder
invariant-loop-binder l = l.scope ≡ l.fn.inner ++ take l.binder-index l.binder-items
