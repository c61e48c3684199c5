use Rattle.std.proofs.Common.{◌≡◌, take}
use Rattle.substitution.specs.Scopes.{after_of}
use Rattle.substitution.proofs.scope.made_names.Given as goal

abbrev pub invariant-loop-binder : goal.invariant-loop-binder
invariant-loop-binder l = l.names ≡ after_of (take l.binder-index l.scope)
