use Rattle.std.proofs.Common.{◌≡◌, take}
use Rattle.substitution.specs.Scopes.{before_of}
use Rattle.substitution.proofs.scope.kept.Given as goal

abbrev pub invariant-loop-name : goal.invariant-loop-name
invariant-loop-name l = before_of l.scope ≡ take l.name-index l.name-items
