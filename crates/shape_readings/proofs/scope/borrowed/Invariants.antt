use Rattle.std.proofs.Common.{◌≡◌, ◌++◌, drop}
use Rattle.shape_readings.specs.Names.{names_in}
use Rattle.shape_readings.proofs.scope.borrowed.Given as goal

abbrev pub invariant-loop-name : goal.invariant-loop-name
invariant-loop-name l = names_in l.all.items ++ drop l.name-index l.names ≡ l.names
