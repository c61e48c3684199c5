use Rattle.std.proofs.Common.{◌≡◌, ◌++◌, drop}
use Rattle.shape_readings.specs.Names.{names_in}
use Rattle.shape_readings.proofs.scope.joined.Given as goal

abbrev pub invariant-loop-name : goal.invariant-loop-name
invariant-loop-name l = names_in l.all.items ++ names_in (drop l.name-index l.outer) ≡ l.fn.inner ++ names_in l.outer
