use Rattle.shape_readings.specs.Names.{names_in}
use Rattle.shape_readings.proofs.Places.{Looks}
use Rattle.shape_readings.proofs.scope.place_around.Given as goal

abbrev pub invariant-loop-index : goal.invariant-loop-index
invariant-loop-index l = Looks (names_in l.names) l.name l.index
