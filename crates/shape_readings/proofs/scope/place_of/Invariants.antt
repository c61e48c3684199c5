use Rattle.shape_readings.proofs.Places.{Looks}
use Rattle.shape_readings.proofs.scope.place_of.Given as goal

abbrev pub invariant-loop-index : goal.invariant-loop-index
invariant-loop-index l = Looks l.names l.name l.index
