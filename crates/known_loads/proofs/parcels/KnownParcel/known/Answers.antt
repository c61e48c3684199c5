use Rattle.std.proofs.Common.{subst}
use Rattle.known_loads.specs.Holding.{HoldsParcel}
use Rattle.known_loads.proofs.parcels.KnownParcel.known.Goals as goal

pub returns : goal.returns
returns c = subst HoldsParcel c.self.view_is c.self.invariant
