use Rattle.std.proofs.Common.{subst}
use Rattle.known_loads.specs.Holding.{Holds}
use Rattle.known_loads.proofs.tasks.KnownTask.known.Goals as goal

pub returns : goal.returns
returns c = subst Holds c.self.view_is c.self.invariant
