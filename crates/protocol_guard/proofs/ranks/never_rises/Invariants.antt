use Rattle.std.proofs.Common.{ℕ, ◌<◌, ◌-◌, length}
use Rattle.protocol_guard.specs.Ranks.{StaysDown}
use Rattle.protocol_guard.proofs.ranks.never_rises.Given as goal

abbrev pub invariant-places : goal.invariant-places
invariant-places l = (i : ℕ) → i < l.place → StaysDown l.graph l.ranks i

abbrev pub decreases-places : goal.decreases-places
decreases-places l = length l.graph - l.place
