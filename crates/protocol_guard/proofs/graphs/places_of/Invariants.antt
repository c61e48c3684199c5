use Rattle.std.proofs.Common.{◌≤◌, ◌-◌, length, take}
use Rattle.protocol_guard.specs.Places.{ArePlaces}
use Rattle.protocol_guard.proofs.graphs.places_of.Given as goal

abbrev pub invariant-protos : goal.invariant-protos
invariant-protos l = (l.index ≤ length l.protos) × ArePlaces (take l.index l.protos) l.places

abbrev pub decreases-protos : goal.decreases-protos
decreases-protos l = length l.protos - l.index
