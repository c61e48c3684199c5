-- What `unfold` answers, as the definitions have it.
use Rattle.protocols.specs.Unfolding.{Found}
use Rattle.protocols.specs.HeadsOf.{direction_of, resource_of}
use Rattle.protocols.specs.declared.unfolding.Unfolded.{Unfolded}

abbrev pub found_of : Unfolded → Found
found_of unfolded = record { direction = direction_of unfolded.head; res = resource_of unfolded.head; used = unfolded.used }
