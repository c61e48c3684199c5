use Rattle.std.proofs.Common.{◌+◌, ◌-◌, ◌*◌, length}
use Rattle.protocol_guard.specs.Searches.{bit, IsSearch, unseen}
use Rattle.protocol_guard.proofs.searches.shortest_return.Given as goal

abbrev pub invariant-search : goal.invariant-search
invariant-search l = IsSearch l.graph l.fn.start l.search (2 * l.at + bit l.turn)

abbrev pub decreases-search : goal.decreases-search
decreases-search l = 2 * (unseen l.search.seen.items + length l.search.places.items) - (2 * l.at + bit l.turn)
