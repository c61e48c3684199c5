use Rattle.std.proofs.Common.{◌≡◌, ◌≤◌, ◌++◌, length, reverse}
use Rattle.protocol_guard.specs.Searches.{way_to}
use Rattle.protocol_guard.proofs.searches.turns_back.Given as goal

abbrev pub invariant-back : goal.invariant-back
invariant-back l = (l.at ≤ length l.steps) × (way_to l.steps l.at ++ reverse l.turns.items ≡ way_to l.steps l.fn.place)

abbrev pub decreases-back : goal.decreases-back
decreases-back l = l.at
