use Rattle.protocol_guard.specs.Ranks.{effort}
use Rattle.protocol_guard.proofs.ranks.walk_ranks.Given as goal

abbrev pub decreases-visits : goal.decreases-visits
decreases-visits l = effort l.walk
