use Rattle.std.proofs.Common.{length}
use Rattle.protocol_guard.proofs.ranks.lead_back.Given as goal

abbrev pub decreases-heads : goal.decreases-heads
decreases-heads l = length l.heads.items
