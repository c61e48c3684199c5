use Rattle.std.proofs.Common.{length}
use Rattle.protocol_guard.proofs.ranks.close.Given as goal

abbrev pub decreases-open : goal.decreases-open
decreases-open l = length l.open.items
