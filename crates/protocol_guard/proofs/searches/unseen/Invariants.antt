use Rattle.std.proofs.Common.{◌≡◌, false, replicate}
use Rattle.protocol_guard.proofs.searches.unseen.Given as goal

abbrev pub invariant-loop-place : goal.invariant-loop-place
invariant-loop-place l = l.seen.items ≡ replicate l._place false
