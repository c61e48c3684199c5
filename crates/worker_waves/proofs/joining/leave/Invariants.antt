use Rattle.std.proofs.Common.{◌≡◌, ◌<◌, false, All, length, ℕ, vec_len}
use Rattle.worker_waves.specs.Moves.{AreIdle}
use Rattle.worker_waves.proofs.joining.leave.Given as goal

abbrev pub invariant-loop-member : goal.invariant-loop-member
invariant-loop-member g l = AreIdle (g.B.Bench.idle l.bench) l.all.hands.items l.all.kept.items × All (λ m. m.halted ≡ false → g.B.Bench.idle l.bench m.hand m.kept.items) l.members.items

abbrev pub decreases-loop-member : goal.decreases-loop-member
decreases-loop-member g l = vec_len l.members
