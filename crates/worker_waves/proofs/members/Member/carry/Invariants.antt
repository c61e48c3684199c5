use Rattle.std.proofs.Common.{◌≡◌, ℕ, List, false}
use Rattle.worker_waves.proofs.members.Member.carry.Given as goal

abbrev pub invariant-loop-next : goal.invariant-loop-next
invariant-loop-next g l = (l.self.halted ≡ false) × g.B.Bench.holds l.bench l.self.hand l.self.kept.items l.load

abbrev pub decreases-loop-next : goal.decreases-loop-next
decreases-loop-next g l = g.B.Bench.left l.load
