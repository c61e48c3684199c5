use Rattle.std.proofs.Common.{◌≡◌, false}
use Rattle.worker_waves.proofs.members.Member.work.Given as goal

abbrev pub invariant-loop : goal.invariant-loop
invariant-loop g l = (l.self.halted ≡ false) × g.B.Bench.idle l.bench l.self.hand l.self.kept.items
