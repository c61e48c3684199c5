use Rattle.std.proofs.Common.{◌≡◌, false, All, length}
use Rattle.worker_waves.proofs.waves.run_waves.Given as goal

abbrev pub invariant-loop : goal.invariant-loop
invariant-loop g l = (length l.members ≡ length l.initial.members) × All (λ m. m.halted ≡ false → g.B.Bench.idle l.bench m.hand m.kept.items) l.members
