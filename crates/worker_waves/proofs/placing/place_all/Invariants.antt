use Rattle.std.proofs.Common.{◌≡◌, false, All, length}
use Rattle.worker_waves.proofs.placing.place_all.Given as goal

abbrev pub invariant-loop-at : goal.invariant-loop-at
invariant-loop-at g l = (length l.members ≡ length l.initial.members) × All (λ m. m.halted ≡ false → g.B.Bench.idle l.bench m.hand m.kept.items) l.members
