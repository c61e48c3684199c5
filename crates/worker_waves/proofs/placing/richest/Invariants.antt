use Rattle.std.proofs.Common.{◌<◌, length}
use Rattle.worker_waves.proofs.placing.richest.Given as goal

abbrev pub invariant-loop-k : goal.invariant-loop-k
invariant-loop-k g l = l.best < length l.members
