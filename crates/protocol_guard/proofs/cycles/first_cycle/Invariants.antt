use Rattle.std.proofs.Common.{ℕ, ◌<◌, ◌≤◌, ◌-◌, List, length}
use Rattle.chan_syntax.specs.declared.operands.Letter.{Letter}
use Rattle.protocol_guard.specs.Guards.{Returns}
use Rattle.protocol_guard.proofs.cycles.first_cycle.Given as goal

abbrev pub invariant-starts : goal.invariant-starts
invariant-starts l = (l.start ≤ length l.graph) × ((j : ℕ) (other : List Letter) → j < l.start → ¬ (Returns l.graph j other))

abbrev pub decreases-starts : goal.decreases-starts
decreases-starts l = length l.graph - l.start
