use Rattle.std.proofs.Common.{◌≡◌, ◌<◌, [], length, All}
use Rattle.one_shot_word.specs.Hands.{IsDone, gathered, together}
use Rattle.one_shot_word.proofs.cells.Cells.join_all.Given as goal

abbrev pub invariant-loop-hands : goal.invariant-loop-hands
invariant-loop-hands g l = (l.hand.seat.table_id ≡ l.self.table.shared.table_id) × (l.hand.seat.me.1 ≡ []) × (0 < l.hand.seat.me.0.parts) × All (IsDone l.self) l.hands × (gathered l.hand.seat.me.0 l.hands ≡ together l.fn.hands)

abbrev pub decreases-loop-hands : goal.decreases-loop-hands
decreases-loop-hands g l = length l.hands
