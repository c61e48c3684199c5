use Rattle.std.proofs.Common.{◌≡◌, ◌+◌, ◌<◌, [], ◌∷◌, length, All, vec_len, vec_capacity}
use Rattle.cell_rules.specs.Rule.{fresh}
use Rattle.one_shot_word.specs.Hands.{IsFirst}
use Rattle.one_shot_word.proofs.cells.Cells.deal_all.Given as goal

abbrev pub invariant-loop-left : goal.invariant-loop-left
invariant-loop-left g l = (0 < l.left) × (l.hand.seat.table_id ≡ l.self.table.shared.table_id) × (l.hand.seat.me ≡ (fresh l.left ((l.self.table.shared.key.program, l.self.table.shared.key.rounds) ∷ []), []))
    × (vec_len l.places + l.left ≡ l.count) × (length l.places.items + l.left ≡ l.count) × (vec_capacity l.places ≡ l.count) × All (IsFirst l.self) l.places.items

abbrev pub decreases-loop-left : goal.decreases-loop-left
decreases-loop-left g l = l.left
