use Rattle.std.proofs.Common.{◌≡◌, ℕ, ◌-◌, ◌<◌, ◌≤◌, false, get_or, vec_len, vec_capacity}
use Rattle.std.specs.Mem.Slots.{slots_items, slots_filled, slots_len}
use Rattle.std.specs.Mem.Slots.Ownership.{Filled}
use Rattle.std.proofs.Math.ListN.{take}
use Rattle.cell_rules.specs.Closing.{loads_in, parcels_in}
use Rattle.one_shot_word.proofs.cells.Cells.give_all.Given as goal

abbrev pub invariant-loop-i : goal.invariant-loop-i
invariant-loop-i g l = (vec_capacity l.loads ≡ l.slots) × (vec_capacity l.parcels ≡ l.slots) × (vec_len l.loads ≤ l.i) × (vec_len l.parcels ≤ l.i) × (slots_len l.closed.slots ≡ l.slots) × Filled (slots_filled l.closed.slots) l.i (slots_len l.closed.slots) × ((k : ℕ) → k < l.i → get_or (slots_filled l.closed.slots) k false ≡ false)
    × (slots_items l.closed.slots ≡ slots_items l.initial.closed.slots) × (l.loads.items ≡ loads_in (take l.i (slots_items l.closed.slots))) × (l.parcels.items ≡ parcels_in (take l.i (slots_items l.closed.slots)))

abbrev pub decreases-loop-i : goal.decreases-loop-i
decreases-loop-i g l = l.slots - l.i
