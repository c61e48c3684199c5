use Rattle.std.proofs.Common.{rules, arith, ◌≡◌, ◌+◌, ◌*◌, ◌<◌, ◌≤◌, ◌∙◌, ap, false, sym, subst, get_or, get_or-set_other, get_or-set_same, length, ℕ, List, [], ◌∷◌, ◌++◌}
use Rattle.std.specs.Mem.Slots.{slots_items, slots_filled, slots_counts}
use Rattle.std.proofs.Math.ListN.{take}
use mathlib.Core.Logic.{dite}
use native.Mathlib.Decide.{ℕ_discrete}
use Rattle.cell_rules.specs.Rule.{Held}
use Rattle.cell_rules.specs.Closing.{loads_in, parcels_in}
use Rattle.cell_rules.proofs.Closing.{at_rest}
use Rattle.one_shot_word.specs.Meaning.{means}
use Rattle.one_shot_word.proofs.Slots.{loads_next, parcels_next}
use Rattle.std.proofs.lemmas.List.{take_all}
use Rattle.one_shot_word.proofs.cells.Cells.give_all.Goals as goal

pub loop-i-preserved : goal.loop-i-preserved
loop-i-preserved g c =
    let inv = c.loop-i.invariant in
    let now = c.take.ensures.others in
    let i = c.loop-i.i in
    let row = c.loop-i.closed.slots in
    let xs : List (Held g.row.L.Denot g.row.P.Denot) = slots_items row in
    let y : Held g.row.L.Denot g.row.P.Denot = c.take.result in
    let within : i < length (slots_filled row) = omega (arith, (slots_counts row).1) in (
      c.keep.ensures.room.0 ∙ inv.0,
      c.keep.ensures.room.1 ∙ inv.1,
      omega (arith, c.keep.ensures.counts.0, inv.2),
      omega (arith, c.keep.ensures.counts.1, inv.3),
      now.2 ∙ inv.4,
      (λ k le lt. ap (λ l. get_or l k false) now.1 ∙ (get_or-set_other _ i k false false (λ e. omega arith) ∙ inv.5 k (omega arith) (omega arith))),
      (λ k lt. dite (ℕ_discrete k i) (λ e. ap (λ l. get_or l k false) now.1 ∙ (ap (λ j. get_or (Rattle.std.proofs.Common.set (slots_filled row) i false) j false) e ∙ get_or-set_same (slots_filled row) i false false within))
          (λ ne. ap (λ l. get_or l k false) now.1 ∙ (get_or-set_other _ i k false false ne ∙ inv.6 k (omega arith)))),
      now.0 ∙ inv.7,
      c.keep.ensures.loads ∙ (ap (λ z. z ++ loads_in (y ∷ [])) inv.8 ∙ (sym (loads_next xs i y c.take.ensures.value) ∙ ap (λ z. loads_in (take (i + 1) z)) (sym now.0))),
      c.keep.ensures.parcels ∙ (ap (λ z. z ++ parcels_in (y ∷ [])) inv.9 ∙ (sym (parcels_next xs i y c.take.ensures.value) ∙ ap (λ z. parcels_in (take (i + 1) z)) (sym now.0))),
    )

pub returns : goal.returns
returns g c =
    let l = g.L.Load in
    let p = g.P.Parcel in
    let x = means l.meaning p.meaning in
    let key = c.args.self.table.shared.key in
    let k : ℕ × ℕ × (g.row.A.Denot × ℕ) = (key.cells, key.hands, (key.program, key.rounds)) in
    let inv = c.loop-i.invariant in
    let xs : List (Held g.row.L.Denot g.row.P.Denot) = slots_items c.close_with-closed.result.slots in
    let end : 2 * c.args.self.cells ≤ c.loop-i.i = search rules in
    let short : length (slots_items c.loop-i.closed.slots) ≤ c.loop-i.i = omega (arith, (slots_counts c.loop-i.closed.slots).0, inv.4) in
    let loads : c.from_vec-loads.result ≡ loads_in xs = c.from_vec-loads.ensures ∙ (inv.8 ∙ (ap loads_in (take_all c.loop-i.i (slots_items c.loop-i.closed.slots) short) ∙ ap loads_in inv.7)) in
    let parcels : c.from_vec-parcels.result ≡ parcels_in xs = c.from_vec-parcels.ensures ∙ (inv.9 ∙ (ap parcels_in (take_all c.loop-i.i (slots_items c.loop-i.closed.slots) short) ∙ ap parcels_in inv.7)) in
    let t = c.close_with-closed.ensures.values.2 in
    rw (loads, parcels) (at_rest x k t.0 t.1.0 c.args.hand.seat.id c.args.hand.seat.me.0 t.1.1 c.requires.hand.1 (subst (λ z. 0 < z) (sym c.requires.hand.1) c.args.self.staffed) c.requires.hand.2 xs t.3 t.4)
