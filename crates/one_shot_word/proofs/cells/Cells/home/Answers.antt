use Rattle.std.proofs.Common.{ℕ, ◌≡◌, sym, subst, refl, ap, ◌∙◌, ◌∷◌, arith, Some}
use Rattle.atomic_table.specs.Table.{rest}
use Rattle.cell_rules.specs.declared.item.Item.TheVariants.{Load}
use Rattle.cell_rules.specs.declared.view.View.{View}
use Rattle.cell_rules.specs.Words.{cell, task_at, load_at}
use Rattle.cell_rules.specs.Marks.{InHand, Lifted}
use Rattle.cell_rules.specs.Lists.{In, without}
use Rattle.cell_rules.specs.Plays.{Sat, noted, lifting}
use Rattle.cell_rules.proofs.Totals.{more_here}
use Rattle.one_shot_word.specs.Meaning.{means}
use Rattle.one_shot_word.proofs.Asked.{knows_same}
use Rattle.one_shot_word.proofs.cells.Cells.home.Goals as goal

pub leave-requires-clause-lifted : goal.leave-requires-clause-lifted
leave-requires-clause-lifted g c =
    let l = g.L.Load in
    let p = g.P.Parcel in
    let x = means l.meaning p.meaning in
    let n : ℕ = c.args.self.now.table.shared.key.cells in
    let v : View g.row.L.Denot (g.row.A.Denot × ℕ) = c.args.hand.now.seat.me.0 in
    let m : ℕ = c.number-number.result.0 in
    let same : m ≡ l.meaning.number c.args.load = c.number-number.ensures in
    let w : View g.row.L.Denot (g.row.A.Denot × ℕ) = noted (task_at (cell n m)) c.lift.result c.lift.result (lifting m v) in
    let e : c.put_load.new.seat.me ≡ (w, (load_at (cell n m), Some (Load c.args.load)) ∷ c.args.hand.now.seat.me.1) = c.put_load.ensures.me ∙ ap (λ (s : Sat g.row.L.Denot g.row.P.Denot (g.row.A.Denot × ℕ)). (s.0, (load_at (cell n m), Some (Load c.args.load)) ∷ rest s.1)) c.lift.ensures.me in
    rw e (omega (arith, more_here (Lifted m) (without (InHand m) v.marks)), (c.args.load, refl, sym same, knows_same x v w refl refl c.args.load refl c.requires.load.0, λ i r. c.requires.load.1 i (subst (λ z. In (z, i) v.receipts) same r)))
