use Rattle.std.proofs.Common.{ℕ, ◌≡◌, refl, ap, ◌∙◌, ◌∷◌, arith, Some}
use Rattle.atomic_table.specs.Table.{rest}
use Rattle.cell_rules.specs.declared.item.Item.TheVariants.{Load}
use Rattle.cell_rules.specs.declared.view.View.{View}
use Rattle.cell_rules.specs.Words.{cell, task_at, load_at}
use Rattle.cell_rules.specs.Marks.{Drawn, Opening}
use Rattle.cell_rules.specs.Lists.{without}
use Rattle.cell_rules.specs.Plays.{Sat, noted, opened}
use Rattle.cell_rules.proofs.Totals.{more_here}
use Rattle.one_shot_word.specs.Meaning.{means}
use Rattle.one_shot_word.proofs.Asked.{new_same}
use Rattle.one_shot_word.proofs.cells.Cells.begin.Goals as goal

pub begin_step-requires-clause-opened : goal.begin_step-requires-clause-opened
begin_step-requires-clause-opened g c =
    let l = g.L.Load in
    let p = g.P.Parcel in
    let x = means l.meaning p.meaning in
    let n : ℕ = c.args.self.now.table.shared.key.cells in
    let v : View g.row.L.Denot (g.row.A.Denot × ℕ) = c.args.hand.now.seat.me.0 in
    let m : ℕ = c.args.drawn.number.0 in
    let w : View g.row.L.Denot (g.row.A.Denot × ℕ) = noted (task_at (cell n m)) c.open.result c.open.result (opened m v) in
    let e : c.put_load.new.seat.me ≡ (w, (load_at (cell n m), Some (Load c.args.load)) ∷ c.args.hand.now.seat.me.1) = c.put_load.ensures.me ∙ ap (λ (s : Sat g.row.L.Denot g.row.P.Denot (g.row.A.Denot × ℕ)). (s.0, (load_at (cell n m), Some (Load c.args.load)) ∷ rest s.1)) c.open.ensures.me in
    rw e (omega (arith, more_here (Opening m) (without (Drawn m) v.marks)), (c.args.load, refl, c.requires.load.0, new_same x v w refl refl c.args.load c.requires.load.1))
