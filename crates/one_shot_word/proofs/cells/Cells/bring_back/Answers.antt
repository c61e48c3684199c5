use Rattle.std.proofs.Common.{ℕ, ◌≡◌, sym, refl, ap, ◌∙◌, ◌∷◌, arith, Some, None}
use Rattle.atomic_table.specs.Table.{rest}
use Rattle.cell_rules.specs.declared.item.Item.TheVariants.{Load}
use Rattle.cell_rules.specs.declared.view.View.{View}
use Rattle.cell_rules.specs.Words.{cell, task_at, load_at, RUNNING}
use Rattle.cell_rules.specs.Marks.{Lifted, Parking}
use Rattle.cell_rules.specs.Lists.{without}
use Rattle.cell_rules.specs.Plays.{Sat, noted, settling, reclaiming}
use Rattle.cell_rules.proofs.Totals.{more_here}
use Rattle.one_shot_word.specs.Meaning.{means}
use Rattle.cell_rules.proofs.Puts.{first_load}
use Rattle.one_shot_word.proofs.cells.Cells.bring_back.Goals as goal

pub pick_load-load-requires-clause-full : goal.pick_load-load-requires-clause-full
pick_load-load-requires-clause-full g c =
    let l = g.L.Load in
    let p = g.P.Parcel in
    let x = means l.meaning p.meaning in
    let n : ℕ = c.args.self.now.table.shared.key.cells in
    let key = c.args.self.now.table.shared.key in
    let k : ℕ × ℕ × (g.row.A.Denot × ℕ) = (key.cells, key.hands, (key.program, key.rounds)) in
    let v : View g.row.L.Denot (g.row.A.Denot × ℕ) = c.args.seat.now.me.0 in
    let o : ℕ = c.args.own in
    let load : g.row.L.Denot = c.requires.parking.1.0 in
    let there = c.requires.parking.1.1 in
    let u4 : View g.row.L.Denot (g.row.A.Denot × ℕ) = noted (task_at (cell n o)) c.reclaim.result (RUNNING o) (reclaiming x o load v) in
    let e4 : c.reclaim.new.seat.me ≡ (u4, (load_at (cell n o), Some (Load load)) ∷ c.args.seat.now.me.1) = c.reclaim.ensures.me load there in
    (load, rw e4 refl)

pub settle-requires-clause-live : goal.settle-requires-clause-live
settle-requires-clause-live g c =
    let l = g.L.Load in
    let p = g.P.Parcel in
    let x = means l.meaning p.meaning in
    let n : ℕ = c.args.self.now.table.shared.key.cells in
    let key = c.args.self.now.table.shared.key in
    let k : ℕ × ℕ × (g.row.A.Denot × ℕ) = (key.cells, key.hands, (key.program, key.rounds)) in
    let v : View g.row.L.Denot (g.row.A.Denot × ℕ) = c.args.seat.now.me.0 in
    let o : ℕ = c.args.own in
    let load : g.row.L.Denot = c.requires.parking.1.0 in
    let there = c.requires.parking.1.1 in
    let u4 : View g.row.L.Denot (g.row.A.Denot × ℕ) = noted (task_at (cell n o)) c.reclaim.result (RUNNING o) (reclaiming x o load v) in
    let e4 : c.reclaim.new.seat.me ≡ (u4, (load_at (cell n o), Some (Load load)) ∷ c.args.seat.now.me.1) = c.reclaim.ensures.me load there in
    let e5 : c.pick_load-load.new.seat.me ≡ (u4, (load_at (cell n o), None) ∷ c.args.seat.now.me.1) = c.pick_load-load.ensures.me ∙ ap (λ (s : Sat g.row.L.Denot g.row.P.Denot (g.row.A.Denot × ℕ)). (s.0, (load_at (cell n o), None) ∷ rest s.1)) e4 in
    rw e5 c.requires.live

pub settle-requires-clause-has : goal.settle-requires-clause-has
settle-requires-clause-has g c =
    let l = g.L.Load in
    let p = g.P.Parcel in
    let x = means l.meaning p.meaning in
    let n : ℕ = c.args.self.now.table.shared.key.cells in
    let key = c.args.self.now.table.shared.key in
    let k : ℕ × ℕ × (g.row.A.Denot × ℕ) = (key.cells, key.hands, (key.program, key.rounds)) in
    let v : View g.row.L.Denot (g.row.A.Denot × ℕ) = c.args.seat.now.me.0 in
    let o : ℕ = c.args.own in
    let load : g.row.L.Denot = c.requires.parking.1.0 in
    let there = c.requires.parking.1.1 in
    let u4 : View g.row.L.Denot (g.row.A.Denot × ℕ) = noted (task_at (cell n o)) c.reclaim.result (RUNNING o) (reclaiming x o load v) in
    let e4 : c.reclaim.new.seat.me ≡ (u4, (load_at (cell n o), Some (Load load)) ∷ c.args.seat.now.me.1) = c.reclaim.ensures.me load there in
    let e5 : c.pick_load-load.new.seat.me ≡ (u4, (load_at (cell n o), None) ∷ c.args.seat.now.me.1) = c.pick_load-load.ensures.me ∙ ap (λ (s : Sat g.row.L.Denot g.row.P.Denot (g.row.A.Denot × ℕ)). (s.0, (load_at (cell n o), None) ∷ rest s.1)) e4 in
    rw e5 (omega (arith, more_here (Lifted o) (without (Parking o) v.marks)))

pub returns-clause-back : goal.returns-clause-back
returns-clause-back g c = λ load there.
    let l = g.L.Load in
    let p = g.P.Parcel in
    let x = means l.meaning p.meaning in
    let n : ℕ = c.args.self.now.table.shared.key.cells in
    let key = c.args.self.now.table.shared.key in
    let k : ℕ × ℕ × (g.row.A.Denot × ℕ) = (key.cells, key.hands, (key.program, key.rounds)) in
    let v : View g.row.L.Denot (g.row.A.Denot × ℕ) = c.args.seat.now.me.0 in
    let o : ℕ = c.args.own in
    let u4 : View g.row.L.Denot (g.row.A.Denot × ℕ) = noted (task_at (cell n o)) c.reclaim.result (RUNNING o) (reclaiming x o load v) in
    let e4 : c.reclaim.new.seat.me ≡ (u4, (load_at (cell n o), Some (Load load)) ∷ c.args.seat.now.me.1) = c.reclaim.ensures.me load there in
    let e5 : c.pick_load-load.new.seat.me ≡ (u4, (load_at (cell n o), None) ∷ c.args.seat.now.me.1) = c.pick_load-load.ensures.me ∙ ap (λ (s : Sat g.row.L.Denot g.row.P.Denot (g.row.A.Denot × ℕ)). (s.0, (load_at (cell n o), None) ∷ rest s.1)) e4 in
    let one-load : c.pick_load-load.result ≡ load = first_load x k _ _ _ _ _ _ (sym c.pick_load-load.ensures.load ∙ ap (λ (s : Sat g.row.L.Denot g.row.P.Denot (g.row.A.Denot × ℕ)). s.1) e4) in
    (one-load, (c.reclaim.result, c.settle.result, c.settle.ensures.me ∙ ap (λ (s : Sat g.row.L.Denot g.row.P.Denot (g.row.A.Denot × ℕ)). (noted (task_at (cell n o)) c.settle.result c.settle.result (settling o s.0), rest s.1)) e5))
