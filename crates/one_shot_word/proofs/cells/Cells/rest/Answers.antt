use Rattle.std.proofs.Common.{ℕ, ◌≡◌, sym, subst, refl, ap, ◌∙◌, inl, ◌∷◌, arith, Some}
use Rattle.atomic_table.specs.Table.{rest}
use Rattle.cell_rules.specs.declared.item.Item.TheVariants.{Load}
use Rattle.cell_rules.specs.declared.view.View.{View}
use Rattle.cell_rules.specs.Words.{cell, task_at, load_at, WAITING}
use Rattle.cell_rules.specs.Marks.{InHand, Lifted, Parking}
use Rattle.cell_rules.specs.Lists.{In, without}
use Rattle.cell_rules.specs.Plays.{Sat, noted, lifting, halting}
use Rattle.cell_rules.proofs.Totals.{more_here}
use Rattle.one_shot_word.specs.Meaning.{means}
use Rattle.one_shot_word.proofs.Asked.{knows_same}
use Rattle.one_shot_word.proofs.cells.Cells.rest.Goals as goal

pub halt-requires-clause-lifted : goal.halt-requires-clause-lifted
halt-requires-clause-lifted g c =
    let l = g.L.Load in
    let p = g.P.Parcel in
    let x = means l.meaning p.meaning in
    let n : ℕ = c.args.self.now.table.shared.key.cells in
    let v : View g.row.L.Denot (g.row.A.Denot × ℕ) = c.args.seat.now.me.0 in
    let o : ℕ = c.args.own in
    let load : g.row.L.Denot = c.args.load in
    let u1 : View g.row.L.Denot (g.row.A.Denot × ℕ) = noted (task_at (cell n o)) c.lift.result c.lift.result (lifting o v) in
    let e1 : c.put_load.new.seat.me ≡ (u1, (load_at (cell n o), Some (Load load)) ∷ c.args.seat.now.me.1) = c.put_load.ensures.me ∙ ap (λ (s : Sat g.row.L.Denot g.row.P.Denot (g.row.A.Denot × ℕ)). (s.0, (load_at (cell n o), Some (Load load)) ∷ rest s.1)) c.lift.ensures.me in
    rw e1 (omega (arith, more_here (Lifted o) (without (InHand o) v.marks)), (load, refl, sym c.requires.own, knows_same x v u1 refl refl load refl c.requires.load.0, λ i r. c.requires.load.1 i (subst (λ z. In (z, i) v.receipts) c.requires.own r)))

pub returns-clause-live : goal.returns-clause-live
returns-clause-live g c =
    let l = g.L.Load in
    let p = g.P.Parcel in
    let x = means l.meaning p.meaning in
    let n : ℕ = c.args.self.now.table.shared.key.cells in
    let v : View g.row.L.Denot (g.row.A.Denot × ℕ) = c.args.seat.now.me.0 in
    let o : ℕ = c.args.own in
    let load : g.row.L.Denot = c.args.load in
    let u1 : View g.row.L.Denot (g.row.A.Denot × ℕ) = noted (task_at (cell n o)) c.lift.result c.lift.result (lifting o v) in
    let e1 : c.put_load.new.seat.me ≡ (u1, (load_at (cell n o), Some (Load load)) ∷ c.args.seat.now.me.1) = c.put_load.ensures.me ∙ ap (λ (s : Sat g.row.L.Denot g.row.P.Denot (g.row.A.Denot × ℕ)). (s.0, (load_at (cell n o), Some (Load load)) ∷ rest s.1)) c.lift.ensures.me in
    let u2 : View g.row.L.Denot (g.row.A.Denot × ℕ) = noted (task_at (cell n o)) c.halt.result (WAITING o) (halting o load u1) in
    let e2 : c.halt.new.seat.me ≡ (u2, c.args.seat.now.me.1) = c.halt.ensures.me load (rw e1 refl) ∙ ap (λ (s : Sat g.row.L.Denot g.row.P.Denot (g.row.A.Denot × ℕ)). (noted (task_at (cell n o)) c.halt.result (WAITING o) (halting o load s.0), rest s.1)) e1 in
    rw e2 c.requires.live

pub returns-clause-waits : goal.returns-clause-waits
returns-clause-waits g c =
    let l = g.L.Load in
    let p = g.P.Parcel in
    let x = means l.meaning p.meaning in
    let n : ℕ = c.args.self.now.table.shared.key.cells in
    let v : View g.row.L.Denot (g.row.A.Denot × ℕ) = c.args.seat.now.me.0 in
    let o : ℕ = c.args.own in
    let load : g.row.L.Denot = c.args.load in
    let u1 : View g.row.L.Denot (g.row.A.Denot × ℕ) = noted (task_at (cell n o)) c.lift.result c.lift.result (lifting o v) in
    let e1 : c.put_load.new.seat.me ≡ (u1, (load_at (cell n o), Some (Load load)) ∷ c.args.seat.now.me.1) = c.put_load.ensures.me ∙ ap (λ (s : Sat g.row.L.Denot g.row.P.Denot (g.row.A.Denot × ℕ)). (s.0, (load_at (cell n o), Some (Load load)) ∷ rest s.1)) c.lift.ensures.me in
    let u2 : View g.row.L.Denot (g.row.A.Denot × ℕ) = noted (task_at (cell n o)) c.halt.result (WAITING o) (halting o load u1) in
    let e2 : c.halt.new.seat.me ≡ (u2, c.args.seat.now.me.1) = c.halt.ensures.me load (rw e1 refl) ∙ ap (λ (s : Sat g.row.L.Denot g.row.P.Denot (g.row.A.Denot × ℕ)). (noted (task_at (cell n o)) c.halt.result (WAITING o) (halting o load s.0), rest s.1)) e1 in
    rw e2 (omega (arith, more_here (Parking o) (without (Lifted o) u1.marks)), inl refl)

pub returns-clause-names : goal.returns-clause-names
returns-clause-names g c = λ m names.
    let l = g.L.Load in
    let p = g.P.Parcel in
    let x = means l.meaning p.meaning in
    let n : ℕ = c.args.self.now.table.shared.key.cells in
    let v : View g.row.L.Denot (g.row.A.Denot × ℕ) = c.args.seat.now.me.0 in
    let o : ℕ = c.args.own in
    let load : g.row.L.Denot = c.args.load in
    let u1 : View g.row.L.Denot (g.row.A.Denot × ℕ) = noted (task_at (cell n o)) c.lift.result c.lift.result (lifting o v) in
    let e1 : c.put_load.new.seat.me ≡ (u1, (load_at (cell n o), Some (Load load)) ∷ c.args.seat.now.me.1) = c.put_load.ensures.me ∙ ap (λ (s : Sat g.row.L.Denot g.row.P.Denot (g.row.A.Denot × ℕ)). (s.0, (load_at (cell n o), Some (Load load)) ∷ rest s.1)) c.lift.ensures.me in
    let u2 : View g.row.L.Denot (g.row.A.Denot × ℕ) = noted (task_at (cell n o)) c.halt.result (WAITING o) (halting o load u1) in
    let e2 : c.halt.new.seat.me ≡ (u2, c.args.seat.now.me.1) = c.halt.ensures.me load (rw e1 refl) ∙ ap (λ (s : Sat g.row.L.Denot g.row.P.Denot (g.row.A.Denot × ℕ)). (noted (task_at (cell n o)) c.halt.result (WAITING o) (halting o load s.0), rest s.1)) e1 in
    rw e2 names

pub returns-clause-me : goal.returns-clause-me
returns-clause-me g c =
    let l = g.L.Load in
    let p = g.P.Parcel in
    let x = means l.meaning p.meaning in
    let n : ℕ = c.args.self.now.table.shared.key.cells in
    let v : View g.row.L.Denot (g.row.A.Denot × ℕ) = c.args.seat.now.me.0 in
    let o : ℕ = c.args.own in
    let load : g.row.L.Denot = c.args.load in
    let u1 : View g.row.L.Denot (g.row.A.Denot × ℕ) = noted (task_at (cell n o)) c.lift.result c.lift.result (lifting o v) in
    let e1 : c.put_load.new.seat.me ≡ (u1, (load_at (cell n o), Some (Load load)) ∷ c.args.seat.now.me.1) = c.put_load.ensures.me ∙ ap (λ (s : Sat g.row.L.Denot g.row.P.Denot (g.row.A.Denot × ℕ)). (s.0, (load_at (cell n o), Some (Load load)) ∷ rest s.1)) c.lift.ensures.me in
    let u2 : View g.row.L.Denot (g.row.A.Denot × ℕ) = noted (task_at (cell n o)) c.halt.result (WAITING o) (halting o load u1) in
    let e2 : c.halt.new.seat.me ≡ (u2, c.args.seat.now.me.1) = c.halt.ensures.me load (rw e1 refl) ∙ ap (λ (s : Sat g.row.L.Denot g.row.P.Denot (g.row.A.Denot × ℕ)). (noted (task_at (cell n o)) c.halt.result (WAITING o) (halting o load s.0), rest s.1)) e1 in
    ((c.lift.result, c.halt.result, ap (λ (s : Sat g.row.L.Denot g.row.P.Denot (g.row.A.Denot × ℕ)). s.0) e2), ap (λ (s : Sat g.row.L.Denot g.row.P.Denot (g.row.A.Denot × ℕ)). s.1) e2)
