use Rattle.std.proofs.Common.{ℕ, ◌≡◌, refl, ap, ◌∙◌, inr, ◌+◌, ◌∷◌, arith, Some, None}
use Rattle.atomic_table.specs.Table.{rest}
use Rattle.cell_rules.specs.declared.item.Item.TheVariants.{Load}
use Rattle.cell_rules.specs.declared.view.View.{View}
use Rattle.cell_rules.specs.Words.{cell, task_at, claim_at, chan_at, load_at, READY, FREE, EMPTY}
use Rattle.cell_rules.specs.Marks.{Reopening, ClaimCleared, ChanCleared}
use Rattle.cell_rules.specs.Plays.{Sat, noted, raising, clearing_claim, clearing_chan, reopening}
use Rattle.cell_rules.proofs.Totals.{more_here}
use Rattle.cell_rules.proofs.Tallies.{gain_other}
use Rattle.one_shot_word.specs.Meaning.{means}
use Rattle.one_shot_word.proofs.Asked.{new_same}
use Rattle.one_shot_word.proofs.cells.Cells.reopen.Goals as goal

pub clear_chan-requires-clause-live : goal.clear_chan-requires-clause-live
clear_chan-requires-clause-live g c =
    let l = g.L.Load in
    let p = g.P.Parcel in
    let x = means l.meaning p.meaning in
    let n : ℕ = c.args.self.now.table.shared.key.cells in
    let v : View g.row.L.Denot (g.row.A.Denot × ℕ) = c.args.hand.now.seat.me.0 in
    let m : ℕ = c.args.cell.number.0 in
    let w1 : View g.row.L.Denot (g.row.A.Denot × ℕ) = noted (claim_at (cell n m)) c.clear_claim.result (FREE (m + n)) (clearing_claim m v) in
    let e1 : c.clear_claim.new.seat.me ≡ (w1, c.args.hand.now.seat.me.1) = c.clear_claim.ensures.me in
    rw e1 c.requires.hand.2

pub clear_chan-requires-clause-has : goal.clear_chan-requires-clause-has
clear_chan-requires-clause-has g c =
    let l = g.L.Load in
    let p = g.P.Parcel in
    let x = means l.meaning p.meaning in
    let n : ℕ = c.args.self.now.table.shared.key.cells in
    let v : View g.row.L.Denot (g.row.A.Denot × ℕ) = c.args.hand.now.seat.me.0 in
    let m : ℕ = c.args.cell.number.0 in
    let w1 : View g.row.L.Denot (g.row.A.Denot × ℕ) = noted (claim_at (cell n m)) c.clear_claim.result (FREE (m + n)) (clearing_claim m v) in
    let e1 : c.clear_claim.new.seat.me ≡ (w1, c.args.hand.now.seat.me.1) = c.clear_claim.ensures.me in
    rw e1 (omega (arith, c.requires.free.0, gain_other 10 m 11 m v.marks (omega arith) (omega arith) (inr (λ z. omega arith))), omega (arith, c.requires.free.2, gain_other 12 m 11 m v.marks (omega arith) (omega arith) (inr (λ z. omega arith))))

pub raise-requires-clause-live : goal.raise-requires-clause-live
raise-requires-clause-live g c =
    let l = g.L.Load in
    let p = g.P.Parcel in
    let x = means l.meaning p.meaning in
    let n : ℕ = c.args.self.now.table.shared.key.cells in
    let v : View g.row.L.Denot (g.row.A.Denot × ℕ) = c.args.hand.now.seat.me.0 in
    let m : ℕ = c.args.cell.number.0 in
    let w1 : View g.row.L.Denot (g.row.A.Denot × ℕ) = noted (claim_at (cell n m)) c.clear_claim.result (FREE (m + n)) (clearing_claim m v) in
    let e1 : c.clear_claim.new.seat.me ≡ (w1, c.args.hand.now.seat.me.1) = c.clear_claim.ensures.me in
    let w2 : View g.row.L.Denot (g.row.A.Denot × ℕ) = noted (chan_at (cell n m)) c.clear_chan.result (EMPTY (m + n)) (clearing_chan m w1) in
    let e2 : c.clear_chan.new.seat.me ≡ (w2, c.args.hand.now.seat.me.1) = c.clear_chan.ensures.me ∙ ap (λ (s : Sat g.row.L.Denot g.row.P.Denot (g.row.A.Denot × ℕ)). (noted (chan_at (cell n m)) c.clear_chan.result (EMPTY (m + n)) (clearing_chan m s.0), s.1)) e1 in
    rw e2 c.requires.hand.2

pub raise-requires-clause-has : goal.raise-requires-clause-has
raise-requires-clause-has g c =
    let l = g.L.Load in
    let p = g.P.Parcel in
    let x = means l.meaning p.meaning in
    let n : ℕ = c.args.self.now.table.shared.key.cells in
    let v : View g.row.L.Denot (g.row.A.Denot × ℕ) = c.args.hand.now.seat.me.0 in
    let m : ℕ = c.args.cell.number.0 in
    let w1 : View g.row.L.Denot (g.row.A.Denot × ℕ) = noted (claim_at (cell n m)) c.clear_claim.result (FREE (m + n)) (clearing_claim m v) in
    let e1 : c.clear_claim.new.seat.me ≡ (w1, c.args.hand.now.seat.me.1) = c.clear_claim.ensures.me in
    let w2 : View g.row.L.Denot (g.row.A.Denot × ℕ) = noted (chan_at (cell n m)) c.clear_chan.result (EMPTY (m + n)) (clearing_chan m w1) in
    let e2 : c.clear_chan.new.seat.me ≡ (w2, c.args.hand.now.seat.me.1) = c.clear_chan.ensures.me ∙ ap (λ (s : Sat g.row.L.Denot g.row.P.Denot (g.row.A.Denot × ℕ)). (noted (chan_at (cell n m)) c.clear_chan.result (EMPTY (m + n)) (clearing_chan m s.0), s.1)) e1 in
    rw e2 (omega (arith, c.requires.free.0, gain_other 10 m 11 m v.marks (omega arith) (omega arith) (inr (λ z. omega arith)), gain_other 10 m 12 m w1.marks (omega arith) (omega arith) (inr (λ z. omega arith))))

pub raise-requires-clause-fresh : goal.raise-requires-clause-fresh
raise-requires-clause-fresh g c =
    let l = g.L.Load in
    let p = g.P.Parcel in
    let x = means l.meaning p.meaning in
    let n : ℕ = c.args.self.now.table.shared.key.cells in
    let v : View g.row.L.Denot (g.row.A.Denot × ℕ) = c.args.hand.now.seat.me.0 in
    let m : ℕ = c.args.cell.number.0 in
    let w1 : View g.row.L.Denot (g.row.A.Denot × ℕ) = noted (claim_at (cell n m)) c.clear_claim.result (FREE (m + n)) (clearing_claim m v) in
    let e1 : c.clear_claim.new.seat.me ≡ (w1, c.args.hand.now.seat.me.1) = c.clear_claim.ensures.me in
    let w2 : View g.row.L.Denot (g.row.A.Denot × ℕ) = noted (chan_at (cell n m)) c.clear_chan.result (EMPTY (m + n)) (clearing_chan m w1) in
    let e2 : c.clear_chan.new.seat.me ≡ (w2, c.args.hand.now.seat.me.1) = c.clear_chan.ensures.me ∙ ap (λ (s : Sat g.row.L.Denot g.row.P.Denot (g.row.A.Denot × ℕ)). (noted (chan_at (cell n m)) c.clear_chan.result (EMPTY (m + n)) (clearing_chan m s.0), s.1)) e1 in
    rw e2 (omega (arith, c.requires.free.3, gain_other 4 m 11 m v.marks (omega arith) (omega arith) (inr (λ z. omega arith)), gain_other 4 m 12 m w1.marks (omega arith) (omega arith) (inr (λ z. omega arith))))

pub put_load-requires-clause-empty : goal.put_load-requires-clause-empty
put_load-requires-clause-empty g c =
    let l = g.L.Load in
    let p = g.P.Parcel in
    let x = means l.meaning p.meaning in
    let n : ℕ = c.args.self.now.table.shared.key.cells in
    let v : View g.row.L.Denot (g.row.A.Denot × ℕ) = c.args.hand.now.seat.me.0 in
    let m : ℕ = c.args.cell.number.0 in
    let w1 : View g.row.L.Denot (g.row.A.Denot × ℕ) = noted (claim_at (cell n m)) c.clear_claim.result (FREE (m + n)) (clearing_claim m v) in
    let e1 : c.clear_claim.new.seat.me ≡ (w1, c.args.hand.now.seat.me.1) = c.clear_claim.ensures.me in
    let w2 : View g.row.L.Denot (g.row.A.Denot × ℕ) = noted (chan_at (cell n m)) c.clear_chan.result (EMPTY (m + n)) (clearing_chan m w1) in
    let e2 : c.clear_chan.new.seat.me ≡ (w2, c.args.hand.now.seat.me.1) = c.clear_chan.ensures.me ∙ ap (λ (s : Sat g.row.L.Denot g.row.P.Denot (g.row.A.Denot × ℕ)). (noted (chan_at (cell n m)) c.clear_chan.result (EMPTY (m + n)) (clearing_chan m s.0), s.1)) e1 in
    let w3 : View g.row.L.Denot (g.row.A.Denot × ℕ) = noted (task_at (cell n m)) c.raise.result c.raise.result (raising m w2) in
    let e3 : c.raise.new.seat.me ≡ (w3, (load_at (cell n m), None) ∷ c.args.hand.now.seat.me.1) = c.raise.ensures.me ∙ ap (λ (s : Sat g.row.L.Denot g.row.P.Denot (g.row.A.Denot × ℕ)). (noted (task_at (cell n m)) c.raise.result c.raise.result (raising m s.0), (load_at (cell n m), None) ∷ s.1)) e2 in
    rw e3 refl

pub reopen_step-requires-clause-live : goal.reopen_step-requires-clause-live
reopen_step-requires-clause-live g c =
    let l = g.L.Load in
    let p = g.P.Parcel in
    let x = means l.meaning p.meaning in
    let n : ℕ = c.args.self.now.table.shared.key.cells in
    let v : View g.row.L.Denot (g.row.A.Denot × ℕ) = c.args.hand.now.seat.me.0 in
    let m : ℕ = c.args.cell.number.0 in
    let w1 : View g.row.L.Denot (g.row.A.Denot × ℕ) = noted (claim_at (cell n m)) c.clear_claim.result (FREE (m + n)) (clearing_claim m v) in
    let e1 : c.clear_claim.new.seat.me ≡ (w1, c.args.hand.now.seat.me.1) = c.clear_claim.ensures.me in
    let w2 : View g.row.L.Denot (g.row.A.Denot × ℕ) = noted (chan_at (cell n m)) c.clear_chan.result (EMPTY (m + n)) (clearing_chan m w1) in
    let e2 : c.clear_chan.new.seat.me ≡ (w2, c.args.hand.now.seat.me.1) = c.clear_chan.ensures.me ∙ ap (λ (s : Sat g.row.L.Denot g.row.P.Denot (g.row.A.Denot × ℕ)). (noted (chan_at (cell n m)) c.clear_chan.result (EMPTY (m + n)) (clearing_chan m s.0), s.1)) e1 in
    let w3 : View g.row.L.Denot (g.row.A.Denot × ℕ) = noted (task_at (cell n m)) c.raise.result c.raise.result (raising m w2) in
    let e3 : c.raise.new.seat.me ≡ (w3, (load_at (cell n m), None) ∷ c.args.hand.now.seat.me.1) = c.raise.ensures.me ∙ ap (λ (s : Sat g.row.L.Denot g.row.P.Denot (g.row.A.Denot × ℕ)). (noted (task_at (cell n m)) c.raise.result c.raise.result (raising m s.0), (load_at (cell n m), None) ∷ s.1)) e2 in
    let e4 : c.put_load.new.seat.me ≡ (w3, (load_at (cell n m), Some (Load c.args.load)) ∷ c.args.hand.now.seat.me.1) = c.put_load.ensures.me ∙ ap (λ (s : Sat g.row.L.Denot g.row.P.Denot (g.row.A.Denot × ℕ)). (s.0, (load_at (cell n m), Some (Load c.args.load)) ∷ rest s.1)) e3 in
    rw e4 c.requires.hand.2

pub reopen_step-requires-clause-free : goal.reopen_step-requires-clause-free
reopen_step-requires-clause-free g c =
    let l = g.L.Load in
    let p = g.P.Parcel in
    let x = means l.meaning p.meaning in
    let n : ℕ = c.args.self.now.table.shared.key.cells in
    let v : View g.row.L.Denot (g.row.A.Denot × ℕ) = c.args.hand.now.seat.me.0 in
    let m : ℕ = c.args.cell.number.0 in
    let w1 : View g.row.L.Denot (g.row.A.Denot × ℕ) = noted (claim_at (cell n m)) c.clear_claim.result (FREE (m + n)) (clearing_claim m v) in
    let e1 : c.clear_claim.new.seat.me ≡ (w1, c.args.hand.now.seat.me.1) = c.clear_claim.ensures.me in
    let w2 : View g.row.L.Denot (g.row.A.Denot × ℕ) = noted (chan_at (cell n m)) c.clear_chan.result (EMPTY (m + n)) (clearing_chan m w1) in
    let e2 : c.clear_chan.new.seat.me ≡ (w2, c.args.hand.now.seat.me.1) = c.clear_chan.ensures.me ∙ ap (λ (s : Sat g.row.L.Denot g.row.P.Denot (g.row.A.Denot × ℕ)). (noted (chan_at (cell n m)) c.clear_chan.result (EMPTY (m + n)) (clearing_chan m s.0), s.1)) e1 in
    let w3 : View g.row.L.Denot (g.row.A.Denot × ℕ) = noted (task_at (cell n m)) c.raise.result c.raise.result (raising m w2) in
    let e3 : c.raise.new.seat.me ≡ (w3, (load_at (cell n m), None) ∷ c.args.hand.now.seat.me.1) = c.raise.ensures.me ∙ ap (λ (s : Sat g.row.L.Denot g.row.P.Denot (g.row.A.Denot × ℕ)). (noted (task_at (cell n m)) c.raise.result c.raise.result (raising m s.0), (load_at (cell n m), None) ∷ s.1)) e2 in
    let e4 : c.put_load.new.seat.me ≡ (w3, (load_at (cell n m), Some (Load c.args.load)) ∷ c.args.hand.now.seat.me.1) = c.put_load.ensures.me ∙ ap (λ (s : Sat g.row.L.Denot g.row.P.Denot (g.row.A.Denot × ℕ)). (s.0, (load_at (cell n m), Some (Load c.args.load)) ∷ rest s.1)) e3 in
    rw e4 (omega (arith, c.requires.free.0, gain_other 10 m 11 m v.marks (omega arith) (omega arith) (inr (λ z. omega arith)), gain_other 10 m 12 m w1.marks (omega arith) (omega arith) (inr (λ z. omega arith)), gain_other 10 m 4 m w2.marks (omega arith) (omega arith) (inr (λ z. omega arith))), omega (arith, more_here (ClaimCleared m) v.marks, gain_other 11 m 12 m w1.marks (omega arith) (omega arith) (inr (λ z. omega arith)), gain_other 11 m 4 m w2.marks (omega arith) (omega arith) (inr (λ z. omega arith))), omega (arith, more_here (ChanCleared m) w1.marks, gain_other 12 m 4 m w2.marks (omega arith) (omega arith) (inr (λ z. omega arith))), omega (arith, more_here (Reopening m) w2.marks))

pub reopen_step-requires-clause-raised : goal.reopen_step-requires-clause-raised
reopen_step-requires-clause-raised g c =
    let l = g.L.Load in
    let p = g.P.Parcel in
    let x = means l.meaning p.meaning in
    let n : ℕ = c.args.self.now.table.shared.key.cells in
    let v : View g.row.L.Denot (g.row.A.Denot × ℕ) = c.args.hand.now.seat.me.0 in
    let m : ℕ = c.args.cell.number.0 in
    let w1 : View g.row.L.Denot (g.row.A.Denot × ℕ) = noted (claim_at (cell n m)) c.clear_claim.result (FREE (m + n)) (clearing_claim m v) in
    let e1 : c.clear_claim.new.seat.me ≡ (w1, c.args.hand.now.seat.me.1) = c.clear_claim.ensures.me in
    let w2 : View g.row.L.Denot (g.row.A.Denot × ℕ) = noted (chan_at (cell n m)) c.clear_chan.result (EMPTY (m + n)) (clearing_chan m w1) in
    let e2 : c.clear_chan.new.seat.me ≡ (w2, c.args.hand.now.seat.me.1) = c.clear_chan.ensures.me ∙ ap (λ (s : Sat g.row.L.Denot g.row.P.Denot (g.row.A.Denot × ℕ)). (noted (chan_at (cell n m)) c.clear_chan.result (EMPTY (m + n)) (clearing_chan m s.0), s.1)) e1 in
    let w3 : View g.row.L.Denot (g.row.A.Denot × ℕ) = noted (task_at (cell n m)) c.raise.result c.raise.result (raising m w2) in
    let e3 : c.raise.new.seat.me ≡ (w3, (load_at (cell n m), None) ∷ c.args.hand.now.seat.me.1) = c.raise.ensures.me ∙ ap (λ (s : Sat g.row.L.Denot g.row.P.Denot (g.row.A.Denot × ℕ)). (noted (task_at (cell n m)) c.raise.result c.raise.result (raising m s.0), (load_at (cell n m), None) ∷ s.1)) e2 in
    let e4 : c.put_load.new.seat.me ≡ (w3, (load_at (cell n m), Some (Load c.args.load)) ∷ c.args.hand.now.seat.me.1) = c.put_load.ensures.me ∙ ap (λ (s : Sat g.row.L.Denot g.row.P.Denot (g.row.A.Denot × ℕ)). (s.0, (load_at (cell n m), Some (Load c.args.load)) ∷ rest s.1)) e3 in
    rw e4 (c.args.load, refl, c.requires.load.0 ∙ c.requires.cell.0, new_same x v w3 refl refl c.args.load c.requires.load.1)

pub returns-clause-view : goal.returns-clause-view
returns-clause-view g c =
    let l = g.L.Load in
    let p = g.P.Parcel in
    let x = means l.meaning p.meaning in
    let n : ℕ = c.args.self.now.table.shared.key.cells in
    let v : View g.row.L.Denot (g.row.A.Denot × ℕ) = c.args.hand.now.seat.me.0 in
    let m : ℕ = c.args.cell.number.0 in
    let w1 : View g.row.L.Denot (g.row.A.Denot × ℕ) = noted (claim_at (cell n m)) c.clear_claim.result (FREE (m + n)) (clearing_claim m v) in
    let e1 : c.clear_claim.new.seat.me ≡ (w1, c.args.hand.now.seat.me.1) = c.clear_claim.ensures.me in
    let w2 : View g.row.L.Denot (g.row.A.Denot × ℕ) = noted (chan_at (cell n m)) c.clear_chan.result (EMPTY (m + n)) (clearing_chan m w1) in
    let e2 : c.clear_chan.new.seat.me ≡ (w2, c.args.hand.now.seat.me.1) = c.clear_chan.ensures.me ∙ ap (λ (s : Sat g.row.L.Denot g.row.P.Denot (g.row.A.Denot × ℕ)). (noted (chan_at (cell n m)) c.clear_chan.result (EMPTY (m + n)) (clearing_chan m s.0), s.1)) e1 in
    let w3 : View g.row.L.Denot (g.row.A.Denot × ℕ) = noted (task_at (cell n m)) c.raise.result c.raise.result (raising m w2) in
    let e3 : c.raise.new.seat.me ≡ (w3, (load_at (cell n m), None) ∷ c.args.hand.now.seat.me.1) = c.raise.ensures.me ∙ ap (λ (s : Sat g.row.L.Denot g.row.P.Denot (g.row.A.Denot × ℕ)). (noted (task_at (cell n m)) c.raise.result c.raise.result (raising m s.0), (load_at (cell n m), None) ∷ s.1)) e2 in
    let e4 : c.put_load.new.seat.me ≡ (w3, (load_at (cell n m), Some (Load c.args.load)) ∷ c.args.hand.now.seat.me.1) = c.put_load.ensures.me ∙ ap (λ (s : Sat g.row.L.Denot g.row.P.Denot (g.row.A.Denot × ℕ)). (s.0, (load_at (cell n m), Some (Load c.args.load)) ∷ rest s.1)) e3 in
    (c.clear_claim.result, c.clear_chan.result, c.raise.result, c.reopen_step.result, c.reopen_step.ensures.me c.args.load (rw e4 refl) ∙ (ap (λ (s : Sat g.row.L.Denot g.row.P.Denot (g.row.A.Denot × ℕ)). (noted (task_at (cell n m)) c.reopen_step.result (READY (m + n)) (reopening n m (l.meaning.title c.args.load) s.0), rest s.1)) e4 ∙ (λ q. (noted (task_at (cell n m)) c.reopen_step.result (READY (m + n)) (reopening n m (l.meaning.title c.args.load) w3), c.requires.hand.1 q))))
