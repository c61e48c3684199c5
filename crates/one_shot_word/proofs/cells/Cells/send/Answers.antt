use Rattle.std.proofs.Common.{rules, ℕ, ◌≡◌, refl, ap, ◌∙◌, ◌/◌, ◌%◌, ◌∷◌, arith, Some}
use Rattle.atomic_table.specs.Table.{rest}
use Rattle.cell_rules.specs.declared.item.Item.TheVariants.{Parcel}
use Rattle.cell_rules.specs.declared.view.View.{View}
use Rattle.cell_rules.specs.Words.{cell, task_at, claim_at, chan_at, parcel_at, READY, FREE, BY, FULL, PARKED}
use Rattle.cell_rules.specs.Marks.{Claimed, Waking}
use Rattle.cell_rules.specs.Lists.{without}
use Rattle.cell_rules.specs.Plays.{Sat, noted, waked, claiming, sending_to}
use Rattle.cell_rules.proofs.Totals.{more_here}
use Rattle.one_shot_word.specs.Meaning.{means}
use Rattle.one_shot_word.proofs.Asked.{parcel_same}
use Rattle.one_shot_word.proofs.cells.Cells.send.Goals as goal

pub send_step-found-requires-clause-claimed : goal.send_step-found-requires-clause-claimed
send_step-found-requires-clause-claimed g c =
    let l = g.L.Load in
    let p = g.P.Parcel in
    let x = means l.meaning p.meaning in
    let n : ℕ = c.args.self.now.table.shared.key.cells in
    let v : View g.row.L.Denot (g.row.A.Denot × ℕ) = c.args.hand.now.seat.me.0 in
    let m : ℕ = c.args.number.0 in
    let w : View g.row.L.Denot (g.row.A.Denot × ℕ) = noted (claim_at (cell n m)) c.claim_step-found.result (BY c.args.by.0) (claiming m v) in
    let hit : c.claim_step-found.result ≡ FREE m = search rules in
    let e : c.put_parcel.new.seat.me ≡ (w, (parcel_at (cell n m), Some (Parcel c.args.parcel)) ∷ c.args.hand.now.seat.me.1) = c.put_parcel.ensures.me ∙ ap (λ (s : Sat g.row.L.Denot g.row.P.Denot (g.row.A.Denot × ℕ)). (s.0, (parcel_at (cell n m), Some (Parcel c.args.parcel)) ∷ rest s.1)) (c.claim_step-found.ensures.claimed hit) in
    rw e (omega (arith, more_here (Claimed m) v.marks), (c.args.parcel, refl, c.requires.parcel.0, parcel_same x v w refl refl c.args.parcel c.requires.parcel.1))

pub wake-requires-clause-live : goal.wake-requires-clause-live
wake-requires-clause-live g c =
    let l = g.L.Load in
    let p = g.P.Parcel in
    let x = means l.meaning p.meaning in
    let n : ℕ = c.args.self.now.table.shared.key.cells in
    let v : View g.row.L.Denot (g.row.A.Denot × ℕ) = c.args.hand.now.seat.me.0 in
    let m : ℕ = c.args.number.0 in
    let w : View g.row.L.Denot (g.row.A.Denot × ℕ) = noted (claim_at (cell n m)) c.claim_step-found.result (BY c.args.by.0) (claiming m v) in
    let hit : c.claim_step-found.result ≡ FREE m = search rules in
    let e : c.put_parcel.new.seat.me ≡ (w, (parcel_at (cell n m), Some (Parcel c.args.parcel)) ∷ c.args.hand.now.seat.me.1) = c.put_parcel.ensures.me ∙ ap (λ (s : Sat g.row.L.Denot g.row.P.Denot (g.row.A.Denot × ℕ)). (s.0, (parcel_at (cell n m), Some (Parcel c.args.parcel)) ∷ rest s.1)) (c.claim_step-found.ensures.claimed hit) in
    let r : ℕ = c.send_step-found.result in
    let j : ℕ = r / 4 in
    let three : r % 4 ≡ 3 = search rules in
    let was : r ≡ PARKED j = omega arith in
    let t = c.send_step-found.ensures.parked j was in
    let e2 : c.send_step-found.new.seat.me ≡ (noted (chan_at (cell n m)) r (FULL m) (sending_to m j w), c.args.hand.now.seat.me.1) = t.0 ∙ ap (λ (s : Sat g.row.L.Denot g.row.P.Denot (g.row.A.Denot × ℕ)). (noted (chan_at (cell n m)) r (FULL m) (sending_to m j s.0), rest s.1)) e in
    rw e2 c.requires.hand.2

pub wake-requires-clause-small : goal.wake-requires-clause-small
wake-requires-clause-small g c =
    let l = g.L.Load in
    let p = g.P.Parcel in
    let x = means l.meaning p.meaning in
    let n : ℕ = c.args.self.now.table.shared.key.cells in
    let v : View g.row.L.Denot (g.row.A.Denot × ℕ) = c.args.hand.now.seat.me.0 in
    let m : ℕ = c.args.number.0 in
    let w : View g.row.L.Denot (g.row.A.Denot × ℕ) = noted (claim_at (cell n m)) c.claim_step-found.result (BY c.args.by.0) (claiming m v) in
    let hit : c.claim_step-found.result ≡ FREE m = search rules in
    let e : c.put_parcel.new.seat.me ≡ (w, (parcel_at (cell n m), Some (Parcel c.args.parcel)) ∷ c.args.hand.now.seat.me.1) = c.put_parcel.ensures.me ∙ ap (λ (s : Sat g.row.L.Denot g.row.P.Denot (g.row.A.Denot × ℕ)). (s.0, (parcel_at (cell n m), Some (Parcel c.args.parcel)) ∷ rest s.1)) (c.claim_step-found.ensures.claimed hit) in
    let r : ℕ = c.send_step-found.result in
    let j : ℕ = r / 4 in
    let three : r % 4 ≡ 3 = search rules in
    let was : r ≡ PARKED j = omega arith in
    let t = c.send_step-found.ensures.parked j was in
    let e2 : c.send_step-found.new.seat.me ≡ (noted (chan_at (cell n m)) r (FULL m) (sending_to m j w), c.args.hand.now.seat.me.1) = t.0 ∙ ap (λ (s : Sat g.row.L.Denot g.row.P.Denot (g.row.A.Denot × ℕ)). (noted (chan_at (cell n m)) r (FULL m) (sending_to m j s.0), rest s.1)) e in
    t.1

pub wake-requires-clause-has : goal.wake-requires-clause-has
wake-requires-clause-has g c =
    let l = g.L.Load in
    let p = g.P.Parcel in
    let x = means l.meaning p.meaning in
    let n : ℕ = c.args.self.now.table.shared.key.cells in
    let v : View g.row.L.Denot (g.row.A.Denot × ℕ) = c.args.hand.now.seat.me.0 in
    let m : ℕ = c.args.number.0 in
    let w : View g.row.L.Denot (g.row.A.Denot × ℕ) = noted (claim_at (cell n m)) c.claim_step-found.result (BY c.args.by.0) (claiming m v) in
    let hit : c.claim_step-found.result ≡ FREE m = search rules in
    let e : c.put_parcel.new.seat.me ≡ (w, (parcel_at (cell n m), Some (Parcel c.args.parcel)) ∷ c.args.hand.now.seat.me.1) = c.put_parcel.ensures.me ∙ ap (λ (s : Sat g.row.L.Denot g.row.P.Denot (g.row.A.Denot × ℕ)). (s.0, (parcel_at (cell n m), Some (Parcel c.args.parcel)) ∷ rest s.1)) (c.claim_step-found.ensures.claimed hit) in
    let r : ℕ = c.send_step-found.result in
    let j : ℕ = r / 4 in
    let three : r % 4 ≡ 3 = search rules in
    let was : r ≡ PARKED j = omega arith in
    let t = c.send_step-found.ensures.parked j was in
    let e2 : c.send_step-found.new.seat.me ≡ (noted (chan_at (cell n m)) r (FULL m) (sending_to m j w), c.args.hand.now.seat.me.1) = t.0 ∙ ap (λ (s : Sat g.row.L.Denot g.row.P.Denot (g.row.A.Denot × ℕ)). (noted (chan_at (cell n m)) r (FULL m) (sending_to m j s.0), rest s.1)) e in
    rw e2 (omega (arith, more_here (Waking j) (without (Claimed m) w.marks)))

pub returns-clause-sends : goal.returns-clause-sends
returns-clause-sends g c =
    let l = g.L.Load in
    let p = g.P.Parcel in
    let x = means l.meaning p.meaning in
    let n : ℕ = c.args.self.now.table.shared.key.cells in
    let v : View g.row.L.Denot (g.row.A.Denot × ℕ) = c.args.hand.now.seat.me.0 in
    let m : ℕ = c.args.number.0 in
    let w : View g.row.L.Denot (g.row.A.Denot × ℕ) = noted (claim_at (cell n m)) c.claim_step-found.result (BY c.args.by.0) (claiming m v) in
    let hit : c.claim_step-found.result ≡ FREE m = search rules in
    let e : c.put_parcel.new.seat.me ≡ (w, (parcel_at (cell n m), Some (Parcel c.args.parcel)) ∷ c.args.hand.now.seat.me.1) = c.put_parcel.ensures.me ∙ ap (λ (s : Sat g.row.L.Denot g.row.P.Denot (g.row.A.Denot × ℕ)). (s.0, (parcel_at (cell n m), Some (Parcel c.args.parcel)) ∷ rest s.1)) (c.claim_step-found.ensures.claimed hit) in
    let r : ℕ = c.send_step-found.result in
    let j : ℕ = r / 4 in
    let three : r % 4 ≡ 3 = search rules in
    let was : r ≡ PARKED j = omega arith in
    let t = c.send_step-found.ensures.parked j was in
    let e2 : c.send_step-found.new.seat.me ≡ (noted (chan_at (cell n m)) r (FULL m) (sending_to m j w), c.args.hand.now.seat.me.1) = t.0 ∙ ap (λ (s : Sat g.row.L.Denot g.row.P.Denot (g.row.A.Denot × ℕ)). (noted (chan_at (cell n m)) r (FULL m) (sending_to m j s.0), rest s.1)) e in
    (t.1, (c.wake.result, c.wake.ensures.me ∙ (ap (λ (s : Sat g.row.L.Denot g.row.P.Denot (g.row.A.Denot × ℕ)). (noted (task_at (cell n j)) c.wake.result (READY j) (waked j s.0), s.1)) e2 ∙ (λ q. (noted (task_at (cell n j)) c.wake.result (READY j) (waked j (noted (chan_at (cell n m)) (was q) (FULL m) (sending_to m j (noted (claim_at (cell n m)) (hit q) (BY c.args.by.0) (claiming m v))))), c.requires.hand.1 q)))))
