use Rattle.std.proofs.Common.{ℕ, ◌≡◌, ◌+◌, ◌<◌, sym, subst, ap, ◌∙◌, List, arith}
use Rattle.cell_rules.specs.declared.view.View.{View}
use Rattle.cell_rules.specs.Words.{cell, task_at, claim_at, chan_at}
use Rattle.cell_rules.specs.Plays.{Sat}
use Rattle.cell_rules.proofs.Totals.{one_same}
use Rattle.one_shot_word.specs.Meaning.{means}
use Rattle.hand_states.specs.Hands.{Holds}
use Rattle.hand_states.proofs.Marks.{apart}
use Rattle.hand_states.proofs.Closing as closing
use Rattle.hand_deeds.proofs.reopen.Goals as goal

pub reopen-requires-clause-free : goal.reopen-requires-clause-free
reopen-requires-clause-free g c =
    let l = g.L.Load in
    let p = g.P.Parcel in
    let x = means l.meaning p.meaning in
    let m : ℕ = c.args.cell.number.0 in
    let (before, (s, holds)) = c.requires.holds in
    (omega (arith, holds.has.free m, one_same m), holds.has.clear 11 m (omega arith) (omega arith), holds.has.clear 12 m (omega arith) (omega arith), omega (arith, holds.one 4 m (omega arith), apart 4 m 2 (x.number before) (omega arith) (omega arith) (λ e. omega arith)))

pub returns : goal.returns
returns g c =
    let l = g.L.Load in
    let p = g.P.Parcel in
    let x = means l.meaning p.meaning in
    let key = c.args.cells.now.table.shared.key in
    let about : g.row.A.Denot × ℕ = (key.program, key.rounds) in
    let n : ℕ = key.cells in
    let v : View g.row.L.Denot (g.row.A.Denot × ℕ) = c.args.hand.now.seat.me.0 in
    let m : ℕ = c.args.cell.number.0 in
    let title : List ℕ = l.meaning.title c.args.load in
    let t = c.reopen.ensures.view in
    let e = t.4 in
    record {
      at = (c.reopen.ensures.table ∙ c.requires.at.0, ap (λ (z : Sat g.row.L.Denot g.row.P.Denot (g.row.A.Denot × ℕ)). z.1) e, subst (λ (z : ℕ). 0 < z) (sym (ap (λ (z : Sat g.row.L.Denot g.row.P.Denot (g.row.A.Denot × ℕ)). z.0.parts) e)) c.requires.at.2);
      parts = ap (λ (z : Sat g.row.L.Denot g.row.P.Denot (g.row.A.Denot × ℕ)). z.0.parts) e;
      spent = ap (λ (z : Sat g.row.L.Denot g.row.P.Denot (g.row.A.Denot × ℕ)). z.0.spent) e;
      number = c.reopen.ensures.number;
      view = t;
      reopens = λ s before next holds forked. subst (λ (z : View g.row.L.Denot (g.row.A.Denot × ℕ)). Holds x about s next z) (sym (ap (λ (z : Sat g.row.L.Denot g.row.P.Denot (g.row.A.Denot × ℕ)). z.0) e))
          (closing.reopens x about s v before next n m title (claim_at (cell n m)) (chan_at (cell n m)) (task_at (cell n m)) t.0 t.1 t.2 t.3 _ t.2 _ _ holds forked.same forked.mentions forked.forked forked.sent forked.received);
    }
