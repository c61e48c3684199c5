use Rattle.std.proofs.Common.{ℕ, ◌≡◌, ◌+◌, ◌<◌, sym, subst, ap, ◌∙◌, List, [], ◌∷◌, arith}
use Rattle.cell_rules.specs.declared.view.View.{View}
use Rattle.cell_rules.specs.Words.{cell, task_at, READY}
use Rattle.cell_rules.specs.Marks.{Drawn}
use Rattle.cell_rules.specs.Lists.{count}
use Rattle.cell_rules.specs.Plays.{Sat, noted, drawing, opened, beginning}
use Rattle.cell_rules.proofs.Totals.{more_here}
use Rattle.one_shot_word.specs.Meaning.{means}
use Rattle.hand_states.specs.Hands.{Idle, Holds}
use Rattle.hand_states.proofs.Having as having
use Rattle.hand_states.proofs.Closing as closing
use Rattle.hand_deeds.proofs.begin.Goals as goal

pub begin-requires-clause-drawn : goal.begin-requires-clause-drawn
begin-requires-clause-drawn g c =
    let m : ℕ = c.args.drawn.number.0 in
    let (v, is) = c.requires.drawn.1 in
    (c.requires.drawn.0, subst (λ (z : View g.row.L.Denot (g.row.A.Denot × ℕ)). 0 < count (Drawn m) z.marks) (sym is) (omega (arith, more_here (Drawn m) v.marks)))

pub returns : goal.returns
returns g c =
    let l = g.L.Load in
    let p = g.P.Parcel in
    let x = means l.meaning p.meaning in
    let key = c.args.cells.now.table.shared.key in
    let about : g.row.A.Denot × ℕ = (key.program, key.rounds) in
    let n : ℕ = key.cells in
    let m : ℕ = c.args.drawn.number.0 in
    let title : List ℕ = l.meaning.title c.args.load in
    let t = c.begin.ensures.view in
    let e = t.2 in
    let w : ℕ = task_at (cell n m) in
    let whole : (v : View g.row.L.Denot (g.row.A.Denot × ℕ)) → c.args.hand.now.seat.me.0 ≡ noted 0 m (m + 1) (drawing m v)
    → c.begin.new.hand.seat.me.0 ≡ noted w t.1 (READY m) (beginning m title (noted w t.0 t.0 (opened m (noted 0 m (m + 1) (drawing m v))))) =
    λ v is. ap (λ (z : Sat g.row.L.Denot g.row.P.Denot (g.row.A.Denot × ℕ)). z.0) e ∙ ap (λ (z : View g.row.L.Denot (g.row.A.Denot × ℕ)). noted w t.1 (READY m) (beginning m title (noted w t.0 t.0 (opened m z)))) is in
    record {
      at = (c.begin.ensures.table ∙ c.requires.at.0, ap (λ (z : Sat g.row.L.Denot g.row.P.Denot (g.row.A.Denot × ℕ)). z.1) e, subst (λ (z : ℕ). 0 < z) (sym (ap (λ (z : Sat g.row.L.Denot g.row.P.Denot (g.row.A.Denot × ℕ)). z.0.parts) e)) c.requires.at.2);
      parts = ap (λ (z : Sat g.row.L.Denot g.row.P.Denot (g.row.A.Denot × ℕ)). z.0.parts) e;
      spent = ap (λ (z : Sat g.row.L.Denot g.row.P.Denot (g.row.A.Denot × ℕ)). z.0.spent) e;
      number = c.begin.ensures.number;
      view = t;
      begins = λ s v before next is holds forked. subst (λ (z : View g.row.L.Denot (g.row.A.Denot × ℕ)). Holds x about s next z) (sym (whole v is))
          (having.begins x about s v before next m title w m t.0 t.1 (READY m) t.0 (m + 1) holds forked.same forked.mentions forked.forked forked.sent forked.received);
      starts = λ s v is idle. subst (λ (z : View g.row.L.Denot (g.row.A.Denot × ℕ)). Idle x about (record s { made = (m, title) ∷ s.made }) z) (sym (whole v is))
          (closing.starts x about s v m title w m t.0 t.1 (READY m) t.0 (m + 1) idle);
    }
