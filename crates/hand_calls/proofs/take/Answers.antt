use Rattle.std.proofs.Common.{ℕ, ◌≡◌, sym, subst, ap, ◌∙◌, [], ◌∷◌}
use Rattle.cell_rules.specs.declared.view.View.{View}
use Rattle.cell_rules.specs.Words.{cell, task_at, READY, RUNNING}
use Rattle.cell_rules.specs.Lists.{In}
use Rattle.cell_rules.specs.Plays.{Sat, noted, settling, taking}
use Rattle.cell_rules.proofs.Totals.{In-right}
use Rattle.one_shot_word.specs.Meaning.{means}
use Rattle.hand_states.specs.Hands.{Idle, Holds}
use Rattle.hand_states.proofs.Having as having
use Rattle.hand_states.proofs.Closing as closing
use Rattle.hand_calls.proofs.take.Goals as goal

pub returns-in-Ok-clause-ok : goal.returns-in-Ok-clause-ok
returns-in-Ok-clause-ok g c =
    let l = g.L.Load in
    let p = g.P.Parcel in
    let x = means l.meaning p.meaning in
    let key = c.args.cells.now.table.shared.key in
    let about : g.row.A.Denot × ℕ = (key.program, key.rounds) in
    let n : ℕ = key.cells in
    let v : View g.row.L.Denot (g.row.A.Denot × ℕ) = c.args.hand.now.seat.me.0 in
    let load = c.in-Ok.load in
    let ok = c.in-Ok.ensures.ok in
    let m : ℕ = c.args.number.0 in
    let w : ℕ = task_at (cell n m) in (
      ok.0,
      λ s idle.
          let both : x.about load ∷ [] ≡ about ∷ [] = sym ok.1.0 ∙ idle.has.program in
          let program : x.about load ≡ about = cc in
          let taken = having.takes x about s v load w ok.2.0 (READY m) ok.2.0 (RUNNING m) idle ok.1.1 program (λ k h. c.requires.forked load k h) (λ k h. c.requires.received load k h) in
          subst (λ (z : View g.row.L.Denot (g.row.A.Denot × ℕ)). Holds x about s load z) (sym (ap (λ (z : Sat g.row.L.Denot g.row.P.Denot (g.row.A.Denot × ℕ)). z.0) ok.2.1))
          (subst (λ (k : ℕ). Holds x about s load (noted w ok.2.0 ok.2.0 (settling k (noted w (READY m) (RUNNING m) (taking x k load v))))) ok.0 taken),
    )

pub returns-in-Err-clause-err : goal.returns-in-Err-clause-err
returns-in-Err-clause-err g c = λ s idle.
    let l = g.L.Load in
    let p = g.P.Parcel in
    let x = means l.meaning p.meaning in
    let key = c.args.cells.now.table.shared.key in
    let about : g.row.A.Denot × ℕ = (key.program, key.rounds) in
    let n : ℕ = key.cells in
    let v : View g.row.L.Denot (g.row.A.Denot × ℕ) = c.args.hand.now.seat.me.0 in
    let err = c.in-Err.ensures.err in
    let w : ℕ = task_at (cell n c.args.number.0) in
    subst (λ (z : View g.row.L.Denot (g.row.A.Denot × ℕ)). Idle x about s z) (sym (ap (λ (z : Sat g.row.L.Denot g.row.P.Denot (g.row.A.Denot × ℕ)). z.0) err.3)) ((closing.notes x about s v w err.0 err.0).0 idle)

pub returns-in-Ok-clause-more : goal.returns-in-Ok-clause-more
returns-in-Ok-clause-more g c = λ e i.
    let l = g.L.Load in
    let p = g.P.Parcel in
    let x = means l.meaning p.meaning in
    let v : View g.row.L.Denot (g.row.A.Denot × ℕ) = c.args.hand.now.seat.me.0 in
    subst (λ (z : Sat g.row.L.Denot g.row.P.Denot (g.row.A.Denot × ℕ)). In e z.0.names) (sym c.in-Ok.ensures.ok.2.1) (In-right e (x.mentions c.in-Ok.load) v.names i)

pub returns-in-Err-clause-more : goal.returns-in-Err-clause-more
returns-in-Err-clause-more g c = λ e i. subst (λ (z : Sat g.row.L.Denot g.row.P.Denot (g.row.A.Denot × ℕ)). In e z.0.names) (sym c.in-Err.ensures.err.3) i

pub returns-in-Ok-clause-parts : goal.returns-in-Ok-clause-parts
returns-in-Ok-clause-parts g c = ap (λ (z : Sat g.row.L.Denot g.row.P.Denot (g.row.A.Denot × ℕ)). z.0.parts) c.in-Ok.ensures.ok.2.1

pub returns-in-Err-clause-parts : goal.returns-in-Err-clause-parts
returns-in-Err-clause-parts g c = ap (λ (z : Sat g.row.L.Denot g.row.P.Denot (g.row.A.Denot × ℕ)). z.0.parts) c.in-Err.ensures.err.3
