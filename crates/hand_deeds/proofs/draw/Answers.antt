use Rattle.std.proofs.Common.{ℕ, ◌≡◌, ◌<◌, sym, subst, ap, ◌∙◌, [], ◌∷◌}
use Rattle.cell_rules.specs.declared.view.View.{View}
use Rattle.cell_rules.specs.Plays.{Sat}
use Rattle.one_shot_word.specs.Meaning.{means}
use Rattle.hand_states.specs.Hands.{Idle, Holds}
use Rattle.hand_deeds.proofs.Spending.{idle_spent, holds_spent}
use Rattle.hand_deeds.proofs.draw.Goals as goal

pub returns-in-Ok-clause-at : goal.returns-in-Ok-clause-at
returns-in-Ok-clause-at g c =
    let d = c.in-Ok.ensures.drawn in
    (c.in-Ok.ensures.table ∙ c.requires.at.0, ap (λ (z : Sat g.row.L.Denot g.row.P.Denot (g.row.A.Denot × ℕ)). z.1) d.1, subst (λ (z : Sat g.row.L.Denot g.row.P.Denot (g.row.A.Denot × ℕ)). 0 < z.0.parts) (sym d.1) c.requires.at.2)

pub returns-in-Ok-clause-parts : goal.returns-in-Ok-clause-parts
returns-in-Ok-clause-parts g c = ap (λ (z : Sat g.row.L.Denot g.row.P.Denot (g.row.A.Denot × ℕ)). z.0.parts) c.in-Ok.ensures.drawn.1

pub returns-in-Ok-clause-drawn : goal.returns-in-Ok-clause-drawn
returns-in-Ok-clause-drawn g c =
    let d = c.in-Ok.ensures.drawn in
    (d.0, ap (λ (z : Sat g.row.L.Denot g.row.P.Denot (g.row.A.Denot × ℕ)). z.0) d.1)

pub returns-in-Err-clause-at : goal.returns-in-Err-clause-at
returns-in-Err-clause-at g c =
    let d = c.in-Err.ensures.full in
    (c.in-Err.ensures.table ∙ c.requires.at.0, ap (λ (z : Sat g.row.L.Denot g.row.P.Denot (g.row.A.Denot × ℕ)). z.1) d.1, subst (λ (z : Sat g.row.L.Denot g.row.P.Denot (g.row.A.Denot × ℕ)). 0 < z.0.parts) (sym d.1) c.requires.at.2)

pub returns-in-Err-clause-parts : goal.returns-in-Err-clause-parts
returns-in-Err-clause-parts g c = ap (λ (z : Sat g.row.L.Denot g.row.P.Denot (g.row.A.Denot × ℕ)). z.0.parts) c.in-Err.ensures.full.1

pub returns-in-Err-clause-idle : goal.returns-in-Err-clause-idle
returns-in-Err-clause-idle g c = λ s idle.
    let l = g.L.Load in
    let p = g.P.Parcel in
    let x = means l.meaning p.meaning in
    let key = c.args.cells.now.table.shared.key in
    let about : g.row.A.Denot × ℕ = (key.program, key.rounds) in
    let v : View g.row.L.Denot (g.row.A.Denot × ℕ) = c.args.hand.now.seat.me.0 in
    subst (λ (z : View g.row.L.Denot (g.row.A.Denot × ℕ)). Idle x about s z) (sym (ap (λ (z : Sat g.row.L.Denot g.row.P.Denot (g.row.A.Denot × ℕ)). z.0) c.in-Err.ensures.full.1)) (idle_spent x about s v _ _ _ idle)

pub returns-in-Err-clause-holds : goal.returns-in-Err-clause-holds
returns-in-Err-clause-holds g c = λ load s holds.
    let l = g.L.Load in
    let p = g.P.Parcel in
    let x = means l.meaning p.meaning in
    let key = c.args.cells.now.table.shared.key in
    let about : g.row.A.Denot × ℕ = (key.program, key.rounds) in
    let v : View g.row.L.Denot (g.row.A.Denot × ℕ) = c.args.hand.now.seat.me.0 in
    subst (λ (z : View g.row.L.Denot (g.row.A.Denot × ℕ)). Holds x about s load z) (sym (ap (λ (z : Sat g.row.L.Denot g.row.P.Denot (g.row.A.Denot × ℕ)). z.0) c.in-Err.ensures.full.1)) (holds_spent x about s v _ _ _ load holds)
