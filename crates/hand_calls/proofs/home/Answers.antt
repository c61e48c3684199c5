use Rattle.std.proofs.Common.{ℕ, sym, subst, ap}
use Rattle.cell_rules.specs.declared.view.View.{View}
use Rattle.cell_rules.specs.Words.{cell, task_at}
use Rattle.cell_rules.specs.Plays.{Sat}
use Rattle.one_shot_word.specs.Meaning.{means}
use Rattle.hand_states.specs.Hands.{Idle}
use Rattle.hand_states.proofs.Having as having
use Rattle.hand_calls.proofs.home.Goals as goal

pub home-requires-clause-has : goal.home-requires-clause-has
home-requires-clause-has g c =
    let l = g.L.Load in
    let p = g.P.Parcel in
    let x = means l.meaning p.meaning in
    let key = c.args.cells.now.table.shared.key in
    let about : g.row.A.Denot × ℕ = (key.program, key.rounds) in
    let n : ℕ = key.cells in
    let v : View g.row.L.Denot (g.row.A.Denot × ℕ) = c.args.hand.now.seat.me.0 in
    let holds = c.requires.holds.1 in
    (c.requires.small, having.there x about c.requires.holds.0 c.args.load v holds.one)

pub home-requires-clause-load : goal.home-requires-clause-load
home-requires-clause-load g c = let holds = c.requires.holds.1 in (holds.knows, holds.tells)

pub returns-clause-home : goal.returns-clause-home
returns-clause-home g c = λ s holds.
    let l = g.L.Load in
    let p = g.P.Parcel in
    let x = means l.meaning p.meaning in
    let key = c.args.cells.now.table.shared.key in
    let about : g.row.A.Denot × ℕ = (key.program, key.rounds) in
    let n : ℕ = key.cells in
    let v : View g.row.L.Denot (g.row.A.Denot × ℕ) = c.args.hand.now.seat.me.0 in
    let view = c.home.ensures.view in
    let w : ℕ = task_at (cell n (x.number c.args.load)) in
    subst (λ (z : View g.row.L.Denot (g.row.A.Denot × ℕ)). Idle x about s z) (sym (ap (λ (z : Sat g.row.L.Denot g.row.P.Denot (g.row.A.Denot × ℕ)). z.0) view.2)) (having.goes_home x about s v c.args.load w view.0 view.1 _ view.0 holds)

pub returns-clause-parts : goal.returns-clause-parts
returns-clause-parts g c = ap (λ (z : Sat g.row.L.Denot g.row.P.Denot (g.row.A.Denot × ℕ)). z.0.parts) c.home.ensures.view.2
