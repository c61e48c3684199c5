use Rattle.std.proofs.Common.{ℕ, ◌<◌, sym, subst, ◌∙◌}
use Rattle.cell_rules.specs.declared.view.View.{View}
use Rattle.one_shot_word.specs.Meaning.{means}
use Rattle.hand_states.proofs.Having as having
use Rattle.hand_calls.proofs.Reading.{receives_stay, receiving}
use Rattle.hand_calls.proofs.recv.Goals as goal

pub recv-requires-clause-has : goal.recv-requires-clause-has
recv-requires-clause-has g c =
    let l = g.L.Load in
    let p = g.P.Parcel in
    let x = means l.meaning p.meaning in
    let key = c.args.cells.now.table.shared.key in
    let about : g.row.A.Denot × ℕ = (key.program, key.rounds) in
    let n : ℕ = key.cells in
    let v : View g.row.L.Denot (g.row.A.Denot × ℕ) = c.args.hand.now.seat.me.0 in
    let holds = c.requires.holds.1 in
    (c.requires.small, having.there x about c.requires.holds.0 c.args.load v holds.one)

pub recv-requires-clause-load : goal.recv-requires-clause-load
recv-requires-clause-load g c = let holds = c.requires.holds.1 in (holds.knows, holds.tells)

pub returns : goal.returns
returns g c =
    let l = g.L.Load in
    let p = g.P.Parcel in
    let x = means l.meaning p.meaning in
    let key = c.args.cells.now.table.shared.key in
    let about : g.row.A.Denot × ℕ = (key.program, key.rounds) in
    let n : ℕ = key.cells in
    let v : View g.row.L.Denot (g.row.A.Denot × ℕ) = c.args.hand.now.seat.me.0 in
    let stay = receives_stay x n c.args.number.0 v _ c.args.load _ c.recv.ensures.receives in
    record {
      at = (c.recv.ensures.table ∙ c.requires.at.0, stay.0, subst (λ (z : ℕ). 0 < z) (sym stay.1) c.requires.at.2);
      parts = stay.1;
      more = stay.2;
      reads = c.recv.ensures.receives;
      receives = λ s holds. receiving x about s n c.args.number.0 c.args.load v _ _ holds c.recv.ensures.receives;
    }
