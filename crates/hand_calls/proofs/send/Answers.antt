use Rattle.std.proofs.Common.{ℕ, ◌<◌, ◌≤◌, ◌^◌, sym, subst, ◌∙◌}
use Rattle.cell_rules.specs.declared.view.View.{View}
use Rattle.cell_rules.specs.Lists.{count}
use Rattle.cell_rules.specs.Marks.{InHand}
use Rattle.one_shot_word.specs.Meaning.{means}
use Rattle.one_shot_word.specs.Calls.{Sends}
use Rattle.hand_states.proofs.Having as having
use Rattle.hand_calls.proofs.Reading.{sends_stay, sending_holds}
use Rattle.hand_calls.proofs.send.Goals as goal

pub send-requires-clause-by : goal.send-requires-clause-by
send-requires-clause-by g c =
    let l = g.L.Load in
    let p = g.P.Parcel in
    let x = means l.meaning p.meaning in
    let key = c.args.cells.now.table.shared.key in
    let about : g.row.A.Denot × ℕ = (key.program, key.rounds) in
    let n : ℕ = key.cells in
    let v : View g.row.L.Denot (g.row.A.Denot × ℕ) = c.args.hand.now.seat.me.0 in
    let holds = c.requires.holds.1 in
    let same = c.number.ensures in
    (subst (λ (z : ℕ). z ≤ 2 ^ 60) (sym same) c.requires.small, subst (λ (z : ℕ). 0 < count (InHand z) v.marks) (sym same) (having.there x about c.requires.holds.0 c.args.by.now v holds.one))

pub returns : goal.returns
returns g c =
    let l = g.L.Load in
    let p = g.P.Parcel in
    let x = means l.meaning p.meaning in
    let key = c.args.cells.now.table.shared.key in
    let about : g.row.A.Denot × ℕ = (key.program, key.rounds) in
    let n : ℕ = key.cells in
    let v : View g.row.L.Denot (g.row.A.Denot × ℕ) = c.args.hand.now.seat.me.0 in
    let stay = sends_stay n c.args.number.0 _ v _ _ _ c.send.ensures.sends in
    let t : Sends n c.args.number.0 (x.number c.args.by.now) v c.send.new.hand.seat.me c.args.parcel c.send.result =
    subst (λ (z : ℕ). Sends n c.args.number.0 z v c.send.new.hand.seat.me c.args.parcel c.send.result) c.number.ensures c.send.ensures.sends in
    record {
      at = (c.send.ensures.table ∙ c.requires.at.0, stay.0, subst (λ (z : ℕ). 0 < z) (sym stay.1) c.requires.at.2);
      parts = stay.1;
      sends = t;
      holds = λ s holds. sending_holds x about s n c.args.number.0 _ v _ _ _ c.args.by.now holds c.send.ensures.sends;
      names = stay.2;
    }
