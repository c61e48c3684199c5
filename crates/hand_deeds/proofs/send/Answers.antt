use Rattle.std.proofs.Common.{ℕ, ◌≡◌, ◌<◌, sym, subst, ◌∙◌}
use Rattle.cell_rules.specs.declared.view.View.{View}
use Rattle.cell_rules.specs.Lists.{count}
use Rattle.cell_rules.specs.Marks.{InHand}
use Rattle.one_shot_word.specs.Meaning.{means}
use Rattle.hand_states.proofs.Having as having
use Rattle.hand_calls.proofs.Reading.{sends_stay}
use Rattle.hand_deeds.proofs.Spending.{sent_holds}
use Rattle.hand_deeds.proofs.send.Goals as goal

pub send-requires-clause-by : goal.send-requires-clause-by
send-requires-clause-by g c =
    let l = g.L.Load in
    let p = g.P.Parcel in
    let x = means l.meaning p.meaning in
    let key = c.args.cells.now.table.shared.key in
    let about : g.row.A.Denot × ℕ = (key.program, key.rounds) in
    let v : View g.row.L.Denot (g.row.A.Denot × ℕ) = c.args.hand.now.seat.me.0 in
    let (before, number, (s, holds)) = c.requires.holds in
    (c.requires.by, subst (λ (z : ℕ). 0 < count (InHand z) v.marks) number (having.there x about s before v holds.one))

pub returns : goal.returns
returns g c =
    let l = g.L.Load in
    let p = g.P.Parcel in
    let x = means l.meaning p.meaning in
    let key = c.args.cells.now.table.shared.key in
    let about : g.row.A.Denot × ℕ = (key.program, key.rounds) in
    let n : ℕ = key.cells in
    let v : View g.row.L.Denot (g.row.A.Denot × ℕ) = c.args.hand.now.seat.me.0 in
    let stay = sends_stay n c.args.number.0 c.args.by.0 v c.send.new.hand.seat.me c.args.parcel c.send.result c.send.ensures.sends in
    record {
      at = (c.send.ensures.table ∙ c.requires.at.0, stay.0, subst (λ (z : ℕ). 0 < z) (sym stay.1) c.requires.at.2);
      parts = stay.1;
      words = c.send.ensures.sends;
      sends = λ s before next holds t. sent_holds x about s n c.args.number.0 c.args.by.0 v c.send.new.hand.seat.me c.args.parcel c.send.result before next holds t c.send.ensures.sends;
    }
