use Rattle.std.proofs.Common.{ℕ, ◌<◌, sym, subst, ap, ◌∙◌, arith}
use Rattle.cell_rules.specs.declared.view.View.{View}
use Rattle.cell_rules.specs.Plays.{Sat}
use Rattle.cell_rules.proofs.Totals.{one_same}
use Rattle.one_shot_word.specs.Meaning.{means}
use Rattle.hand_calls.proofs.Reading.{retired_parts, retiring}
use Rattle.hand_calls.proofs.retire_received.Goals as goal

pub retire-requires-clause-received : goal.retire-requires-clause-received
retire-requires-clause-received g c =
    let l = g.L.Load in
    let p = g.P.Parcel in
    let x = means l.meaning p.meaning in
    let key = c.args.cells.now.table.shared.key in
    let about : g.row.A.Denot × ℕ = (key.program, key.rounds) in
    let n : ℕ = key.cells in
    let v : View g.row.L.Denot (g.row.A.Denot × ℕ) = c.args.hand.now.seat.me.0 in
    let m : ℕ = c.args.number.0 in
    omega (arith, c.requires.holds.1.has.rights m, one_same m)

pub returns : goal.returns
returns g c =
    let l = g.L.Load in
    let p = g.P.Parcel in
    let x = means l.meaning p.meaning in
    let key = c.args.cells.now.table.shared.key in
    let about : g.row.A.Denot × ℕ = (key.program, key.rounds) in
    let n : ℕ = key.cells in
    let v : View g.row.L.Denot (g.row.A.Denot × ℕ) = c.args.hand.now.seat.me.0 in
    let t = c.retire.ensures.received in
    let e = t.2 in
    let parts = retired_parts c.args.number.0 c.retire.result v in
    record {
      at = (c.retire.ensures.table ∙ c.requires.at.0, ap (λ (z : Sat g.row.L.Denot g.row.P.Denot (g.row.A.Denot × ℕ)). z.1) e, subst (λ (z : ℕ). 0 < z) (sym (ap (λ (z : Sat g.row.L.Denot g.row.P.Denot (g.row.A.Denot × ℕ)). z.0.parts) e ∙ parts.0)) c.requires.at.2);
      parts = ap (λ (z : Sat g.row.L.Denot g.row.P.Denot (g.row.A.Denot × ℕ)). z.0.parts) e ∙ parts.0;
      fetched = t;
      retires = λ s holds. retiring x about s n c.args.number.0 c.args.load.now v _ t.0 _ holds t.1 e;
      names = ap (λ (z : Sat g.row.L.Denot g.row.P.Denot (g.row.A.Denot × ℕ)). z.0.names) e ∙ parts.1;
    }
