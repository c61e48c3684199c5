use Rattle.std.proofs.Common.{ℕ, ◌<◌, sym, subst, ap, ◌∙◌}
use Rattle.cell_rules.specs.declared.view.View.{View}
use Rattle.cell_rules.specs.Lists.{count}
use Rattle.cell_rules.specs.Marks.{InHand}
use Rattle.cell_rules.specs.Plays.{Sat}
use Rattle.one_shot_word.specs.Meaning.{means}
use Rattle.one_shot_word.specs.Calls.{RetiresEnded}
use Rattle.hand_states.proofs.Having as having
use Rattle.hand_calls.proofs.Reading.{ended_parts, ends}
use Rattle.hand_calls.proofs.retire_ended.Goals as goal

pub retire-requires-clause-has : goal.retire-requires-clause-has
retire-requires-clause-has g c =
    let l = g.L.Load in
    let p = g.P.Parcel in
    let x = means l.meaning p.meaning in
    let key = c.args.cells.now.table.shared.key in
    let about : g.row.A.Denot × ℕ = (key.program, key.rounds) in
    let n : ℕ = key.cells in
    let v : View g.row.L.Denot (g.row.A.Denot × ℕ) = c.args.hand.now.seat.me.0 in
    let holds = c.requires.holds.1 in
    subst (λ (z : ℕ). 0 < count (InHand z) v.marks) (sym c.number.ensures) (having.there x about c.requires.holds.0 c.args.load.now v holds.one)

pub retire-requires-clause-rest : goal.retire-requires-clause-rest
retire-requires-clause-rest g c = let holds = c.requires.holds.1 in (holds.knows, holds.tells)

pub returns : goal.returns
returns g c =
    let l = g.L.Load in
    let p = g.P.Parcel in
    let x = means l.meaning p.meaning in
    let key = c.args.cells.now.table.shared.key in
    let about : g.row.A.Denot × ℕ = (key.program, key.rounds) in
    let n : ℕ = key.cells in
    let v : View g.row.L.Denot (g.row.A.Denot × ℕ) = c.args.hand.now.seat.me.0 in
    let t : RetiresEnded n (x.number c.args.load.now) c.args.load.now v c.retire.new.hand.seat.me c.retire.result =
    subst (λ (z : ℕ). RetiresEnded n z c.args.load.now v c.retire.new.hand.seat.me c.retire.result) c.number.ensures c.retire.ensures.ended in
    let e = t.2 in
    let parts = ended_parts (x.number c.args.load.now) c.args.load.now c.retire.result v in
    record {
      at = (c.retire.ensures.table ∙ c.requires.at.0, ap (λ (z : Sat g.row.L.Denot g.row.P.Denot (g.row.A.Denot × ℕ)). z.1) e, subst (λ (z : ℕ). 0 < z) (sym (ap (λ (z : Sat g.row.L.Denot g.row.P.Denot (g.row.A.Denot × ℕ)). z.0.parts) e ∙ parts.0)) c.requires.at.2);
      parts = ap (λ (z : Sat g.row.L.Denot g.row.P.Denot (g.row.A.Denot × ℕ)). z.0.parts) e ∙ parts.0;
      fetched = t;
      ends = λ s holds. ends x about s n c.args.load.now v _ t.0 _ holds t.1 e;
    }
