use Rattle.std.proofs.Common.{ℕ, subst}
use Rattle.cell_rules.specs.declared.view.View.{View}
use Rattle.cell_rules.specs.Lists.{In}
use Rattle.one_shot_word.specs.Meaning.{means}
use Rattle.one_shot_word.proofs.cells.Cells.retire_ended.Goals as goal

pub end_step-found-requires-clause-knows : goal.end_step-found-requires-clause-knows
end_step-found-requires-clause-knows g c =
    let l = g.L.Load in
    let p = g.P.Parcel in
    let x = means l.meaning p.meaning in
    let n : ℕ = c.args.self.now.table.shared.key.cells in
    let v : View g.row.L.Denot (g.row.A.Denot × ℕ) = c.args.hand.now.seat.me.0 in
    (c.requires.load.0, λ i r. c.requires.load.1 i (subst (λ z. In (z, i) v.receipts) c.number-number.ensures r))
