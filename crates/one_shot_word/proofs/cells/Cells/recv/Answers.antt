use Rattle.std.proofs.Common.{ℕ, refl}
use Rattle.cell_rules.specs.declared.view.View.{View}
use Rattle.one_shot_word.specs.Meaning.{means}
use Rattle.one_shot_word.proofs.Asked.{knows_same}
use Rattle.one_shot_word.proofs.cells.Cells.recv.Goals as goal

pub rest_at-requires-clause-load : goal.rest_at-requires-clause-load
rest_at-requires-clause-load g c =
    let l = g.L.Load in
    let p = g.P.Parcel in
    let x = means l.meaning p.meaning in
    let n : ℕ = c.args.self.now.table.shared.key.cells in
    let v : View g.row.L.Denot (g.row.A.Denot × ℕ) = c.args.hand.now.seat.me.0 in
    rw c.in-Err.ensures.err.1 (knows_same x v _ refl refl c.args.load refl c.requires.load.0, c.requires.load.1)
