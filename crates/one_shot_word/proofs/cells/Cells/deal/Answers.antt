use Rattle.std.proofs.Common.{ℕ, arith}
use Rattle.one_shot_word.specs.Meaning.{means}
use Rattle.cell_rules.proofs.Seats.{deals_kept}
use Rattle.one_shot_word.proofs.cells.Cells.deal.Goals as goal

pub split_seat-requires : goal.split_seat-requires
split_seat-requires g c =
    let l = g.L.Load in
    let p = g.P.Parcel in
    let x = means l.meaning p.meaning in
    let key = c.args.self.now.table.shared.key in
    let k : ℕ × ℕ × (g.row.A.Denot × ℕ) = (key.cells, key.hands, (key.program, key.rounds)) in
    (c.requires.0, omega (arith, c.args.self.now.sized.0), deals_kept x k _ _ c.requires.1)
