use Rattle.std.proofs.Common.{ℕ, arith}
use Rattle.one_shot_word.specs.Meaning.{means}
use Rattle.cell_rules.proofs.Seats.{joins_kept}
use Rattle.one_shot_word.proofs.cells.Cells.join.Goals as goal

pub join_seat-requires : goal.join_seat-requires
join_seat-requires g c =
    let l = g.L.Load in
    let p = g.P.Parcel in
    let x = means l.meaning p.meaning in
    let key = c.args.self.now.table.shared.key in
    let k : ℕ × ℕ × (g.row.A.Denot × ℕ) = (key.cells, key.hands, (key.program, key.rounds)) in
    (c.requires.hand.0, c.requires.other.0, c.requires.other.1, omega (arith, c.args.self.now.sized.0), joins_kept x k _ _ _ _ c.requires.hand.1)
