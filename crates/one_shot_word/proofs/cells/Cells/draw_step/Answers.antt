use Rattle.std.proofs.Common.{ℕ, arith}
use Rattle.one_shot_word.specs.Meaning.{means}
use Rattle.cell_rules.proofs.Seats.{draws_kept}
use Rattle.one_shot_word.proofs.cells.Cells.draw_step.Goals as goal

pub fetch_add-requires : goal.fetch_add-requires
fetch_add-requires g c =
    let l = g.L.Load in
    let p = g.P.Parcel in
    let x = means l.meaning p.meaning in
    let key = c.args.self.now.table.shared.key in
    let k : ℕ × ℕ × (g.row.A.Denot × ℕ) = (key.cells, key.hands, (key.program, key.rounds)) in
    (c.requires.seat, omega (arith, c.args.self.now.sized.0), draws_kept x k _ _ _ c.requires.may)

pub returns-clause-drawn : goal.returns-clause-drawn
returns-clause-drawn g c = λ lt. (c.fetch_add.ensures.2 c.args.self.now.table.shared.key.cells (omega (arith, c.args.self.now.sized.1, c.args.self.now.sized.2))).0 lt

pub returns-clause-none : goal.returns-clause-none
returns-clause-none g c = λ le. (c.fetch_add.ensures.2 c.args.self.now.table.shared.key.cells (omega (arith, c.args.self.now.sized.1, c.args.self.now.sized.2))).1 le
