use Rattle.std.proofs.Common.{ℕ, arith}
use Rattle.one_shot_word.specs.Meaning.{means}
use Rattle.cell_rules.proofs.Slots.{settles_kept}
use Rattle.one_shot_word.proofs.cells.Cells.settle.Goals as goal

pub load-requires : goal.load-requires
load-requires g c =
    let l = g.L.Load in
    let p = g.P.Parcel in
    let x = means l.meaning p.meaning in
    let key = c.args.self.now.table.shared.key in
    let k : ℕ × ℕ × (g.row.A.Denot × ℕ) = (key.cells, key.hands, (key.program, key.rounds)) in
    (c.requires.seat, c.task_word.ensures.1, rw c.task_word.ensures.0 (settles_kept x k _ _ _ c.args.number _ c.requires.live c.requires.slot c.requires.has))

pub returns-clause-me : goal.returns-clause-me
returns-clause-me g c = rw c.task_word.ensures.0 at (c.load.ensures.2 c.args.self.now.table.shared.key.cells c.args.number (omega (arith, c.args.self.now.sized.1, c.args.self.now.sized.2)) c.task_word.ensures.0 c.requires.has)
