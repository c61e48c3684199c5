use Rattle.std.proofs.Common.{ℕ}
use Rattle.one_shot_word.specs.Meaning.{means}
use Rattle.cell_rules.proofs.Puts.{wakes_kept}
use Rattle.one_shot_word.proofs.cells.Cells.wake.Goals as goal

pub swap-requires : goal.swap-requires
swap-requires g c =
    let l = g.L.Load in
    let p = g.P.Parcel in
    let x = means l.meaning p.meaning in
    let key = c.args.self.now.table.shared.key in
    let k : ℕ × ℕ × (g.row.A.Denot × ℕ) = (key.cells, key.hands, (key.program, key.rounds)) in
    (c.requires.seat, c.task_word.ensures.1, rw (c.task_word.ensures.0, c.ready.ensures) (wakes_kept x k _ _ _ c.args.number c.requires.live c.requires.has))

pub returns-clause-me : goal.returns-clause-me
returns-clause-me g c = rw (c.task_word.ensures.0, c.ready.ensures) at (c.swap.ensures.2 c.args.number c.ready.ensures)
