use Rattle.std.proofs.Common.{ℕ}
use Rattle.one_shot_word.specs.Meaning.{means}
use Rattle.cell_rules.proofs.Puts.{halts_kept}
use Rattle.one_shot_word.proofs.cells.Cells.halt.Goals as goal

pub swap-requires : goal.swap-requires
swap-requires g c =
    let l = g.L.Load in
    let p = g.P.Parcel in
    let x = means l.meaning p.meaning in
    let key = c.args.self.now.table.shared.key in
    let k : ℕ × ℕ × (g.row.A.Denot × ℕ) = (key.cells, key.hands, (key.program, key.rounds)) in
    (c.requires.seat, c.task_word.ensures.1, rw (c.task_word.ensures.0, c.waiting.ensures) (halts_kept x k _ _ _ c.args.number c.requires.lifted.1.0 _ c.requires.live c.requires.lifted.1.1 c.requires.lifted.1.2 c.requires.lifted.0 c.requires.lifted.1.3 c.requires.lifted.1.4))

pub returns-clause-me : goal.returns-clause-me
returns-clause-me g c = λ load at. rw (c.task_word.ensures.0, c.waiting.ensures) at (c.swap.ensures.2 c.args.number _ load c.waiting.ensures at)
