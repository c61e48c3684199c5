use Rattle.std.proofs.Common.{ℕ, arith}
use Rattle.one_shot_word.specs.Meaning.{means}
use Rattle.cell_rules.proofs.Fetches.{reclaims_kept}
use Rattle.one_shot_word.proofs.cells.Cells.reclaim.Goals as goal

pub swap-requires : goal.swap-requires
swap-requires g c =
    let l = g.L.Load in
    let p = g.P.Parcel in
    let x = means l.meaning p.meaning in
    let key = c.args.self.now.table.shared.key in
    let k : ℕ × ℕ × (g.row.A.Denot × ℕ) = (key.cells, key.hands, (key.program, key.rounds)) in
    (c.requires.seat, c.task_word.ensures.1, rw (c.task_word.ensures.0, c.running.ensures) (reclaims_kept x k _ _ _ c.args.number c.requires.parking.1.0 c.requires.live c.requires.parking.0 c.requires.parking.1.1))

pub returns-clause-me : goal.returns-clause-me
returns-clause-me g c = λ load rests. rw (c.task_word.ensures.0, c.running.ensures) at (c.swap.ensures.2 c.args.self.now.table.shared.key.cells c.args.number load (omega (arith, c.args.self.now.sized.1, c.args.self.now.sized.2)) c.running.ensures rests)
