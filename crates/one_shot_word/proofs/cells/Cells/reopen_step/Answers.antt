use Rattle.std.proofs.Common.{ℕ, ap, ◌∙◌, arith}
use Rattle.cell_rules.specs.Words.{READY}
use Rattle.one_shot_word.specs.Meaning.{means}
use Rattle.cell_rules.proofs.Reopens.{reopens_kept}
use Rattle.one_shot_word.proofs.cells.Cells.reopen_step.Goals as goal

pub swap-requires : goal.swap-requires
swap-requires g c =
    let l = g.L.Load in
    let p = g.P.Parcel in
    let x = means l.meaning p.meaning in
    let key = c.args.self.now.table.shared.key in
    let k : ℕ × ℕ × (g.row.A.Denot × ℕ) = (key.cells, key.hands, (key.program, key.rounds)) in
    (c.requires.seat, c.task_word.ensures.1, rw (c.task_word.ensures.0, c.ready.ensures, c.next-next.ensures) (reopens_kept x k _ _ _ c.args.number c.requires.raised.0 _ c.requires.live c.requires.raised.1 c.requires.raised.2 c.requires.small c.requires.free.0 c.requires.free.1 c.requires.free.2 c.requires.free.3 c.requires.raised.3))

pub returns-clause-me : goal.returns-clause-me
returns-clause-me g c = λ load at. rw (c.task_word.ensures.0, c.ready.ensures, c.next-next.ensures) at (c.swap.ensures.2 c.args.self.now.table.shared.key.cells c.args.number _ load (omega (arith, c.args.self.now.sized.1, c.args.self.now.sized.2)) (c.ready.ensures ∙ ap READY c.next-next.ensures) at)
