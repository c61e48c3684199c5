use Rattle.std.proofs.Common.{ℕ, arith}
use Rattle.one_shot_word.specs.Meaning.{means}
use Rattle.cell_rules.proofs.Fetches.{takes_kept}
use Rattle.one_shot_word.proofs.cells.Cells.take_step.Goals as goal

pub compare_exchange-requires : goal.compare_exchange-requires
compare_exchange-requires g c =
    let l = g.L.Load in
    let p = g.P.Parcel in
    let x = means l.meaning p.meaning in
    let key = c.args.self.now.table.shared.key in
    let k : ℕ × ℕ × (g.row.A.Denot × ℕ) = (key.cells, key.hands, (key.program, key.rounds)) in
    (c.requires.seat, c.task_word.ensures.1, rw (c.task_word.ensures.0, c.ready.ensures, c.running.ensures) (takes_kept x k _ _ _ c.args.number c.requires.live))

pub returns-clause-taken : goal.returns-clause-taken
returns-clause-taken g c = λ e. let t = (c.compare_exchange.ensures.2 c.args.self.now.table.shared.key.cells c.args.number (omega (arith, c.args.self.now.sized.1, c.args.self.now.sized.2)) c.ready.ensures).0 e in (t.0, t.1, t.2, rw (c.task_word.ensures.0, c.running.ensures) at t.3)

pub returns-clause-missed : goal.returns-clause-missed
returns-clause-missed g c = λ ne. rw c.task_word.ensures.0 at ((c.compare_exchange.ensures.2 c.args.self.now.table.shared.key.cells c.args.number (omega (arith, c.args.self.now.sized.1, c.args.self.now.sized.2)) c.ready.ensures).1 ne)
