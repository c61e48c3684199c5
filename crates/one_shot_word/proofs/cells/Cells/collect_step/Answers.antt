use Rattle.std.proofs.Common.{ℕ, sym, subst, ◌<◌, arith}
use Rattle.one_shot_word.specs.Meaning.{means}
use Rattle.cell_rules.specs.Lists.{count}
use Rattle.cell_rules.specs.Marks.{InHand}
use Rattle.cell_rules.proofs.Sends.{collects_kept}
use Rattle.one_shot_word.proofs.cells.Cells.collect_step.Goals as goal

pub compare_exchange-requires : goal.compare_exchange-requires
compare_exchange-requires g c =
    let l = g.L.Load in
    let p = g.P.Parcel in
    let x = means l.meaning p.meaning in
    let key = c.args.self.now.table.shared.key in
    let k : ℕ × ℕ × (g.row.A.Denot × ℕ) = (key.cells, key.hands, (key.program, key.rounds)) in
    (c.requires.seat, c.chan_word.ensures.1, rw (c.chan_word.ensures.0, c.full.ensures, c.done.ensures) (collects_kept x k _ _ _ c.args.number g.R.Receiver.by c.requires.live c.requires.knows (subst (λ z. 0 < count (InHand z) c.args.seat.now.me.0.marks) c.requires.by.0 c.requires.by.1)))

pub returns-clause-collected : goal.returns-clause-collected
returns-clause-collected g c = λ e. let t = (c.compare_exchange.ensures.2 c.args.self.now.table.shared.key.cells c.args.number (omega (arith, c.args.self.now.sized.1, c.args.self.now.sized.2)) c.full.ensures).0 e in (t.0, t.1, t.2, rw (c.chan_word.ensures.0, sym c.requires.by.0, c.done.ensures) at t.3)

pub returns-clause-missed : goal.returns-clause-missed
returns-clause-missed g c = λ ne. rw c.chan_word.ensures.0 at ((c.compare_exchange.ensures.2 c.args.self.now.table.shared.key.cells c.args.number (omega (arith, c.args.self.now.sized.1, c.args.self.now.sized.2)) c.full.ensures).1 ne)

pub returns-clause-sent : goal.returns-clause-sent
returns-clause-sent g c = λ sent. (c.compare_exchange.ensures.2 c.args.self.now.table.shared.key.cells c.args.number (omega (arith, c.args.self.now.sized.1, c.args.self.now.sized.2)) c.full.ensures).2 sent
