use Rattle.std.proofs.Common.{ℕ}
use Rattle.one_shot_word.specs.Meaning.{means}
use Rattle.cell_rules.proofs.Sends.{parks_kept}
use Rattle.one_shot_word.proofs.cells.Cells.park_step.Goals as goal

pub compare_exchange-requires : goal.compare_exchange-requires
compare_exchange-requires g c =
    let l = g.L.Load in
    let p = g.P.Parcel in
    let x = means l.meaning p.meaning in
    let key = c.args.self.now.table.shared.key in
    let k : ℕ × ℕ × (g.row.A.Denot × ℕ) = (key.cells, key.hands, (key.program, key.rounds)) in
    (c.requires.seat, c.chan_word.ensures.1, rw (c.chan_word.ensures.0, c.empty.ensures, c.parked.ensures) (parks_kept x k _ _ _ c.args.number c.args.own c.requires.live c.requires.knows c.requires.has))

pub returns-clause-parked : goal.returns-clause-parked
returns-clause-parked g c = λ e. rw (c.chan_word.ensures.0, c.parked.ensures) at ((c.compare_exchange.ensures.2 c.args.number c.args.own c.empty.ensures c.parked.ensures).0 e)

pub returns-clause-full : goal.returns-clause-full
returns-clause-full g c = λ e. rw c.chan_word.ensures.0 at ((c.compare_exchange.ensures.2 c.args.number c.args.own c.empty.ensures c.parked.ensures).1 e)

pub returns-clause-missed : goal.returns-clause-missed
returns-clause-missed g c = λ ne nf. rw c.chan_word.ensures.0 at ((c.compare_exchange.ensures.2 c.args.number c.args.own c.empty.ensures c.parked.ensures).2 ne nf)
