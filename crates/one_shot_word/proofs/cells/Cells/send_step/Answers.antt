use Rattle.std.proofs.Common.{ℕ}
use Rattle.one_shot_word.specs.Meaning.{means}
use Rattle.cell_rules.proofs.Sends.{sends_kept}
use Rattle.one_shot_word.proofs.cells.Cells.send_step.Goals as goal

pub swap-requires : goal.swap-requires
swap-requires g c =
    let l = g.L.Load in
    let p = g.P.Parcel in
    let x = means l.meaning p.meaning in
    let key = c.args.self.now.table.shared.key in
    let k : ℕ × ℕ × (g.row.A.Denot × ℕ) = (key.cells, key.hands, (key.program, key.rounds)) in
    (c.requires.seat, c.chan_word.ensures.1, rw (c.chan_word.ensures.0, c.full.ensures) (sends_kept x k _ _ _ c.args.number c.requires.claimed.1.0 _ c.requires.live c.requires.claimed.1.1 c.requires.claimed.1.2 c.requires.claimed.0 c.requires.claimed.1.3))

pub returns-clause-found : goal.returns-clause-found
returns-clause-found g c = (c.swap.ensures.2 c.args.number c.full.ensures).2

pub returns-clause-empty : goal.returns-clause-empty
returns-clause-empty g c = λ e. rw (c.chan_word.ensures.0, c.full.ensures) at ((c.swap.ensures.2 c.args.number c.full.ensures).0 e)

pub returns-clause-parked : goal.returns-clause-parked
returns-clause-parked g c = λ j e. let t = (c.swap.ensures.2 c.args.number c.full.ensures).1 j e in (rw (c.chan_word.ensures.0, c.full.ensures) at (t.0), t.1)
