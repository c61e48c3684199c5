use Rattle.std.proofs.Common.{ℕ, ap, ◌∙◌, arith}
use Rattle.cell_rules.specs.Words.{EMPTY}
use Rattle.one_shot_word.specs.Meaning.{means}
use Rattle.cell_rules.proofs.Sends.{clears_chan_kept}
use Rattle.one_shot_word.proofs.cells.Cells.clear_chan.Goals as goal

pub swap-requires : goal.swap-requires
swap-requires g c =
    let l = g.L.Load in
    let p = g.P.Parcel in
    let x = means l.meaning p.meaning in
    let key = c.args.self.now.table.shared.key in
    let k : ℕ × ℕ × (g.row.A.Denot × ℕ) = (key.cells, key.hands, (key.program, key.rounds)) in
    (c.requires.seat, c.chan_word.ensures.1, rw (c.chan_word.ensures.0, c.empty.ensures, c.next-next.ensures) (clears_chan_kept x k _ _ _ c.args.number c.requires.live c.requires.has.0 c.requires.has.1))

pub returns-clause-me : goal.returns-clause-me
returns-clause-me g c = rw (c.chan_word.ensures.0, c.empty.ensures, c.next-next.ensures) at (c.swap.ensures.2 c.args.self.now.table.shared.key.cells c.args.number (omega (arith, c.args.self.now.sized.1, c.args.self.now.sized.2)) (c.empty.ensures ∙ ap EMPTY c.next-next.ensures))
