use Rattle.std.proofs.Common.{ℕ, arith}
use Rattle.one_shot_word.specs.Meaning.{means}
use Rattle.cell_rules.proofs.Retires.{retires_kept}
use Rattle.one_shot_word.proofs.cells.Cells.retire_step.Goals as goal

pub fetch_add-requires : goal.fetch_add-requires
fetch_add-requires g c =
    let l = g.L.Load in
    let p = g.P.Parcel in
    let x = means l.meaning p.meaning in
    let key = c.args.self.now.table.shared.key in
    let k : ℕ × ℕ × (g.row.A.Denot × ℕ) = (key.cells, key.hands, (key.program, key.rounds)) in
    (c.requires.seat, c.retire_word.ensures.1, rw c.retire_word.ensures.0 (retires_kept x k _ _ _ c.args.number c.requires.live c.requires.has))

pub returns-clause-first : goal.returns-clause-first
returns-clause-first g c = λ e. rw c.retire_word.ensures.0 at ((c.fetch_add.ensures.2 c.args.self.now.table.shared.key.cells c.args.number (omega (arith, c.args.self.now.sized.1, c.args.self.now.sized.2)) c.retire_word.ensures.0 c.requires.has).0 e)

pub returns-clause-second : goal.returns-clause-second
returns-clause-second g c = λ e. rw c.retire_word.ensures.0 at ((c.fetch_add.ensures.2 c.args.self.now.table.shared.key.cells c.args.number (omega (arith, c.args.self.now.sized.1, c.args.self.now.sized.2)) c.retire_word.ensures.0 c.requires.has).1 e)
