use Rattle.std.proofs.Common.{ℕ, arith}
use Rattle.one_shot_word.specs.Meaning.{means}
use Rattle.cell_rules.proofs.Claims.{claims_kept}
use Rattle.one_shot_word.proofs.cells.Cells.claim_step.Goals as goal

pub compare_exchange-requires : goal.compare_exchange-requires
compare_exchange-requires g c =
    let l = g.L.Load in
    let p = g.P.Parcel in
    let x = means l.meaning p.meaning in
    let key = c.args.self.now.table.shared.key in
    let k : ℕ × ℕ × (g.row.A.Denot × ℕ) = (key.cells, key.hands, (key.program, key.rounds)) in
    (c.requires.seat, c.claim_word.ensures.1, rw (c.claim_word.ensures.0, c.free.ensures, c.claimed.ensures) (claims_kept x k _ _ _ c.args.number c.args.by c.requires.live c.requires.knows))

pub returns-clause-claimed : goal.returns-clause-claimed
returns-clause-claimed g c = λ e. rw (c.claim_word.ensures.0, c.claimed.ensures) at ((c.compare_exchange.ensures.2 c.args.self.now.table.shared.key.cells c.args.number (omega (arith, c.args.self.now.sized.1, c.args.self.now.sized.2)) c.free.ensures).0 e)

pub returns-clause-missed : goal.returns-clause-missed
returns-clause-missed g c = λ ne. rw c.claim_word.ensures.0 at ((c.compare_exchange.ensures.2 c.args.self.now.table.shared.key.cells c.args.number (omega (arith, c.args.self.now.sized.1, c.args.self.now.sized.2)) c.free.ensures).1 ne)
