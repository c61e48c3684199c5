use Rattle.std.proofs.Common.{ℕ, ◌≡◌, ap, ◌∙◌, ◌+◌, arith}
use Rattle.cell_rules.specs.Words.{FREE}
use Rattle.one_shot_word.specs.Meaning.{means}
use Rattle.cell_rules.proofs.Claims.{clears_claim_kept}
use Rattle.one_shot_word.proofs.cells.Cells.clear_claim.Goals as goal

pub swap-requires : goal.swap-requires
swap-requires g c =
    let l = g.L.Load in
    let p = g.P.Parcel in
    let x = means l.meaning p.meaning in
    let key = c.args.self.now.table.shared.key in
    let k : ℕ × ℕ × (g.row.A.Denot × ℕ) = (key.cells, key.hands, (key.program, key.rounds)) in
    let word : c.free.result ≡ FREE (c.args.number + key.cells) = c.free.ensures ∙ ap FREE c.next-next.ensures in
    (c.requires.seat, c.claim_word.ensures.1, rw (c.claim_word.ensures.0, word) (clears_claim_kept x k _ _ _ c.args.number c.requires.live c.requires.has.0 c.requires.has.1))

pub returns-clause-me : goal.returns-clause-me
returns-clause-me g c = rw (c.claim_word.ensures.0, c.free.ensures, c.next-next.ensures) at (c.swap.ensures.2 c.args.self.now.table.shared.key.cells c.args.number (omega (arith, c.args.self.now.sized.1, c.args.self.now.sized.2)) (c.free.ensures ∙ ap FREE c.next-next.ensures))
