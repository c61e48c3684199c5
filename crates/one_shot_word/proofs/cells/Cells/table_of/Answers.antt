use Rattle.std.proofs.Common.{rules, ℕ, ◌≡◌, ◌∙◌, sym, subst, List, ◌+◌, ◌*◌, ◌<◌, arith, ap, length}
use Rattle.cell_rules.specs.Words.{words_at_start}
use Rattle.one_shot_word.specs.Meaning.{means}
use Rattle.cell_rules.proofs.Seats.{starts_kept}
use Rattle.one_shot_word.proofs.Starting.{starting, cells_long}
use Rattle.one_shot_word.proofs.cells.Cells.table_of.Goals as goal

pub vacant-requires : goal.vacant-requires
vacant-requires g c =
    let l = g.L.Load in
    let p = g.P.Parcel in
    let x = means l.meaning p.meaning in
    let k : ℕ × ℕ × (g.row.A.Denot × ℕ) = (c.args.key.cells, c.args.key.hands, (c.args.key.program, c.args.key.rounds)) in
    let ws : List ℕ = c.as_slice.result.now in
    let is : ws ≡ words_at_start c.args.key.cells = search rules in
    starts_kept x k c.requires.0 c.requires.1 c.requires.2 c.requires.3 ws is (starting x k c.args.key.cells ws is)

pub invariant_of-result : goal.invariant_of-result
invariant_of-result g c =
    let t = c.in_ok-table.ensures in
    let n : ℕ = c.args.key.cells in
    let is : c.as_slice.result.now ≡ words_at_start n = search rules in
    let long : length c.as_slice.result.now ≡ 1 + 4 * n = ap length is ∙ (let sum : length (words_at_start n) ≡ 1 + 4 * n = omega (arith, cells_long n) in sum) in
    record { sized = (t.0 ∙ long, omega (arith, t.1), ap (λ k. k.cells) t.5); bounded = (c.requires.0, c.requires.1); staffed = subst (λ z. 0 < z.hands) (sym t.5) c.requires.2 }
