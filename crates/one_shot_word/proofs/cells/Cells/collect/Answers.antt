use Rattle.std.proofs.Common.{rules, ℕ, ◌≡◌, sym, subst, ap, ◌∙◌, ◌∷◌, None}
use Rattle.atomic_table.specs.Table.{rest}
use Rattle.cell_rules.specs.declared.view.View.{View}
use Rattle.cell_rules.specs.Words.{cell, chan_at, parcel_at, FULL, DONE}
use Rattle.cell_rules.specs.Plays.{CanCollect, Sat, noted, stowing, collecting}
use Rattle.one_shot_word.specs.Meaning.{means}
use Rattle.one_shot_word.proofs.Asked.{first_parcel}
use Rattle.one_shot_word.proofs.cells.Cells.collect.Goals as goal

pub returns-clause-ok : goal.returns-clause-ok
returns-clause-ok g c =
    let l = g.L.Load in
    let p = g.P.Parcel in
    let x = means l.meaning p.meaning in
    let n : ℕ = c.args.self.now.table.shared.key.cells in
    let v : View g.row.L.Denot (g.row.A.Denot × ℕ) = c.args.hand.now.seat.me.0 in
    let m : ℕ = c.args.number in
    let h : ℕ = chan_at (cell n m) in
    let a : ℕ = c.stow.result in
    let found : ℕ = c.collect_step-found.result in
    let hit : found ≡ FULL m = search rules in
    let t = c.collect_step-found.ensures.collected hit in
    let parcel : g.row.P.Denot = c.pick_parcel-parcel.result in
    let one-parcel : parcel ≡ t.0 = first_parcel _ _ _ _ _ _ (sym c.pick_parcel-parcel.ensures.parcel ∙ ap (λ (s : Sat g.row.L.Denot g.row.P.Denot (g.row.A.Denot × ℕ)). s.1) t.3) in
    let w1 : View g.row.L.Denot (g.row.A.Denot × ℕ) = noted h found (DONE m) (collecting m (x.tells t.0) c.args.by v) in
    let e2 : c.pick_parcel-parcel.new.seat.me ≡ (w1, (parcel_at (cell n m), None) ∷ c.args.hand.now.seat.me.1) = c.pick_parcel-parcel.ensures.me ∙ ap (λ (s : Sat g.row.L.Denot g.row.P.Denot (g.row.A.Denot × ℕ)). (s.0, (parcel_at (cell n m), None) ∷ rest s.1)) t.3 in
    let e3 : c.stow.new.seat.me ≡ (noted h a a (stowing m w1), c.args.hand.now.seat.me.1) = c.stow.ensures.me ∙ ap (λ (s : Sat g.row.L.Denot g.row.P.Denot (g.row.A.Denot × ℕ)). (noted h a a (stowing m s.0), rest s.1)) e2 in
    let back : t.0 ≡ parcel = sym one-parcel in
    (ap x.channel one-parcel ∙ t.1, subst (λ (z : g.row.P.Denot). CanCollect x v z) back t.2, (a, e3 ∙ (λ q. (noted h a a (stowing m (noted h (hit q) (DONE m) (collecting m (x.tells (back q)) c.args.by v))), c.requires.hand.1 q))))
