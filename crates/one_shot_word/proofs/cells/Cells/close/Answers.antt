use Rattle.std.proofs.Common.{ℕ, ◌<◌, ◌∙◌, sym, subst, ap}
use Rattle.cell_rules.specs.Closing.{HasNothing, AtRest}
use Rattle.cell_rules.specs.Plays.{Sat}
use Rattle.one_shot_word.specs.Meaning.{means}
use Rattle.one_shot_word.proofs.Gathering.{together_parts, together_nothing, some_hands}
use Rattle.one_shot_word.proofs.cells.Cells.close.Goals as goal

pub join_all-hand-requires-clause-some : goal.join_all-hand-requires-clause-some
join_all-hand-requires-clause-some g c = some_hands c.args.hands (subst (λ z. 0 < z) (sym c.requires.all) c.args.self.staffed)

pub give_all-requires-clause-hand : goal.give_all-requires-clause-hand
give_all-requires-clause-hand g c =
    let view = c.join_all-hand.ensures.view in (
      c.join_all-hand.ensures.table,
      ap (λ (s : Sat g.row.L.Denot g.row.P.Denot (g.row.A.Denot × ℕ)). s.0.parts) view ∙ (together_parts c.args.hands ∙ c.requires.all),
      subst (λ (s : Sat g.row.L.Denot g.row.P.Denot (g.row.A.Denot × ℕ)). HasNothing s.0) (sym view) (together_nothing c.args.self c.args.hands c.requires.hands),
    )

pub returns-clause-ok : goal.returns-clause-ok
returns-clause-ok g c =
    let l = g.L.Load in
    let p = g.P.Parcel in
    let x = means l.meaning p.meaning in
    let key = c.args.self.table.shared.key in
    subst (λ (s : Sat g.row.L.Denot g.row.P.Denot (g.row.A.Denot × ℕ)). AtRest x (key.program, key.rounds) s.0 c.give_all.result.loads c.give_all.result.parcels) c.join_all-hand.ensures.view c.give_all.ensures
