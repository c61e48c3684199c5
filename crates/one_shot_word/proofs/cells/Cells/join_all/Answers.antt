use Rattle.std.proofs.Common.{◌≡◌, ℕ, suc, ◌<◌, ◌∷◌, List, ◌∙◌, sym, subst, ap, arith, All}
use Rattle.cell_rules.specs.Plays.{Sat}
use Rattle.one_shot_word.specs.declared.hand.Hand.{Hand}
use Rattle.one_shot_word.specs.Hands.{IsDone, gathered, together}
use Rattle.one_shot_word.proofs.Gathering.{first_out}
use Rattle.one_shot_word.proofs.cells.Cells.join_all.Goals as goal

pub loop-hands-init : goal.loop-hands-init
loop-hands-init g c =
    let Hands : Type 0 = List (Hand g.row.L.Denot g.row.P.Denot g.row.A.Denot) in
    let first : Hand g.row.L.Denot g.row.P.Denot g.row.A.Denot = c.remove-hand.result in
    let others : Hands = c.remove-hand.new.self in
    let whole : c.args.hands ≡ first ∷ others = first_out c.args.hands first c.remove-hand.ensures.item ∙ ap (λ (z : Hands). first ∷ z) (sym c.remove-hand.ensures.rest) in
    let all : All (IsDone c.args.self.now) (first ∷ others) = subst (λ (z : Hands). All (IsDone c.args.self.now) z) whole c.requires.hands in
    let here = (all 0 first (omega arith)).0 in
    (here.0, here.1, here.2, (λ k d lt. all (suc k) d (omega arith)), ap (λ (z : Hands). together z) (sym whole))

pub loop-hands-preserved : goal.loop-hands-preserved
loop-hands-preserved g c =
    let Hands : Type 0 = List (Hand g.row.L.Denot g.row.P.Denot g.row.A.Denot) in
    let inv = c.loop-hands.invariant in
    let v = c.loop-hands.hand.seat.me.0 in
    let first : Hand g.row.L.Denot g.row.P.Denot g.row.A.Denot = c.remove-other.result in
    let others : Hands = c.remove-other.new.self in
    let whole : c.loop-hands.hands ≡ first ∷ others = first_out c.loop-hands.hands first c.remove-other.ensures.item ∙ ap (λ (z : Hands). first ∷ z) (sym c.remove-other.ensures.rest) in
    let all : All (IsDone c.args.self.now) (first ∷ others) = subst (λ (z : Hands). All (IsDone c.args.self.now) z) whole inv.3 in
    let joined = c.join.ensures.1 in (
      c.join.ensures.0 ∙ inv.0,
      ap (λ (s : Sat g.row.L.Denot g.row.P.Denot (g.row.A.Denot × ℕ)). s.1) joined ∙ inv.1,
      subst (λ (s : Sat g.row.L.Denot g.row.P.Denot (g.row.A.Denot × ℕ)). 0 < s.0.parts) (sym joined) (omega (arith, inv.2)),
      (λ k d lt. all (suc k) d (omega arith)),
      ap (λ (s : Sat g.row.L.Denot g.row.P.Denot (g.row.A.Denot × ℕ)). gathered s.0 others) joined ∙ (ap (λ (z : Hands). gathered v z) (sym whole) ∙ inv.4),
    )
