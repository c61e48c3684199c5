use Rattle.std.proofs.Common.{◌≡◌, ◌<◌, ◌≤◌, ⊎_elim, sym, ◌∙◌, subst, arith}
use Rattle.std.proofs.lemmas.Bool.{cases_lt}
use Rattle.std.proofs.lemmas.Option.{none-some}
use Rattle.protocol_guard.specs.Ranks.{StaysDown}
use Rattle.protocol_guard.proofs.Tables.{no_step}
use Rattle.protocol_guard.proofs.ranks.never_rises.Goals as goal

pub places-preserved : goal.places-preserved
places-preserved c = λ i lt. ⊎_elim
    (λ (before : i < c.places.place). c.places.invariant i before)
    (λ (not : c.places.place ≤ i).
    let same : i ≡ c.places.place = omega (arith, lt, not) in
    subst (StaysDown c.args.graph.now c.args.ranks.now) (sym same) (c.stays_down.ensures c.if-not-stays_down.false))
    (cases_lt i c.places.place)

pub returns : goal.returns
returns c = λ done i. ⊎_elim
    (λ (before : i < c.places.place). c.places.invariant i before)
    (λ (not : c.places.place ≤ i) turn j leads.
    let end = c.places-test.false in
    absurd (none-some j (sym (no_step c.args.graph.now i turn (omega (arith, end, not))) ∙ leads)))
    (cases_lt i c.places.place)
