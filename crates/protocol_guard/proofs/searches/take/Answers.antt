use Rattle.std.proofs.Common.{◌≡◌, ℕ, suc, ◌+◌, ◌*◌, ◌<◌, List, Bool, [], ◌∷◌, ◌++◌, length, get_or, set, true, Some, None, refl, sym, ap, ◌∙◌, subst, arith}
use Rattle.std.proofs.lemmas.Option.{none-some, same_Some}
use Rattle.std.proofs.lemmas.Grind.{common_steps}
use Rattle.protocol_guard.specs.declared.searches.Step.{Step}
use Rattle.protocol_guard.specs.Guards.{step}
use Rattle.protocol_guard.specs.Searches.{bit, Searched, unseen}
use Rattle.protocol_guard.proofs.Searching.{goes_on, finds, unseen_less}
use Rattle.protocol_guard.proofs.searches.take.Goals as goal

pub returns-in-None : goal.returns-in-None
returns-in-None c =
    let leads : step c.args.graph.now (get_or c.args.search.now.places.items c.args.at 0) c.args.turn ≡ None =
    ap (λ p. step c.args.graph.now p c.args.turn) (sym c.place_at-place.ensures) ∙ sym c.lead.ensures ∙ c.in-None.is in (
      goes_on c.args.graph.now c.args.start c.args.search.now.places.items c.args.search.now.steps.items c.args.search.now.seen.items (2 * c.args.at + bit c.args.turn) c.requires.search c.args.at c.args.turn
          c.requires.within refl (λ j goes. absurd (none-some j (sym leads ∙ goes))),
      omega arith,
    )

pub returns-in-Some-2 : goal.returns-in-Some-2
returns-in-Some-2 c =
    let leads : step c.args.graph.now (get_or c.args.search.now.places.items c.args.at 0) c.args.turn ≡ Some c.in-Some.next =
    ap (λ p. step c.args.graph.now p c.args.turn) (sym c.place_at-place.ensures) ∙ sym c.lead.ensures ∙ c.in-Some.is in (
      goes_on c.args.graph.now c.args.start c.args.search.now.places.items c.args.search.now.steps.items c.args.search.now.seen.items (2 * c.args.at + bit c.args.turn) c.requires.search c.args.at c.args.turn
          c.requires.within refl
          (λ j goes.
          let same : j ≡ c.in-Some.next = same_Some j c.in-Some.next (sym goes ∙ leads) in
          let (m, found) = c.requires.search.known c.in-Some.next (sym c.was_seen.ensures ∙ c.if-was_seen.true) in
          ((λ is. c.if-next-start.false (sym same ∙ is)), m, (found.0, found.1 ∙ sym same))),
      omega arith,
    )

pub returns-in_ok-find-in-Some-3 : goal.returns-in_ok-find-in-Some-3
returns-in_ok-find-in-Some-3 c =
    let leads : step c.args.graph.now (get_or c.args.search.now.places.items c.args.at 0) c.args.turn ≡ Some c.in-Some.next =
    ap (λ p. step c.args.graph.now p c.args.turn) (sym c.place_at-place.ensures) ∙ sym c.lead.ensures ∙ c.in-Some.is in
    let inside : c.in-Some.next < length c.args.graph.now = c.requires.closed (get_or c.args.search.now.places.items c.args.at 0) c.args.turn c.in-Some.next leads in
    let marks = c.requires.search.marks in
    let less = unseen_less c.args.search.now.seen.items c.in-Some.next (omega (arith, inside, marks)) (sym c.was_seen.ensures ∙ c.if-was_seen.false) in
    let seen : unseen c.find.new.search.seen.items ≡ unseen (set c.args.search.now.seen.items c.in-Some.next true) = ap unseen c.in_ok-find-in-Some-3.ensures.seen in
    let places : length c.find.new.search.places.items ≡ length c.args.search.now.places.items + 1 =
    ap (λ (ps : List ℕ). length ps) c.in_ok-find-in-Some-3.ensures.places ∙ grind (arith, common_steps) in (
      subst (λ (ps : List ℕ). Searched c.args.graph.now c.args.start ps c.find.new.search.steps.items c.find.new.search.seen.items (suc (2 * c.args.at + bit c.args.turn))) (sym c.in_ok-find-in-Some-3.ensures.places)
          (subst (λ (ss : List Step). Searched c.args.graph.now c.args.start (c.args.search.now.places.items ++ c.in-Some.next ∷ []) ss c.find.new.search.seen.items (suc (2 * c.args.at + bit c.args.turn))) (sym c.in_ok-find-in-Some-3.ensures.steps)
          (subst (λ (bs : List Bool). Searched c.args.graph.now c.args.start (c.args.search.now.places.items ++ c.in-Some.next ∷ []) (c.args.search.now.steps.items ++ record { from = c.args.at; turn = c.args.turn } ∷ []) bs (suc (2 * c.args.at + bit c.args.turn)))
          (sym c.in_ok-find-in-Some-3.ensures.seen)
          (finds c.args.graph.now c.args.start c.args.search.now.places.items c.args.search.now.steps.items c.args.search.now.seen.items (2 * c.args.at + bit c.args.turn) c.requires.search c.args.at c.args.turn
          c.in-Some.next c.requires.within refl leads c.if-next-start.false inside))),
      omega (arith, less, seen, places),
    )
