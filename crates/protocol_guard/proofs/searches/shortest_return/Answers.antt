use Rattle.std.proofs.Common.{◌≡◌, suc, ◌+◌, ◌*◌, ◌<◌, ◌≤◌, List, [], ◌∷◌, ◌++◌, length, refl, sym, ap, ◌∙◌, subst, arith}
use Rattle.protocol_guard.specs.declared.searches.Step.{Step}
use Rattle.protocol_guard.specs.declared.searches.Search.{Search}
use Rattle.protocol_guard.specs.Guards.{IsShortestReturn}
use Rattle.protocol_guard.specs.Searches.{bit, way_to, IsSearch, Takes}
use Rattle.protocol_guard.proofs.Searching.{none_returns, returns_shortest}
use Rattle.protocol_guard.proofs.searches.shortest_return.Goals as goal

pub returns-then-branch : goal.returns-then-branch
returns-then-branch c =
    let takes = subst (Takes c.args.graph.now c.args.start c.search.search c.take.new.search c.search.at c.search.turn) c.if-branch.true c.in_ok-take.ensures in
    let within : c.search.at < length c.search.search.places.items = omega (arith, c.search-test.true, c.len.ensures, c.search.search.places.ok) in
    let steps : c.as_slice.result.now ≡ c.search.search.steps.items = c.as_slice.ensures.value ∙ ap (λ (s : Search). s.steps.items) takes.0 in
    subst (IsShortestReturn c.args.graph.now c.args.start) (sym (c.in_ok-way.ensures ∙ ap (λ (ss : List Step). way_to ss c.search.at ++ c.search.turn ∷ []) steps))
    (returns_shortest c.args.graph.now c.args.start c.search.search.places.items c.search.search.steps.items c.search.search.seen.items (2 * c.search.at + bit c.search.turn) c.search.invariant c.search.at c.search.turn
    within refl takes.1)

pub search-preserved : goal.search-preserved
search-preserved c =
    let takes = subst (Takes c.args.graph.now c.args.start c.search.search c.take.new.search c.search.at c.search.turn) c.if-branch.false c.in_ok-take.ensures in
    let next : suc (2 * c.search.at + bit c.search.turn) ≡ 2 * c.place_after-at.result + bit c.turn_after-turn.result = omega (arith, c.place_after-at.ensures, c.turn_after-turn.ensures) in
    subst (IsSearch c.args.graph.now c.args.start c.take.new.search) next takes.0

pub returns : goal.returns
returns c =
    let all : 2 * length c.search.search.places.items ≤ 2 * c.search.at + bit c.search.turn = omega (arith, c.search-test.false, c.len.ensures, c.search.search.places.ok) in
    none_returns c.args.graph.now c.args.start c.search.search.places.items c.search.search.steps.items c.search.search.seen.items (2 * c.search.at + bit c.search.turn) c.search.invariant all
