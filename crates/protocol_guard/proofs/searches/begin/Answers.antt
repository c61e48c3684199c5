use Rattle.std.proofs.Common.{◌≡◌, ℕ, List, Bool, [], ◌∷◌, ◌++◌, length, set, replicate, false, true, sym, ap, ◌∙◌, subst}
use Rattle.protocol_guard.specs.declared.searches.Step.{Step}
use Rattle.protocol_guard.specs.Searches.{Searched}
use Rattle.protocol_guard.proofs.Searching.{begun}
use Rattle.protocol_guard.proofs.searches.begin.Goals as goal

pub returns : goal.returns
returns c =
    let places : c.push.new.self.items ≡ c.args.start ∷ [] = c.in_ok-push.ensures.items ∙ ap (λ (ps : List ℕ). ps ++ c.args.start ∷ []) c.new-places.ensures.items in
    let seen : c.in_ok-seen.seen.items ≡ replicate (length c.args.graph.now) false = c.in_ok-seen.ensures in
    subst (λ (ps : List ℕ). Searched c.args.graph.now c.args.start ps c.new-steps.result.items (set c.in_ok-seen.seen.items c.args.start true) 0) (sym places)
    (subst (λ (ss : List Step). Searched c.args.graph.now c.args.start (c.args.start ∷ []) ss (set c.in_ok-seen.seen.items c.args.start true) 0) (sym c.new-steps.ensures.items)
    (subst (λ (bs : List Bool). Searched c.args.graph.now c.args.start (c.args.start ∷ []) [] (set bs c.args.start true) 0) (sym seen) (begun c.args.graph.now c.args.start c.requires)))
