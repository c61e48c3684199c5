use Rattle.std.proofs.Common.{◌<◌, ◌++◌, ◌∷◌, [], Bool, List, None, Some, sym, ap, ◌∙◌, subst}
use Rattle.outline_language.specs.Contexts.{Context}
use Rattle.outline_walk.specs.declared.walking.Later.{Later}
use Rattle.outline_walk.specs.Forms.{form_at}
use Rattle.outline_walk.specs.Refusals.{found}
use Rattle.outline_walk.specs.Walking.{IsTried, Walking, left_size}
use Rattle.outline_walk.proofs.Walks.{opens_in, enters, stops, size_met}
use Rattle.outline_walk.proofs.walking.enter.Goals as goal

pub returns-in_ok-push-clause-walks : goal.returns-in_ok-push-clause-walks
returns-in_ok-push-clause-walks g c = λ whole walk.
    let s = g.C.Outlining.setting c.args.outline.now in
    let x = c.node-node.result.now in
    let new = g.C.Outlining.context c.is_met.new.outline in
    let met = subst (λ (b : Bool). IsTried b s (g.C.Outlining.context c.args.outline.now) new (form_at s x) (found c.args.first.now) (found c.is_met.new.first)) c.if-branch.true c.in_ok-is_met.ensures.tried in
    let saved = c.in_ok-save.ensures.saved ∙ ap (λ (ss : List Context). ss ++ new ∷ []) c.is_met.ensures.saved in
    subst (λ (ls : List Later). Walking s whole (found c.is_met.new.first) (g.C.Outlining.context c.save.new.self) (g.C.Outlining.saved c.save.new.self) None ls) (sym c.in_ok-push.ensures.items)
    (subst (λ (ss : List Context). Walking s whole (found c.is_met.new.first) (g.C.Outlining.context c.save.new.self) ss None (c.args.later.now.items ++ record { number = c.args.number; turn = 0 } ∷ [])) (sym saved)
    (subst (λ (k : Context). Walking s whole (found c.is_met.new.first) k (g.C.Outlining.saved c.args.outline.now ++ new ∷ []) None (c.args.later.now.items ++ record { number = c.args.number; turn = 0 } ∷ [])) (sym c.save.ensures.context)
    (enters s whole (found c.args.first.now) (g.C.Outlining.context c.args.outline.now) (g.C.Outlining.saved c.args.outline.now) c.args.number x c.args.later.now.items walk
    (opens_in s c.args.program.now c.args.number x c.requires.setting c.node-node.ensures.opens) (found c.is_met.new.first) new met)))

pub returns-in_ok-push-clause-smaller : goal.returns-in_ok-push-clause-smaller
returns-in_ok-push-clause-smaller g c =
    let s = g.C.Outlining.setting c.args.outline.now in
    subst (λ (ls : List Later). left_size s None ls < left_size s (Some c.args.number) c.args.later.now.items) (sym c.in_ok-push.ensures.items) (size_met s c.args.number c.args.later.now.items)

pub returns-else-branch-clause-walks : goal.returns-else-branch-clause-walks
returns-else-branch-clause-walks g c = λ whole walk.
    let s = g.C.Outlining.setting c.args.outline.now in
    let x = c.node-node.result.now in
    let new = g.C.Outlining.context c.is_met.new.outline in
    let failed = subst (λ (b : Bool). IsTried b s (g.C.Outlining.context c.args.outline.now) new (form_at s x) (found c.args.first.now) (found c.is_met.new.first)) c.if-branch.false c.in_ok-is_met.ensures.tried in
    subst (λ (ss : List Context). Walking s whole (found c.is_met.new.first) new ss None c.args.later.now.items) (sym c.is_met.ensures.saved)
    (stops s whole (found c.args.first.now) (g.C.Outlining.context c.args.outline.now) (g.C.Outlining.saved c.args.outline.now) c.args.number x c.args.later.now.items walk
    (opens_in s c.args.program.now c.args.number x c.requires.setting c.node-node.ensures.opens) (found c.is_met.new.first) new failed)
