use Rattle.std.proofs.Common.{◌≡◌, List, Bool, true, [], ◌∷◌, ◌++◌, ap, ◌∙◌, subst}
use Rattle.outline_language.specs.Nameless.{Shape}
use Rattle.outline_language.specs.Contexts.{hold}
use Rattle.outline_contexts.specs.Trails.{Trail, IsAfter, context_in}
use Rattle.outline_contexts.proofs.Trails.{trail, more_entries}
use Rattle.outline_contexts.proofs.Keeping.{kept_more, held_so}
use Rattle.outline_contexts.proofs.trail.Context.hold.Goals as goal

pub invariant_of-self-2 : goal.invariant_of-self-2
invariant_of-self-2 c =
    let t = trail c.self.inside.ints c.self.inside.hyps c.self.inside.names c.self.inside.shapes.items c.self.inside.taken.items in
    kept_more t c.self.inside.held.items c.self.invariant c.push.new.self c.args.name.now c.push-3.new.self.items c.args.shape
    c.in_ok-push.ensures.ok
    (c.in_ok-push-3.ensures.items ∙ ap (λ (ss : List Shape). ss ++ c.args.shape ∷ []) c.in_ok-reserve.ensures.items)
    c.push-2.new.self.items
    (c.in_ok-push-2.ensures.items ∙ ap (λ (hs : List Bool). hs ++ true ∷ []) c.in_ok-reserve-2.ensures.items)

pub returns-clause-context : goal.returns-clause-context
returns-clause-context c =
    let t = trail c.self.inside.ints c.self.inside.hyps c.self.inside.names c.self.inside.shapes.items c.self.inside.taken.items in
    subst (λ (u : Trail). context_in (trail t.ints t.hyps c.push.new.self c.push-3.new.self.items t.taken) ≡ hold (context_in u) c.args.name.now c.args.shape) c.self.view_is
    (held_so t c.self.inside.held.items c.self.invariant c.push.new.self c.args.name.now c.push-3.new.self.items c.args.shape
    c.in_ok-push.ensures.ok
    (c.in_ok-push-3.ensures.items ∙ ap (λ (ss : List Shape). ss ++ c.args.shape ∷ []) c.in_ok-reserve.ensures.items))

pub returns-clause-after : goal.returns-clause-after
returns-clause-after c =
    let t = trail c.self.inside.ints c.self.inside.hyps c.self.inside.names c.self.inside.shapes.items c.self.inside.taken.items in
    subst (λ (u : Trail). IsAfter u (trail t.ints t.hyps c.push.new.self c.push-3.new.self.items t.taken)) c.self.view_is
    (more_entries t c.push.new.self c.args.name.now c.push-3.new.self.items c.args.shape
    c.in_ok-push.ensures.ok
    (c.in_ok-push-3.ensures.items ∙ ap (λ (ss : List Shape). ss ++ c.args.shape ∷ []) c.in_ok-reserve.ensures.items))
