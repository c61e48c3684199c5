use Rattle.std.proofs.Common.{subst}
use Rattle.outline_contexts.specs.Trails.{Trail, IsAfter}
use Rattle.outline_contexts.proofs.Trails.{trail, more_ints}
use Rattle.outline_contexts.proofs.trail.Context.add_int.Goals as goal

pub returns-clause-after : goal.returns-clause-after
returns-clause-after c =
    let t = trail c.self.inside.ints c.self.inside.hyps c.self.inside.names c.self.inside.shapes.items c.self.inside.taken.items in
    subst (λ (u : Trail). IsAfter u (trail c.push.new.self t.hyps t.names t.shapes t.taken)) c.self.view_is
    (more_ints t c.push.new.self _ c.in_ok-push.ensures.ok)
