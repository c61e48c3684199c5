use Rattle.std.proofs.Common.{◌≡◌, drop, map, flat_map}
use Rattle.nameless_forms.specs.Limits.{limit_of}
use Rattle.outline_language.specs.Contexts.{oblige_all}
use Rattle.outline_obligations.specs.Cursors.{cursor_at}
use Rattle.outline_contexts.specs.Growing.{limit_forms}
use Rattle.outline_contexts.specs.Trails.{context_in}
use Rattle.outline_instances.proofs.limits.oblige_limits.Given as goal

abbrev pub invariant-loop-limit : goal.invariant-loop-limit
invariant-loop-limit l =
    oblige_all (context_in l.ctx) (flat_map (limit_forms l.forms) (map limit_of (drop l.limit-index l.limits))) (cursor_at l.proof l.now)
    ≡ oblige_all (context_in l.ctx) (flat_map (limit_forms l.forms) (map limit_of l.limits)) (cursor_at l.proof l.fn.taken)
