use Rattle.std.proofs.Common.{◌≡◌, ℕ, ◌+◌}
use Rattle.outline_language.specs.Contexts as spec
use Rattle.outline_obligations.specs.Cursors.{cursor_at}
use Rattle.outline_contexts.specs.Trails.{context_in}
use Rattle.outline_instances.proofs.TakenInstances.{behind}
use Rattle.outline_instances.proofs.supplying.take_instances.Given as goal

abbrev pub invariant-loop-binder : goal.invariant-loop-binder
invariant-loop-binder l =
    (rest : ℕ) → l._binder + rest ≡ l.binders
    → behind l.forms (spec.take_instances (context_in l.ctx) rest (cursor_at l.proof l.now)) ≡ spec.take_instances (context_in l.ctx) l.binders (cursor_at l.proof l.fn.taken)
