use Rattle.std.proofs.Common.{◌≡◌, drop}
use Rattle.outline_language.specs.Contexts as spec
use Rattle.outline_obligations.specs.Cursors.{cursor_at}
use Rattle.outline_contexts.specs.Trails.{context_in}
use Rattle.value_supplies.proofs.equalities.equate_all.Given as goal

abbrev pub invariant-loop-index : goal.invariant-loop-index
invariant-loop-index l =
    spec.equate_all (context_in l.ctx) (drop l.index l.left) (drop l.index l.right) (cursor_at l.proof l.now)
    ≡ spec.equate_all (context_in l.ctx) l.left l.right (cursor_at l.proof l.fn.taken)
