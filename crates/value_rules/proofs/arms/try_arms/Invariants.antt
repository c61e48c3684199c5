use Rattle.std.proofs.Common.{◌≡◌, ℕ, drop}
use Rattle.core_language.specs.Programs.{Body}
use Rattle.outline_contexts.specs.Trails.{context_in}
use Rattle.value_rules.proofs.Tried.{bound_from, Decides}
use Rattle.value_rules.proofs.arms.try_arms.Given as goal

abbrev pub invariant-loop-index : goal.invariant-loop-index
invariant-loop-index l = record {
  stays : l.ctx ≡ l.fn.ctx;
  decides : (at : ℕ → Body)
      → Decides at (bound_from at (context_in l.fn.ctx) (drop l.index l.resources) (drop l.index l.arms)) (bound_from at (context_in l.fn.ctx) l.resources l.arms);
}
