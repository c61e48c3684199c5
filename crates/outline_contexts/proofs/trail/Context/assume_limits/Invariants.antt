use Rattle.std.proofs.Common.{◌≡◌, drop, map, flat_map}
use Rattle.nameless_forms.specs.Limits.{limit_of}
use Rattle.outline_language.specs.Contexts.{add_hyps}
use Rattle.outline_contexts.specs.Growing.{limit_forms}
use Rattle.outline_contexts.specs.Trails.{IsAfter, context_in}
use Rattle.outline_contexts.proofs.trail.Context.assume_limits.Given as goal

abbrev pub invariant-loop-limit : goal.invariant-loop-limit
invariant-loop-limit l = record {
  rest : add_hyps (context_in l.self) (flat_map (limit_forms l.instances) (map limit_of (drop l.limit-index l.limits)))
      ≡ add_hyps (context_in l.fn.self) (flat_map (limit_forms l.instances) (map limit_of l.limits));
  after : IsAfter l.fn.self l.self;
}
