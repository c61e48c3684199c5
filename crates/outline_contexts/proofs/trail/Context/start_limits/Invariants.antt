use Rattle.std.proofs.Common.{◌≡◌, drop, map, flat_map}
use Rattle.nameless_forms.specs.Limits.{limit_of}
use Rattle.outline_language.specs.Nameless.{forms_of_limit}
use Rattle.outline_language.specs.Contexts.{add_hyps}
use Rattle.outline_contexts.specs.Trails.{context_in}
use Rattle.outline_contexts.proofs.trail.Context.start_limits.Given as goal

abbrev pub invariant-loop-limit : goal.invariant-loop-limit
invariant-loop-limit l =
    add_hyps (context_in l.self) (flat_map forms_of_limit (map limit_of (drop l.limit-index l.limits)))
    ≡ add_hyps (context_in l.fn.self) (flat_map forms_of_limit (map limit_of l.limits))
