use Rattle.std.proofs.Common.{◌≡◌, drop, map}
use Rattle.core_programs.specs.Bodies.{param_of}
use Rattle.outline_contexts.specs.Starting.{with_params}
use Rattle.outline_contexts.specs.Trails.{context_in}
use Rattle.outline_contexts.proofs.trail.Context.start_params.Given as goal

abbrev pub invariant-loop-param : goal.invariant-loop-param
invariant-loop-param l =
    with_params l.ints (map param_of (drop l.param-index l.params)) (context_in l.self) ≡ with_params l.ints (map param_of l.params) (context_in l.fn.self)
