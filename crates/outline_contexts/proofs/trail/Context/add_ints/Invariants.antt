use Rattle.std.proofs.Common.{◌≡◌, drop}
use Rattle.outline_language.specs.Contexts.{add_ints}
use Rattle.outline_contexts.specs.Trails.{IsAfter, context_in}
use Rattle.outline_contexts.proofs.trail.Context.add_ints.Given as goal

abbrev pub invariant-loop-name : goal.invariant-loop-name
invariant-loop-name l = record {
  rest : add_ints (context_in l.self) (drop l.name-index l.names) ≡ add_ints (context_in l.fn.self) l.names;
  after : IsAfter l.fn.self l.self;
}
