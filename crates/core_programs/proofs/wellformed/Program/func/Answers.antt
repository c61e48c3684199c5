use Rattle.std.proofs.Common.{ap, List, ◌∙◌}
use Rattle.core_programs.specs.declared.nodes.Func.{Func}
use Rattle.core_programs.specs.Bodies.{func_named}
use Rattle.core_programs.proofs.Functions.{begins_within}
use Rattle.core_programs.proofs.wellformed.Program.func.Goals as goal

pub returns-clause-first : goal.returns-clause-first
returns-clause-first c =
    begins_within c.args.self.now c.args.name.now c.find_indexed.result c.parts-parts.ensures.formed.numbered
    (c.find_indexed.ensures ∙ ap (λ (fs : List Func). func_named c.args.name.now fs) (c.as_slice.ensures ∙ ap (λ p. p.funcs) c.parts-parts.ensures.parts))
