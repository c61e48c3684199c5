use Rattle.std.proofs.Common.{ap, codes, List, ◌∙◌}
use Rattle.core_programs.specs.declared.nodes.Func.{Func}
use Rattle.core_programs.specs.Bodies.{func_named}
use Rattle.core_programs.proofs.Functions.{begins_within}
use Rattle.core_programs.proofs.wellformed.Program.main.Goals as goal

pub returns-clause-first : goal.returns-clause-first
returns-clause-first c =
    begins_within c.args.self.now (codes "main") c.find_func.result c.parts-parts.ensures.formed.numbered
    (c.find_func.ensures ∙ ap (λ (fs : List Func). func_named (codes "main") fs) (c.as_slice.ensures ∙ ap (λ p. p.funcs) c.parts-parts.ensures.parts))
