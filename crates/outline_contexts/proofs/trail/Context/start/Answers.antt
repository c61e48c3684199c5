use Rattle.std.proofs.Common.{[], sym, ◌∙◌}
use Rattle.core_programs.specs.Bodies.{function_of}
use Rattle.outline_language.specs.Contexts.{start}
use Rattle.outline_obligations.proofs.Rows.{same_ok}
use Rattle.outline_contexts.specs.Trails.{context_in}
use Rattle.outline_contexts.proofs.Begun.{begins, never_fails}
use Rattle.outline_contexts.proofs.trail.Context.start.Goals as goal

pub unreachable-requires : goal.unreachable-requires
unreachable-requires c = never_fails (function_of [] c.args.func.now) c.requires c.in-Err-Why.field-0 c.in-Err-Why.field-0-0 c.in-Err-Why.field-0-is c.in-Err-Why.ensures.err

pub returns-in-Ok : goal.returns-in-Ok
returns-in-Ok c =
    same_ok (context_in c.begin.new.self) (start (function_of [] c.args.func.now)) (sym c.in-Ok.ensures.ok ∙ begins (function_of [] c.args.func.now) c.requires)
