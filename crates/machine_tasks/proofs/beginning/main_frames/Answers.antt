use Rattle.std.proofs.Common.{List, [], ◌∷◌, ◌++◌, sym, ap, ◌∙◌}
use Rattle.std.specs.Prelude.{codes}
use Rattle.std.specs.Option.{option_map}
use Rattle.core_language.specs.Configurations.{Running, started}
use Rattle.core_programs.specs.Bodies.{function_of, rest}
use Rattle.core_programs.proofs.Functions.{function_found}
use Rattle.machine_values.specs.declared.binds.Bind.{Bind}
use Rattle.machine_values.specs.Reading.{env_of}
use Rattle.machine_tasks.specs.declared.tasks.Frame.{Frame}
use Rattle.machine_tasks.specs.Reading.{place_of}
use Rattle.machine_tasks.proofs.beginning.main_frames.Goals as goal

pub returns-in_ok-push-in-Some-clause-place : goal.returns-in_ok-push-in-Some-clause-place
returns-in_ok-push-in-Some-clause-place c =
    let nodes = c.args.program.now.nodes in
    let f = c.in-Some.function.now in
    let frame : Frame = record { node = f.first; binds = c.new-binds.result } in
    ap started (function_found nodes (codes "main") c.args.program.now.funcs ∙ ap (option_map (function_of nodes)) (sym c.in-Some.ensures.named))
    ∙ sym (ap (place_of nodes) (c.in_ok-push-in-Some.ensures.items ∙ ap (λ (fs : List Frame). fs ++ frame ∷ []) c.new-frames.ensures.items)
    ∙ ap (λ (bs : List Bind). Running (rest nodes f.first) (env_of bs) []) c.new-binds.ensures.items)

pub returns-in-None-clause-place : goal.returns-in-None-clause-place
returns-in-None-clause-place c =
    let nodes = c.args.program.now.nodes in
    ap started (function_found nodes (codes "main") c.args.program.now.funcs ∙ ap (option_map (function_of nodes)) (sym c.in-None.ensures.named))
    ∙ sym (ap (place_of nodes) c.new-frames.ensures.items)
