use Rattle.std.proofs.Common.{◌≡◌, List, map, Option, Some, None, sym, ap, ◌∙◌}
use Rattle.std.specs.Option.{option_map}
use Rattle.core_language.specs.Programs.{Function, function_named}
use Rattle.core_language.specs.Configurations.{Running, kept}
use Rattle.core_language.specs.Acts.{params_env, entered}
use Rattle.chan_syntax.specs.declared.resources.Param.{Param}
use Rattle.core_programs.specs.Bodies.{func_named, function_of, param_of, rest}
use Rattle.core_programs.proofs.Functions.{function_found}
use Rattle.machine_values.specs.Reading.{value_as}
use Rattle.machine_tasks.proofs.entering.enter.Goals as goal

pub returns-in_ok-binds-in-Some-clause-entered : goal.returns-in_ok-binds-in-Some-clause-entered
returns-in_ok-binds-in-Some-clause-entered c = λ callers.
    let nodes = c.args.program.now.nodes in
    let funcs = c.args.program.now.funcs in
    let f = c.in-Some.function.now in
    let vs = map value_as c.args.values.items in
    let named : func_named c.args.func.now funcs ≡ Some f = sym c.in-Some.ensures.named in
    let found : function_named c.args.func.now (map (function_of nodes) funcs) ≡ Some (function_of nodes f) = function_found nodes c.args.func.now funcs ∙ ap (option_map (function_of nodes)) named in
    ap (λ (o : Option Function). entered o vs callers) found
    ∙ ap (λ e. Running (rest nodes f.first) e callers)
    (sym (c.keep.ensures.kept ∙ ap (kept (rest nodes f.first)) (c.in_ok-binds-in-Some.ensures.binds ∙ ap (λ (ps : List Param). params_env (map param_of ps) vs) c.as_slice.ensures)))

pub returns-in-None-clause-entered : goal.returns-in-None-clause-entered
returns-in-None-clause-entered c = λ callers.
    let nodes = c.args.program.now.nodes in
    let funcs = c.args.program.now.funcs in
    let vs = map value_as c.args.values.items in
    let named : func_named c.args.func.now funcs ≡ None = sym c.in-None.ensures.named in
    ap (λ (o : Option Function). entered o vs callers) (function_found nodes c.args.func.now funcs ∙ ap (option_map (function_of nodes)) named)

pub returns-in_ok-binds-in-Some-clause-ends : goal.returns-in_ok-binds-in-Some-clause-ends
returns-in_ok-binds-in-Some-clause-ends c = λ test passes. c.keep.ensures.ends test (c.in_ok-binds-in-Some.ensures.ends test passes)
