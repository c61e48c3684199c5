use Rattle.std.proofs.Common.{List, ◌∷◌, [], map, sym, ◌∙◌}
use Rattle.std.proofs.lemmas.Result.{err_from_is_err_and}
use Rattle.chan_syntax.specs.declared.resources.Param.{Param}
use Rattle.core_programs.specs.Bodies.{param_of}
use Rattle.outline_language.specs.Contexts.{Context}
use Rattle.outline_obligations.proofs.Reasons.{reason_to}
use Rattle.outline_obligations.proofs.Steps.{step_ok, step_err}
use Rattle.outline_contexts.specs.Starting.{with_params}
use Rattle.outline_contexts.specs.Trails.{context_in}
use Rattle.outline_contexts.proofs.Adding.{one_param}
use Rattle.outline_contexts.proofs.trail.Context.start_params.Goals as goal

pub loop-param-preserved : goal.loop-param-preserved
loop-param-preserved c =
    sym (step_ok (λ (ctx : Context) (ps : List Param). with_params c.args.ints.now (map param_of ps) ctx) (λ (ctx : Context) (p : Param). with_params c.args.ints.now (param_of p ∷ []) ctx) (λ s p ps. one_param c.args.ints.now s (param_of p) (map param_of ps))
    (context_in c.loop-param.self) (context_in c.start_param.new.self) c.args.params.now c.loop-param.param-index c.param-item.result c.loop-param-test.true c.param-item.is c.in_ok-start_param.ensures.ok)
    ∙ c.loop-param.invariant

pub returns-in_err-start_param-clause-err : goal.returns-in_err-start_param-clause-err
returns-in_err-start_param-clause-err c =
    let p = err_from_is_err_and c.from_residual.result c.from_residual.ensures.1 in
    rw (p.1, p.2) (reason_to _ _ (λ w e. sym c.loop-param.invariant
    ∙ step_err (λ (ctx : Context) (ps : List Param). with_params c.args.ints.now (map param_of ps) ctx) (λ (ctx : Context) (q : Param). with_params c.args.ints.now (param_of q ∷ []) ctx) (λ s q ps. one_param c.args.ints.now s (param_of q) (map param_of ps))
    (context_in c.loop-param.self) w c.args.params.now c.loop-param.param-index c.param-item.result c.loop-param-test.true c.param-item.is e) _ c.in_err-start_param.ensures.err)
