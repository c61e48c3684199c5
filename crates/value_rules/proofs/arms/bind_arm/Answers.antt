use Rattle.std.proofs.Common.{Result, refl, sym, ◌∙◌, subst}
use Rattle.std.proofs.lemmas.Option.{slice_get_read}
use Rattle.std.proofs.lemmas.Result.{err_from_is_err_and}
use Rattle.outline_language.specs.Contexts.{Why, Context}
use Rattle.outline_obligations.specs.Reasons.{IsReason}
use Rattle.outline_contexts.specs.Trails.{context_in}
use Rattle.value_rules.proofs.Tried.{bound_there, bound_past}
use Rattle.value_rules.proofs.arms.bind_arm.Goals as goal

pub returns-in_ok-bind-in-Some-clause-ok : goal.returns-in_ok-bind-in-Some-clause-ok
returns-in_ok-bind-in-Some-clause-ok c = λ at.
    let is = slice_get_read c.args.arms.now _ c.args.number c.in-Some.arm.now refl c.in-Some.ensures.lookup.3.0 (c.in-Some.ensures.lookup.3.1 _) in
    bound_there at (context_in c.args.ctx.now) c.args.res.now c.args.arms.now c.args.number c.in-Some.arm.now is ∙ c.in_ok-bind-in-Some.ensures.ok

pub returns-in_err-bind-in-Some-clause-err : goal.returns-in_err-bind-in-Some-clause-err
returns-in_err-bind-in-Some-clause-err c =
    let is = slice_get_read c.args.arms.now _ c.args.number c.in-Some.arm.now refl c.in-Some.ensures.lookup.3.0 (c.in-Some.ensures.lookup.3.1 _) in
    let p = err_from_is_err_and c.from_residual.result c.from_residual.ensures.1 in
    rw (p.1, p.2) (λ at. subst (λ (r : Result Context Why). IsReason r c.in_err-bind-in-Some.field-0.0)
    (sym (bound_there at (context_in c.args.ctx.now) c.args.res.now c.args.arms.now c.args.number c.in-Some.arm.now is)) c.in_err-bind-in-Some.ensures.err)

pub returns-in-None-clause-err : goal.returns-in-None-clause-err
returns-in-None-clause-err c = λ at. bound_past at (context_in c.args.ctx.now) c.args.res.now c.args.arms.now c.args.number c.in-None.ensures.lookup.3
