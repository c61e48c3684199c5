use Rattle.std.proofs.Common.{Result, sym, subst}
use Rattle.std.proofs.lemmas.Result.{err_from_is_err_and}
use Rattle.core_programs.specs.Bodies.{arms_opened}
use Rattle.outline_language.specs.Nameless.{Res}
use Rattle.outline_language.specs.Contexts.{Why, WrongForm, Context, or_why}
use Rattle.outline_obligations.specs.Reasons.{IsReason}
use Rattle.outline_obligations.proofs.Reasons.{then_ok}
use Rattle.outline_walk.specs.Forms.{arm_res}
use Rattle.outline_contexts.specs.Trails.{context_in}
use Rattle.value_rules.specs.Arms.{bound_arm}
use Rattle.value_rules.proofs.arms.enter_arm.Goals as goal

pub returns-in_err-bind_arm-clause-err : goal.returns-in_err-bind_arm-clause-err
returns-in_err-bind_arm-clause-err c =
    let ctx = context_in c.args.ctx.now in
    let p = err_from_is_err_and c.from_residual-in_err-bind_arm.result c.from_residual-in_err-bind_arm.ensures.1 in
    rw (p.1, p.2) (λ at. subst (λ (r : Result Context Why). IsReason r c.in_err-bind_arm.field-0.0)
    (sym (then_ok (or_why (arm_res ctx c.args.name.now c.args.number) WrongForm) c.in_ok-res.res (λ (res : Res). bound_arm ctx (arms_opened c.args.arms.now at) c.args.number res) c.in_ok-res.ensures.ok))
    (c.in_err-bind_arm.ensures.err at))
