use Rattle.std.proofs.Common.{List, Result, sym, ◌∙◌, subst}
use Rattle.std.proofs.lemmas.Result.{err_from_is_err_and}
use Rattle.outline_language.specs.Contexts.{Why, Context}
use Rattle.outline_obligations.specs.Reasons.{IsReason}
use Rattle.outline_contexts.specs.Trails.{context_in}
use Rattle.value_rules.proofs.Tried.{not_as_many, each_arm}
use Rattle.value_rules.proofs.arms.meet_match.Goals as goal

pub returns-then-resources-arms-clause-err : goal.returns-then-resources-arms-clause-err
returns-then-resources-arms-clause-err c = λ at.
    not_as_many at (context_in c.args.ctx.now) c.args.name.now c.args.arms.now c.in_ok-shape.shape (context_in c.take.new.self) c.in_ok-shape.ensures.ok
    c.in-Some.resources.now (sym c.in-Some.ensures) c.if-resources-arms.true

pub returns-in_err-try_arms-in-Some-clause-err : goal.returns-in_err-try_arms-in-Some-clause-err
returns-in_err-try_arms-in-Some-clause-err c =
    let p = err_from_is_err_and c.from_residual-in_err-try_arms-in-Some.result c.from_residual-in_err-try_arms-in-Some.ensures.1 in
    rw (p.1, p.2) (λ at. subst (λ (r : Result (List Context) Why). IsReason r c.in_err-try_arms-in-Some.field-0.0)
    (sym (each_arm at (context_in c.args.ctx.now) c.args.name.now c.args.arms.now c.in_ok-shape.shape (context_in c.take.new.self) c.in_ok-shape.ensures.ok
    c.in-Some.resources.now (sym c.in-Some.ensures) c.if-resources-arms.false))
    (c.in_err-try_arms-in-Some.ensures.err at))

pub returns-in-Some-clause-ok : goal.returns-in-Some-clause-ok
returns-in-Some-clause-ok c = λ at.
    let each = c.in_ok-try_arms-in-Some.ensures.ok at in (
      each.0,
      each_arm at (context_in c.args.ctx.now) c.args.name.now c.args.arms.now c.in_ok-shape.shape (context_in c.take.new.self) c.in_ok-shape.ensures.ok
          c.in-Some.resources.now (sym c.in-Some.ensures) c.if-resources-arms.false
          ∙ each.1,
    )
