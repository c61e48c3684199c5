use Rattle.std.proofs.Common.{Bool, if◌then◌else◌, IfErr, sym, subst}
use Rattle.outline_language.specs.LinearForms.{minus, plus_one}
use Rattle.outline_language.specs.Contexts.{add_hyp}
use Rattle.outline_obligations.specs.Reasons.{IsReason}
use Rattle.outline_contexts.specs.Trails.{context_in}
use Rattle.value_rules.proofs.Sides.{is_first, is_other}
use Rattle.value_rules.proofs.branches.assume_side.Goals as goal

pub returns-then-number-eq0-clause-err : goal.returns-then-number-eq0-clause-err
returns-then-number-eq0-clause-err c =
    subst (λ (b : Bool). IfErr c.assume_at_most.result (IsReason (add_hyp (context_in c.args.ctx.now) (if b then minus c.args.left.now c.args.right.now else plus_one (minus c.args.right.now c.args.left.now)))))
    (sym (is_first c.args.number c.if-number-eq0.true)) c.assume_at_most.ensures.err

pub returns-else-number-eq0-clause-err : goal.returns-else-number-eq0-clause-err
returns-else-number-eq0-clause-err c =
    subst (λ (b : Bool). IfErr c.assume_less.result (IsReason (add_hyp (context_in c.args.ctx.now) (if b then minus c.args.left.now c.args.right.now else plus_one (minus c.args.right.now c.args.left.now)))))
    (sym (is_other c.args.number c.if-number-eq0.false)) c.assume_less.ensures.err
