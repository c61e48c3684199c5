use Rattle.std.proofs.Common.{◌≡◌, ap, ◌∙◌, subst, Ok, IfOk, IfErr}
use Rattle.outline_language.specs.LinearForms.{LinearForm, minus}
use Rattle.outline_obligations.specs.Cursors.{cursor_at, obliged}
use Rattle.outline_obligations.specs.Reasons.{IsReason}
use Rattle.outline_obligations.proofs.Rows.{less_zero}
use Rattle.outline_obligations.proofs.forms.oblige.Goals as goal

pub returns-clause-ok : goal.returns-clause-ok
returns-clause-ok c =
    subst (λ (g : LinearForm). IfOk c.oblige_at_most.result (λ after. obliged c.args.refused c.args.variables c.args.hyps.now g (cursor_at c.args.proof.now c.args.taken) ≡ Ok (cursor_at c.args.proof.now after)))
    (ap (minus c.args.form.now) c.constant-zero.ensures ∙ less_zero c.args.form.now)
    c.oblige_at_most.ensures.ok

pub returns-clause-err : goal.returns-clause-err
returns-clause-err c =
    subst (λ (g : LinearForm). IfErr c.oblige_at_most.result (IsReason (obliged c.args.refused c.args.variables c.args.hyps.now g (cursor_at c.args.proof.now c.args.taken))))
    (ap (minus c.args.form.now) c.constant-zero.ensures ∙ less_zero c.args.form.now)
    c.oblige_at_most.ensures.err
