use Rattle.std.proofs.Common.{IfErr, sym, subst}
use Rattle.chan_syntax.specs.declared.operands.Letter.{Letter}
use Rattle.outline_obligations.specs.Reasons.{IsReason}
use Rattle.outline_paths.specs.Settings.{asked_in}
use Rattle.outline_paths.proofs.following.ask.Goals as goal

pub returns-in-Left-clause-err : goal.returns-in-Left-clause-err
returns-in-Left-clause-err c =
    subst (λ (l : Letter). IfErr c.oblige_at_most.result (IsReason (asked_in c.args.setting.now l c.args.left.now c.args.right.now c.args.taken))) (sym c.in-Left.is) c.oblige_at_most.ensures.err

pub returns-in-Right-clause-err : goal.returns-in-Right-clause-err
returns-in-Right-clause-err c =
    subst (λ (l : Letter). IfErr c.oblige_less.result (IsReason (asked_in c.args.setting.now l c.args.left.now c.args.right.now c.args.taken))) (sym c.in-Right.is) c.oblige_less.ensures.err
