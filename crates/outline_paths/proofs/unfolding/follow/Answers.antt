use Rattle.std.proofs.Common.{◌+◌, List, map, drop, get_or, Result, sym, ap, ◌∙◌, subst}
use Rattle.std.proofs.lemmas.List.{drop_more}
use Rattle.std.proofs.lemmas.Result.{err_from_is_err_and}
use Rattle.chan_syntax.specs.Reading.{letter_of}
use Rattle.chan_syntax.specs.declared.operands.Letter.{Letter}
use Rattle.chan_syntax.specs.declared.operands.Letter.TheVariants as letter
use Rattle.outline_language.specs.Contexts.{Why}
use Rattle.outline_language.specs.Paths.{Followed}
use Rattle.outline_obligations.specs.Reasons.{IsReason}
use Rattle.outline_obligations.proofs.Reasons.{then_ok, then_reason}
use Rattle.outline_paths.specs.Following as spec
use Rattle.outline_paths.specs.Settings.{step_in, follow_in}
use Rattle.outline_paths.proofs.unfolding.follow.Goals as goal

pub returns-in_err-at-clause-err : goal.returns-in_err-at-clause-err
returns-in_err-at-clause-err c =
    let p = err_from_is_err_and c.from_residual.result c.from_residual.ensures.1 in
    let next = ap (λ (ls : List Letter). follow_in c.args.setting.now ls c.loop-letter.at) (drop_more c.args.path.now c.loop-letter.letter-index letter.Left c.loop-letter-test.true) in
    rw (p.1, p.2) (subst (λ (a : Result Followed Why). IsReason a c.in_err-at.field-0.0) (sym next ∙ c.loop-letter.invariant)
    (then_reason (step_in c.args.setting.now (get_or c.args.path.now c.loop-letter.letter-index letter.Left) c.loop-letter.at)
    (spec.follow c.args.setting.now.table.now c.args.setting.now.variables c.args.setting.now.hyps.now (map letter_of (drop (c.loop-letter.letter-index + 1) c.args.path.now)))
    c.in_err-at.field-0.0 c.in_err-at.ensures.err))

pub loop-letter-preserved : goal.loop-letter-preserved
loop-letter-preserved c =
    let next = ap (λ (ls : List Letter). follow_in c.args.setting.now ls c.loop-letter.at) (drop_more c.args.path.now c.loop-letter.letter-index letter.Left c.loop-letter-test.true) in
    sym (then_ok (step_in c.args.setting.now (get_or c.args.path.now c.loop-letter.letter-index letter.Left) c.loop-letter.at) _
    (spec.follow c.args.setting.now.table.now c.args.setting.now.variables c.args.setting.now.hyps.now (map letter_of (drop (c.loop-letter.letter-index + 1) c.args.path.now)))
    c.in_ok-at.ensures.ok)
    ∙ sym next ∙ c.loop-letter.invariant
