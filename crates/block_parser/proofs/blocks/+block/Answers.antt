use Rattle.std.proofs.Common.{[], ◌∷◌, ap, ◌∙◌}
use Rattle.std.proofs.lemmas.Result.{err_from_is_err_and}
use Rattle.grammar_laws.specs.Grammar.{Got, and_then}
use Rattle.surface_grammar.specs.declared.words.Word.TheVariants as w
use Rattle.surface_grammar.specs.Grammar.{word, ◌◁◌, yes, more_arms_than_two}
use Rattle.surface_grammar.specs.Statements as spec
use Rattle.token_cursor.specs.Syntax.{sees, skip}
use Rattle.token_cursor.proofs.Turns.{turn_on, begun}
use Rattle.token_cursor.proofs.UpTo.{up_on, up_err, up_stop, up_end, two_found, stops, stops_so, answers_so}
use Rattle.block_parser.proofs.Ends.{ended_item}
use Rattle.block_parser.proofs.Arms.{arm_on, arm_err, arms_stop, arms_end, arms_read}
use Rattle.block_parser.proofs.Alternatives.{blocks_read}
use Rattle.block_parser.proofs.blocks.+block.Goals as goal

pub stmts-loop-turn-preserved : goal.stmts-loop-turn-preserved
stmts-loop-turn-preserved t c =
    turn_on c.args.depth (yes spec.stmt_words) (spec.stmt ◁ word w.Semicolon) c.left-turn-end.result c.loop-turn._turn c.loop-turn.found c.push.new.self
    c.loop-turn.cursor c.skip.new.self c.in_ok-stmt.field-0 c.loop-turn-test.true c.loop-turn.invariant (begun _ _ c.sees_stmt.ensures c.if-not-sees_stmt.false)
    (ended_item c.args.depth spec.stmt c.loop-turn.cursor c.stmt.new.cursor c.skip.new.self c.in_ok-stmt.field-0 c.in_ok-stmt.ensures c.in_ok-skip.ensures)
    c.in_ok-push.ensures.ok

-- ---- the arms of a match

pub more_arms-loop-turn-preserved : goal.more_arms-loop-turn-preserved
unfolding sees
more_arms-loop-turn-preserved t c =
    arm_on c.args.depth c.loop-turn.turn c.loop-turn.found c.push.new.self c.loop-turn.cursor c.arm.new.cursor c.in_ok-next.next
    c.loop-turn-test.true c.loop-turn.invariant (begun _ _ c.sees.ensures c.if-not-sees.false) c.in_ok-next.ensures c.in_ok-push.ensures.ok

pub more_arms-returns-then-not-sees : goal.more_arms-returns-then-not-sees
unfolding sees
more_arms-returns-then-not-sees t c =
    c.loop-turn.invariant ∙ arms_stop c.args.depth c.loop-turn.turn c.loop-turn.found c.loop-turn.cursor c.loop-turn-test.true (begun _ _ c.sees.ensures c.if-not-sees.true)

pub more_arms-returns-in_err-next : goal.more_arms-returns-in_err-next
unfolding sees
more_arms-returns-in_err-next t c =
    let p = err_from_is_err_and c.from_residual.result c.from_residual.ensures.1 in
    rw (p.1, p.2) (arm_err c.args.depth c.loop-turn.turn c.loop-turn.found c.loop-turn.cursor c.arm.new.cursor _
    c.loop-turn-test.true c.loop-turn.invariant (begun _ _ c.sees.ensures c.if-not-sees.false) c.in_err-next.ensures)

pub more_arms-returns : goal.more_arms-returns
more_arms-returns t c = c.loop-turn.invariant ∙ arms_end c.args.depth c.loop-turn.turn c.loop-turn.found c.loop-turn.cursor c.loop-turn-test.false

pub arms-returns-in_err-found : goal.arms-returns-in_err-found
arms-returns-in_err-found t c =
    let p = err_from_is_err_and c.from_residual-in_err-found.result c.from_residual-in_err-found.ensures.1 in
    let read = arms_read c.args.depth c.in_ok-inner.inner c.args.cursor.now c.open.new.self c.arm.new.cursor c.arm-2.new.cursor c.in_ok-arm.field-0 c.in_ok-arm-2.field-0 c.push-2.new.self
    c.in_ok-inner.ensures.answer c.in_ok-arm.ensures c.in_ok-arm-2.ensures (two_found _ _ _ _ _ c.new-found.ensures c.in_ok-push.ensures.ok c.in_ok-push-2.ensures.ok) in
    rw (p.1, p.2) (stops_so _ _ read (stops _ _ _ _ c.in_err-found.ensures))

pub arms-returns-in_err-skip : goal.arms-returns-in_err-skip
arms-returns-in_err-skip t c =
    let p = err_from_is_err_and c.from_residual-in_err-skip.result c.from_residual-in_err-skip.ensures.1 in
    let read = arms_read c.args.depth c.in_ok-inner.inner c.args.cursor.now c.open.new.self c.arm.new.cursor c.arm-2.new.cursor c.in_ok-arm.field-0 c.in_ok-arm-2.field-0 c.push-2.new.self
    c.in_ok-inner.ensures.answer c.in_ok-arm.ensures c.in_ok-arm-2.ensures (two_found _ _ _ _ _ c.new-found.ensures c.in_ok-push.ensures.ok c.in_ok-push-2.ensures.ok) in
    rw (p.1, p.2) (stops_so _ _ (read ∙ ap (λ o. and_then o (λ all r. and_then (skip w.RightBrace r) (λ _ s. Got all s))) c.in_ok-found.ensures) (stops _ _ _ _ c.in_err-skip.ensures))

pub arms-returns : goal.arms-returns
arms-returns t c =
    arms_read c.args.depth c.in_ok-inner.inner c.args.cursor.now c.open.new.self c.arm.new.cursor c.arm-2.new.cursor c.in_ok-arm.field-0 c.in_ok-arm-2.field-0 c.push-2.new.self
    c.in_ok-inner.ensures.answer c.in_ok-arm.ensures c.in_ok-arm-2.ensures (two_found _ _ _ _ _ c.new-found.ensures c.in_ok-push.ensures.ok c.in_ok-push-2.ensures.ok)
    ∙ ap (λ o. and_then o (λ all r. and_then (skip w.RightBrace r) (λ _ s. Got all s))) c.in_ok-found.ensures
    ∙ ap (λ o. and_then o (λ _ s. Got c.in_ok-found.found s)) c.in_ok-skip.ensures

-- ---- the blocks of a branch

pub more_blocks-loop-turn-preserved : goal.more_blocks-loop-turn-preserved
unfolding sees
more_blocks-loop-turn-preserved t c =
    up_on c.args.depth (w.Else ∷ []) spec.next_block more_arms_than_two c.loop-turn._turn c.loop-turn.found c.push.new.self c.loop-turn.cursor c.next_block.new.cursor
    c.in_ok-next.next c.loop-turn-test.true c.loop-turn.invariant (begun _ _ c.sees.ensures c.if-not-sees.false) c.in_ok-next.ensures c.in_ok-push.ensures.ok

pub more_blocks-returns-then-not-sees : goal.more_blocks-returns-then-not-sees
unfolding sees
more_blocks-returns-then-not-sees t c =
    c.loop-turn.invariant
    ∙ up_stop c.args.depth (w.Else ∷ []) spec.next_block more_arms_than_two c.loop-turn._turn c.loop-turn.found c.loop-turn.cursor c.loop-turn-test.true (begun _ _ c.sees.ensures c.if-not-sees.true)

pub more_blocks-returns-in_err-next : goal.more_blocks-returns-in_err-next
unfolding sees
more_blocks-returns-in_err-next t c =
    let p = err_from_is_err_and c.from_residual.result c.from_residual.ensures.1 in
    rw (p.1, p.2) (up_err c.args.depth (w.Else ∷ []) spec.next_block more_arms_than_two c.loop-turn._turn c.loop-turn.found c.loop-turn.cursor c.next_block.new.cursor _
    c.loop-turn-test.true c.loop-turn.invariant (begun _ _ c.sees.ensures c.if-not-sees.false) c.in_err-next.ensures)

pub more_blocks-returns : goal.more_blocks-returns
more_blocks-returns t c =
    c.loop-turn.invariant ∙ up_end c.args.depth (w.Else ∷ []) spec.next_block more_arms_than_two c.loop-turn._turn c.loop-turn.found c.loop-turn.cursor c.loop-turn-test.false

pub blocks-returns : goal.blocks-returns
blocks-returns t c =
    answers_so c.more_blocks.result _ (blocks_read c.args.depth c.args.cursor.now c.block.new.cursor c.next_block.new.cursor c.in_ok-block.field-0 c.in_ok-next_block.field-0 c.push-2.new.self
    c.in_ok-block.ensures c.in_ok-next_block.ensures (two_found _ _ _ _ _ c.new-found.ensures c.in_ok-push.ensures.ok c.in_ok-push-2.ensures.ok)) c.more_blocks.ensures
