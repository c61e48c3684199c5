use Rattle.std.proofs.Common.{[], ◌∷◌, ap, ◌∙◌}
use Rattle.std.proofs.lemmas.Result.{err_from_is_err_and}
use Rattle.grammar_laws.specs.Grammar.{Got, and_then}
use Rattle.surface_grammar.specs.declared.words.Word.TheVariants as w
use Rattle.surface_grammar.specs.Grammar.{more_arms_than_two}
use Rattle.surface_grammar.specs.Terms as spec
use Rattle.token_cursor.specs.Syntax.{sees, skip}
use Rattle.token_cursor.proofs.Turns.{begun}
use Rattle.token_cursor.proofs.UpTo.{up_on, up_err, up_stop, up_end, two_found, stops, stops_so}
use Rattle.operand_parser.proofs.Sums.{sum_read}
use Rattle.operand_parser.proofs.resources.+res.Goals as goal

pub more_res-loop-turn-preserved : goal.more_res-loop-turn-preserved
unfolding sees
more_res-loop-turn-preserved t c =
    up_on c.args.depth (w.Comma ∷ []) spec.next_res more_arms_than_two c.loop-turn._turn c.loop-turn.found c.push.new.self c.loop-turn.cursor c.next_res.new.cursor
    c.in_ok-next.next c.loop-turn-test.true c.loop-turn.invariant (begun _ _ c.sees.ensures c.if-not-sees.false) c.in_ok-next.ensures c.in_ok-push.ensures.ok

pub more_res-returns-then-not-sees : goal.more_res-returns-then-not-sees
unfolding sees
more_res-returns-then-not-sees t c =
    c.loop-turn.invariant
    ∙ up_stop c.args.depth (w.Comma ∷ []) spec.next_res more_arms_than_two c.loop-turn._turn c.loop-turn.found c.loop-turn.cursor c.loop-turn-test.true (begun _ _ c.sees.ensures c.if-not-sees.true)

pub more_res-returns : goal.more_res-returns
more_res-returns t c =
    c.loop-turn.invariant ∙ up_end c.args.depth (w.Comma ∷ []) spec.next_res more_arms_than_two c.loop-turn._turn c.loop-turn.found c.loop-turn.cursor c.loop-turn-test.false

pub more_res-returns-in_err-next : goal.more_res-returns-in_err-next
unfolding sees
more_res-returns-in_err-next t c =
    let p = err_from_is_err_and c.from_residual.result c.from_residual.ensures.1 in
    rw (p.1, p.2) (up_err c.args.depth (w.Comma ∷ []) spec.next_res more_arms_than_two c.loop-turn._turn c.loop-turn.found c.loop-turn.cursor c.next_res.new.cursor _
    c.loop-turn-test.true c.loop-turn.invariant (begun _ _ c.sees.ensures c.if-not-sees.false) c.in_err-next.ensures)

pub sum_res-returns-in_err-found : goal.sum_res-returns-in_err-found
sum_res-returns-in_err-found t c =
    let p = err_from_is_err_and c.from_residual-in_err-found.result c.from_residual-in_err-found.ensures.1 in
    let read = sum_read c.args.depth c.in_ok-depth.depth c.args.cursor.now c.open.new.self c.res.new.cursor c.next_res.new.cursor c.in_ok-res.field-0 c.in_ok-next_res.field-0 c.push-2.new.self
    c.in_ok-depth.ensures.answer c.in_ok-res.ensures c.in_ok-next_res.ensures (two_found _ _ _ _ _ c.new-found.ensures c.in_ok-push.ensures.ok c.in_ok-push-2.ensures.ok) in
    rw (p.1, p.2) (stops_so _ _ read (stops _ _ _ _ c.in_err-found.ensures))

pub sum_res-returns-in_err-skip : goal.sum_res-returns-in_err-skip
sum_res-returns-in_err-skip t c =
    let p = err_from_is_err_and c.from_residual-in_err-skip.result c.from_residual-in_err-skip.ensures.1 in
    let read = sum_read c.args.depth c.in_ok-depth.depth c.args.cursor.now c.open.new.self c.res.new.cursor c.next_res.new.cursor c.in_ok-res.field-0 c.in_ok-next_res.field-0 c.push-2.new.self
    c.in_ok-depth.ensures.answer c.in_ok-res.ensures c.in_ok-next_res.ensures (two_found _ _ _ _ _ c.new-found.ensures c.in_ok-push.ensures.ok c.in_ok-push-2.ensures.ok) in
    rw (p.1, p.2) (stops_so _ _ (read ∙ ap (λ o. and_then o (λ all r. and_then (skip w.RightParen r) (λ _ s. Got all s))) c.in_ok-found.ensures) (stops _ _ _ _ c.in_err-skip.ensures))

pub sum_res-returns : goal.sum_res-returns
sum_res-returns t c =
    sum_read c.args.depth c.in_ok-depth.depth c.args.cursor.now c.open.new.self c.res.new.cursor c.next_res.new.cursor c.in_ok-res.field-0 c.in_ok-next_res.field-0 c.push-2.new.self
    c.in_ok-depth.ensures.answer c.in_ok-res.ensures c.in_ok-next_res.ensures (two_found _ _ _ _ _ c.new-found.ensures c.in_ok-push.ensures.ok c.in_ok-push-2.ensures.ok)
    ∙ ap (λ o. and_then o (λ all r. and_then (skip w.RightParen r) (λ _ s. Got all s))) c.in_ok-found.ensures
    ∙ ap (λ o. and_then o (λ _ s. Got c.in_ok-found.found s)) c.in_ok-skip.ensures
