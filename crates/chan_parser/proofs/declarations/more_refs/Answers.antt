use Rattle.std.proofs.Common.{[], ◌∷◌, ◌∙◌}
use Rattle.std.proofs.lemmas.Result.{err_from_is_err_and}
use Rattle.surface_grammar.specs.declared.words.Word.TheVariants as w
use Rattle.surface_grammar.specs.Grammar.{more_arms_than_two}
use Rattle.surface_grammar.specs.Declarations as spec
use Rattle.token_cursor.specs.Syntax.{sees}
use Rattle.token_cursor.proofs.Turns.{begun}
use Rattle.token_cursor.proofs.UpTo.{up_on, up_err, up_stop, up_end}
use Rattle.chan_parser.proofs.declarations.more_refs.Goals as goal

pub loop-turn-preserved : goal.loop-turn-preserved
unfolding sees
loop-turn-preserved c =
    up_on c.args.depth (w.Bar ∷ []) spec.next_ref more_arms_than_two c.loop-turn._turn c.loop-turn.found c.push.new.self c.loop-turn.cursor c.next_ref.new.cursor
    c.in_ok-next.next c.loop-turn-test.true c.loop-turn.invariant (begun _ _ c.sees.ensures c.if-not-sees.false) c.in_ok-next.ensures c.in_ok-push.ensures.ok

pub returns-then-not-sees : goal.returns-then-not-sees
unfolding sees
returns-then-not-sees c =
    c.loop-turn.invariant
    ∙ up_stop c.args.depth (w.Bar ∷ []) spec.next_ref more_arms_than_two c.loop-turn._turn c.loop-turn.found c.loop-turn.cursor c.loop-turn-test.true (begun _ _ c.sees.ensures c.if-not-sees.true)

pub returns-in_err-next : goal.returns-in_err-next
unfolding sees
returns-in_err-next c =
    let p = err_from_is_err_and c.from_residual.result c.from_residual.ensures.1 in
    rw (p.1, p.2) (up_err c.args.depth (w.Bar ∷ []) spec.next_ref more_arms_than_two c.loop-turn._turn c.loop-turn.found c.loop-turn.cursor c.next_ref.new.cursor _
    c.loop-turn-test.true c.loop-turn.invariant (begun _ _ c.sees.ensures c.if-not-sees.false) c.in_err-next.ensures)

pub returns : goal.returns
returns c =
    c.loop-turn.invariant ∙ up_end c.args.depth (w.Bar ∷ []) spec.next_ref more_arms_than_two c.loop-turn._turn c.loop-turn.found c.loop-turn.cursor c.loop-turn-test.false
