use Rattle.std.proofs.Common.{[], ◌∷◌, ◌++◌, ◌∙◌, ap}
use Rattle.surface_grammar.specs.declared.words.Word.TheVariants as w
use Rattle.surface_grammar.specs.Grammar.{word, ◌▷◌, yes}
use Rattle.surface_grammar.specs.Terms as spec
use Rattle.token_cursor.specs.Syntax.{sees}
use Rattle.token_cursor.proofs.Turns.{turn_on, comma_item, list_on, begun}
use Rattle.operand_parser.proofs.resources.limits.Goals as goal

pub loop-turn-init : goal.loop-turn-init
unfolding spec.limits
loop-turn-init c =
    list_on c.args.depth spec.limit c.args.cursor.now c.limit.new.cursor c.in_ok-limit.field-0 c.push.new.self c.left-turn-end.result
    c.in_ok-limit.ensures c.left-turn-end.ensures (c.in_ok-push.ensures.ok ∙ ap (λ v. v ++ c.in_ok-limit.field-0 ∷ []) c.new-found.ensures)

pub loop-turn-preserved : goal.loop-turn-preserved
unfolding sees
loop-turn-preserved c =
    turn_on c.args.depth (yes (w.Comma ∷ [])) (word w.Comma ▷ spec.limit) c.left-turn-end.result c.loop-turn._turn c.loop-turn.found
    c.push-in-loop-turn.new.self c.loop-turn.cursor c.limit-in-loop-turn.new.cursor c.in_ok-limit-2.field-0 c.loop-turn-test.true c.loop-turn.invariant
    (begun _ _ c.sees.ensures c.if-not-sees.false)
    (comma_item c.args.depth spec.limit c.loop-turn.cursor c.skip.new.self c.limit-in-loop-turn.new.cursor c.in_ok-limit-2.field-0 c.in_ok-skip.ensures c.in_ok-limit-2.ensures)
    c.in_ok-push-2.ensures.ok
