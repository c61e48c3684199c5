use Rattle.std.proofs.Common.{[], ◌∷◌, ◌++◌, ◌∙◌, ap}
use Rattle.surface_grammar.specs.declared.words.Word.TheVariants as w
use Rattle.surface_grammar.specs.Grammar.{word, ◌▷◌, yes}
use Rattle.surface_grammar.specs.Operands as spec
use Rattle.token_cursor.specs.Syntax.{sees}
use Rattle.token_cursor.proofs.Turns.{turn_on, comma_item, list_on, begun}
use Rattle.operand_parser.proofs.values.values.Goals as goal

pub loop-turn-init : goal.loop-turn-init
unfolding spec.values
loop-turn-init c =
    list_on c.args.depth spec.value c.args.cursor.now c.value.new.cursor c.in_ok-value.field-0 c.push.new.self c.left-turn-end.result
    c.in_ok-value.ensures c.left-turn-end.ensures (c.in_ok-push.ensures.ok ∙ ap (λ v. v ++ c.in_ok-value.field-0 ∷ []) c.new-found.ensures)

pub loop-turn-preserved : goal.loop-turn-preserved
unfolding sees
loop-turn-preserved c =
    turn_on c.args.depth (yes (w.Comma ∷ [])) (word w.Comma ▷ spec.value) c.left-turn-end.result c.loop-turn._turn c.loop-turn.found
    c.push-in-loop-turn.new.self c.loop-turn.cursor c.value-in-loop-turn.new.cursor c.in_ok-value-2.field-0 c.loop-turn-test.true c.loop-turn.invariant
    (begun _ _ c.sees.ensures c.if-not-sees.false)
    (comma_item c.args.depth spec.value c.loop-turn.cursor c.skip.new.self c.value-in-loop-turn.new.cursor c.in_ok-value-2.field-0 c.in_ok-skip.ensures c.in_ok-value-2.ensures)
    c.in_ok-push-2.ensures.ok
