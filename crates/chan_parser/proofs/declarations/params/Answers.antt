use Rattle.std.proofs.Common.{[], ◌∷◌, ◌++◌, ◌∙◌, ap}
use Rattle.surface_grammar.specs.declared.words.Word.TheVariants as w
use Rattle.surface_grammar.specs.Grammar.{word, ◌▷◌, yes}
use Rattle.surface_grammar.specs.Declarations as spec
use Rattle.surface_grammar.specs.Terms as items
use Rattle.token_cursor.specs.Syntax.{sees}
use Rattle.token_cursor.proofs.Turns.{turn_on, comma_item, list_on, begun}
use Rattle.chan_parser.proofs.declarations.params.Goals as goal

pub loop-turn-init : goal.loop-turn-init
unfolding spec.params
loop-turn-init c =
    list_on c.args.depth items.param c.args.cursor.now c.param.new.cursor c.in_ok-param.field-0 c.push.new.self c.left-turn-end.result
    c.in_ok-param.ensures c.left-turn-end.ensures (c.in_ok-push.ensures.ok ∙ ap (λ v. v ++ c.in_ok-param.field-0 ∷ []) c.new-found.ensures)

pub loop-turn-preserved : goal.loop-turn-preserved
unfolding sees
loop-turn-preserved c =
    turn_on c.args.depth (yes (w.Comma ∷ [])) (word w.Comma ▷ items.param) c.left-turn-end.result c.loop-turn._turn c.loop-turn.found
    c.push-in-loop-turn.new.self c.loop-turn.cursor c.param-in-loop-turn.new.cursor c.in_ok-param-2.field-0 c.loop-turn-test.true c.loop-turn.invariant
    (begun _ _ c.sees.ensures c.if-not-sees.false)
    (comma_item c.args.depth items.param c.loop-turn.cursor c.skip.new.self c.param-in-loop-turn.new.cursor c.in_ok-param-2.field-0 c.in_ok-skip.ensures c.in_ok-param-2.ensures)
    c.in_ok-push-2.ensures.ok
