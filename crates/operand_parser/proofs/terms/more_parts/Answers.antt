use Rattle.std.proofs.Common.{[], ◌∷◌}
use Rattle.surface_grammar.specs.declared.words.Word.TheVariants as w
use Rattle.surface_grammar.specs.Grammar.{yes}
use Rattle.surface_grammar.specs.Terms as spec
use Rattle.token_cursor.proofs.Turns.{turn_on, begun}
use Rattle.operand_parser.proofs.terms.more_parts.Goals as goal

pub loop-turn-preserved : goal.loop-turn-preserved
loop-turn-preserved c =
    turn_on c.args.depth (yes (w.Plus ∷ w.Minus ∷ [])) spec.next_part c.left-turn-end.result c.loop-turn._turn c.loop-turn.found c.push.new.self c.loop-turn.cursor
    c.next_part.new.cursor c.in_ok-next_part.field-0 c.loop-turn-test.true c.loop-turn.invariant (begun _ _ c.sees_sign.ensures c.if-not-sees_sign.false)
    c.in_ok-next_part.ensures c.in_ok-push.ensures.ok
