use Rattle.std.proofs.Common.{[], ◌∷◌}
use Rattle.surface_grammar.specs.declared.words.Word.TheVariants as w
use Rattle.surface_grammar.specs.Grammar.{word, ◌▷◌, yes}
use Rattle.surface_grammar.specs.Operands as spec
use Rattle.token_cursor.specs.Syntax.{sees}
use Rattle.token_cursor.proofs.Turns.{turn_on, comma_item, begun}
use Rattle.operand_parser.proofs.certificates.more_mentions.Goals as goal

pub loop-turn-preserved : goal.loop-turn-preserved
unfolding sees
loop-turn-preserved c =
    turn_on c.args.depth (yes (w.Comma ∷ [])) (word w.Comma ▷ spec.mention) c.left-turn-end.result c.loop-turn._turn c.loop-turn.found c.push.new.self c.loop-turn.cursor
    c.mention.new.cursor c.in_ok-mention.field-0 c.loop-turn-test.true c.loop-turn.invariant (begun _ _ c.sees.ensures c.if-not-sees.false)
    (comma_item c.args.depth spec.mention c.loop-turn.cursor c.skip.new.self c.mention.new.cursor c.in_ok-mention.field-0 c.in_ok-skip.ensures c.in_ok-mention.ensures) c.in_ok-push.ensures.ok
