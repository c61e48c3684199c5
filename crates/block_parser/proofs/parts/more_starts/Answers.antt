use Rattle.std.proofs.Common.{[], ◌∷◌}
use Rattle.surface_grammar.specs.declared.words.Word.TheVariants as w
use Rattle.surface_grammar.specs.Grammar.{word, ◌▷◌, yes}
use Rattle.surface_grammar.specs.Statements as spec
use Rattle.token_cursor.specs.Syntax.{sees}
use Rattle.token_cursor.proofs.Turns.{turn_on, begun}
use Rattle.block_parser.proofs.parts.more_starts.Goals as goal

pub loop-turn-preserved : goal.loop-turn-preserved
unfolding sees
loop-turn-preserved c =
    turn_on c.args.depth (yes (w.Comma ∷ [])) (word w.Comma ▷ spec.start) c.left-turn-end.result c.loop-turn._turn c.loop-turn.found c.push.new.self c.loop-turn.cursor
    c.next_start.new.cursor c.in_ok-next_start.field-0 c.loop-turn-test.true c.loop-turn.invariant (begun _ _ c.sees.ensures c.if-not-sees.false)
    c.in_ok-next_start.ensures c.in_ok-push.ensures.ok
