use Rattle.std.proofs.Common.{[], ◌∷◌}
use Rattle.surface_grammar.specs.declared.words.Word.TheVariants as w
use Rattle.surface_grammar.specs.Grammar.{yes}
use Rattle.surface_grammar.specs.Declarations as spec
use Rattle.token_cursor.proofs.Turns.{turn_on, begun}
use Rattle.chan_parser.proofs.declarations.decls.Goals as goal

pub loop-turn-preserved : goal.loop-turn-preserved
loop-turn-preserved c =
    turn_on c.args.depth (yes (w.Proto ∷ w.Fn ∷ [])) spec.decl c.left-turn-end.result c.loop-turn._turn c.loop-turn.found c.push.new.self c.loop-turn.cursor
    c.decl.new.cursor c.in_ok-decl.field-0 c.loop-turn-test.true c.loop-turn.invariant (begun _ _ c.sees_decl.ensures c.if-not-sees_decl.false)
    c.in_ok-decl.ensures c.in_ok-push.ensures.ok
