use Rattle.std.proofs.Common.{◌≡◌, ◌-◌, [], ◌∷◌}
use Rattle.surface_grammar.specs.declared.words.Word.TheVariants as w
use Rattle.surface_grammar.specs.Grammar.{yes}
use Rattle.surface_grammar.specs.Terms as spec
use Rattle.surface_grammar.specs.Language.{At}
use Rattle.token_cursor.specs.Syntax.{turns}
use Rattle.operand_parser.proofs.terms.more_parts.Given as goal

abbrev pub invariant-loop-turn : goal.invariant-loop-turn
invariant-loop-turn l =
    At l.depth spec.more_parts l.fn.cursor ≡ turns l.depth (yes (w.Plus ∷ w.Minus ∷ [])) spec.next_part (l._turn-end - l._turn) l.found l.cursor
