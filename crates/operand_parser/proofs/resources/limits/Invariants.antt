use Rattle.std.proofs.Common.{◌≡◌, ◌-◌, [], ◌∷◌}
use Rattle.surface_grammar.specs.declared.words.Word.TheVariants as w
use Rattle.surface_grammar.specs.Grammar.{word, ◌▷◌, yes}
use Rattle.surface_grammar.specs.Terms as spec
use Rattle.surface_grammar.specs.Language.{At}
use Rattle.token_cursor.specs.Syntax.{turns}
use Rattle.operand_parser.proofs.resources.limits.Given as goal

abbrev pub invariant-loop-turn : goal.invariant-loop-turn
invariant-loop-turn l =
    At l.depth spec.limits l.fn.cursor ≡ turns l.depth (yes (w.Comma ∷ [])) (word w.Comma ▷ spec.limit) (l._turn-end - l._turn) l.found l.cursor
