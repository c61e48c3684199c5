use Rattle.std.proofs.Common.{◌≡◌, ◌-◌, [], ◌∷◌}
use Rattle.surface_grammar.specs.declared.words.Word.TheVariants as w
use Rattle.surface_grammar.specs.Grammar.{yes}
use Rattle.surface_grammar.specs.Declarations as spec
use Rattle.surface_grammar.specs.Language.{At}
use Rattle.token_cursor.specs.Syntax.{turns}
use Rattle.chan_parser.proofs.declarations.decls.Given as goal

abbrev pub invariant-loop-turn : goal.invariant-loop-turn
invariant-loop-turn l =
    At l.depth spec.decls l.fn.cursor ≡ turns l.depth (yes (w.Proto ∷ w.Fn ∷ [])) spec.decl (l._turn-end - l._turn) l.found l.cursor
