use Rattle.std.proofs.Common.{◌≡◌, ◌-◌, [], ◌∷◌}
use Rattle.surface_grammar.specs.declared.words.Word.TheVariants as w
use Rattle.surface_grammar.specs.Grammar.{more_arms_than_two}
use Rattle.surface_grammar.specs.Declarations as spec
use Rattle.token_cursor.specs.Syntax.{up_to_turns}
use Rattle.chan_parser.proofs.declarations.more_refs.Given as goal

abbrev pub invariant-loop-turn : goal.invariant-loop-turn
invariant-loop-turn l =
    up_to_turns l.depth (w.Bar ∷ []) spec.next_ref more_arms_than_two l.fn.found l.fn.cursor ≡ up_to_turns l.depth (w.Bar ∷ []) spec.next_ref (more_arms_than_two - l._turn) l.found l.cursor
