use Rattle.std.proofs.Common.{◌≡◌, ◌+◌, ◌-◌, ◌*◌, [], ◌∷◌}
use Rattle.surface_grammar.specs.declared.words.Word.TheVariants as w
use Rattle.surface_grammar.specs.Grammar.{more_arms_than_two}
use Rattle.surface_grammar.specs.Terms as spec
use Rattle.token_cursor.specs.Syntax.{up_to_turns}
use Rattle.operand_parser.proofs.resources.+res.Given as goal

abbrev pub decreases-two_res : goal.decreases-two_res
decreases-two_res l = 6 * l.depth

abbrev pub decreases-sum_res : goal.decreases-sum_res
decreases-sum_res l = 6 * l.depth

abbrev pub decreases-sum_shape : goal.decreases-sum_shape
decreases-sum_shape l = 6 * l.depth + 1

abbrev pub decreases-shape : goal.decreases-shape
decreases-shape l = 6 * l.depth + 2

abbrev pub decreases-res : goal.decreases-res
decreases-res l = 6 * l.depth + 3

abbrev pub decreases-next_res : goal.decreases-next_res
decreases-next_res l = 6 * l.depth + 4

abbrev pub decreases-more_res : goal.decreases-more_res
decreases-more_res l = 6 * l.depth + 5

abbrev pub invariant-more_res-loop-turn : goal.invariant-more_res-loop-turn
invariant-more_res-loop-turn l =
    up_to_turns l.depth (w.Comma ∷ []) spec.next_res more_arms_than_two l.fn.found l.fn.cursor ≡ up_to_turns l.depth (w.Comma ∷ []) spec.next_res (more_arms_than_two - l._turn) l.found l.cursor
