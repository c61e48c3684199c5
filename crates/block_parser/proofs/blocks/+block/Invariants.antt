use Rattle.std.proofs.Common.{◌≡◌, ◌+◌, ◌-◌, ◌*◌, [], ◌∷◌}
use Rattle.surface_grammar.specs.declared.words.Word.TheVariants as w
use Rattle.surface_grammar.specs.Grammar.{word, ◌◁◌, yes, more_arms_than_two}
use Rattle.surface_grammar.specs.Statements as spec
use Rattle.surface_grammar.specs.Language.{At}
use Rattle.token_cursor.specs.Syntax.{turns, up_to_turns}
use Rattle.block_parser.specs.Turns.{arms_turns}
use Rattle.block_parser.proofs.blocks.+block.Given as goal

abbrev pub decreases-block : goal.decreases-block
decreases-block l = 16 * l.depth

abbrev pub decreases-two_blocks : goal.decreases-two_blocks
decreases-two_blocks l = 16 * l.depth + 1

abbrev pub decreases-arm : goal.decreases-arm
decreases-arm l = 16 * l.depth + 1

abbrev pub decreases-more_arms : goal.decreases-more_arms
decreases-more_arms l = 16 * l.depth + 2

abbrev pub decreases-arms : goal.decreases-arms
decreases-arms l = 16 * l.depth + 1

abbrev pub decreases-next_block : goal.decreases-next_block
decreases-next_block l = 16 * l.depth + 1

abbrev pub decreases-more_blocks : goal.decreases-more_blocks
decreases-more_blocks l = 16 * l.depth + 2

abbrev pub decreases-blocks : goal.decreases-blocks
decreases-blocks l = 16 * l.depth + 3

abbrev pub decreases-proof_and_block : goal.decreases-proof_and_block
decreases-proof_and_block l = 16 * l.depth + 1

abbrev pub decreases-loop_rest : goal.decreases-loop_rest
decreases-loop_rest l = 16 * l.depth + 2

abbrev pub decreases-task : goal.decreases-task
decreases-task l = 16 * l.depth + 2

abbrev pub decreases-loop_last : goal.decreases-loop_last
decreases-loop_last l = 16 * l.depth + 3

abbrev pub decreases-forked : goal.decreases-forked
decreases-forked l = 16 * l.depth + 3

abbrev pub decreases-if_last : goal.decreases-if_last
decreases-if_last l = 16 * l.depth + 2

abbrev pub decreases-branch_last : goal.decreases-branch_last
decreases-branch_last l = 16 * l.depth + 4

abbrev pub decreases-match_last : goal.decreases-match_last
decreases-match_last l = 16 * l.depth + 2

abbrev pub decreases-given_end : goal.decreases-given_end
decreases-given_end l = 16 * l.depth + 5

abbrev pub decreases-other_last : goal.decreases-other_last
decreases-other_last l = 16 * l.depth + 5

abbrev pub decreases-given : goal.decreases-given
decreases-given l = 16 * l.depth + 6

abbrev pub decreases-last : goal.decreases-last
decreases-last l = 16 * l.depth + 6

abbrev pub decreases-behind_name : goal.decreases-behind_name
decreases-behind_name l = 16 * l.depth + 7

abbrev pub decreases-binding : goal.decreases-binding
decreases-binding l = 16 * l.depth + 8

abbrev pub decreases-let_stmt : goal.decreases-let_stmt
decreases-let_stmt l = 16 * l.depth + 9

abbrev pub decreases-stmt : goal.decreases-stmt
decreases-stmt l = 16 * l.depth + 10

abbrev pub decreases-stmts : goal.decreases-stmts
decreases-stmts l = 16 * l.depth + 11

abbrev pub invariant-stmts-loop-turn : goal.invariant-stmts-loop-turn
invariant-stmts-loop-turn l =
    At l.depth spec.stmts l.fn.cursor ≡ turns l.depth (yes spec.stmt_words) (spec.stmt ◁ word w.Semicolon) (l._turn-end - l._turn) l.found l.cursor

abbrev pub invariant-more_blocks-loop-turn : goal.invariant-more_blocks-loop-turn
invariant-more_blocks-loop-turn l =
    up_to_turns l.depth (w.Else ∷ []) spec.next_block more_arms_than_two l.fn.found l.fn.cursor ≡ up_to_turns l.depth (w.Else ∷ []) spec.next_block (more_arms_than_two - l._turn) l.found l.cursor

abbrev pub invariant-more_arms-loop-turn : goal.invariant-more_arms-loop-turn
invariant-more_arms-loop-turn l = arms_turns l.depth 2 l.fn.found l.fn.cursor ≡ arms_turns l.depth l.turn l.found l.cursor
