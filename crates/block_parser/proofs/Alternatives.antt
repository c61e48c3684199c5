-- What is read of the blocks of a branch behind the first two.
use Rattle.std.proofs.Common.{◌≡◌, ℕ, List, [], ◌∷◌, ap, sym, ◌∙◌}
use Rattle.chan_syntax.specs.declared.surface_tree.Block.{Block}
use Rattle.text_tokens.specs.Text.{Token}
use Rattle.grammar_laws.specs.Grammar.{Got, and_then}
use Rattle.grammar_laws.specs.Grammar as g
use Rattle.surface_grammar.specs.declared.words.Word.TheVariants as w
use Rattle.surface_grammar.specs.Grammar.{G, more_arms_than_two}
use Rattle.surface_grammar.specs.Statements.{block, next_block, more_blocks, blocks}
use Rattle.surface_grammar.specs.Language.{At}
use Rattle.token_cursor.specs.Syntax.{up_to_turns}
use Rattle.token_cursor.proofs.Opens.{block_is}
use Rattle.token_cursor.proofs.UpTo.{two_first}

pub blocks_read : (n : ℕ) (ts t1 t2 : List Token) (a b : Block) (found : List Block) → At n block ts ≡ Got a t1 → At n next_block t1 ≡ Got b t2 → found ≡ a ∷ b ∷ []
    → At n blocks ts ≡ up_to_turns n (w.Else ∷ []) next_block more_arms_than_two found t2
unfolding blocks more_blocks
blocks_read n ts t1 t2 a b found first second two =
    ap (λ o. and_then (and_then o (λ x r. Got x r)) (λ x rest. and_then (At n behind rest) (λ xs r. Got (x ∷ xs) r))) (block_is n ts ∙ first)
    ∙ ap (λ o. and_then (and_then o (λ y rest. and_then (At n more_blocks rest) (λ ys s. Got (y ∷ ys) s))) (λ xs r. Got (a ∷ xs) r)) second
    ∙ two_first a b (At n more_blocks t2)
    ∙ ap (λ f. up_to_turns n (w.Else ∷ []) next_block more_arms_than_two f t2) (sym two)
  where
    behind : G (List Block)
    behind = g.seq (λ y ys. y ∷ ys) next_block more_blocks
