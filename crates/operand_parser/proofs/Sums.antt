-- What is read of a sum behind its first two resources.
use Rattle.std.proofs.Common.{◌≡◌, ℕ, List, [], ◌∷◌, ap, sym, ◌∙◌}
use Rattle.chan_syntax.specs.declared.resources.Res.{Res}
use Rattle.text_tokens.specs.Text.{Token}
use Rattle.grammar_laws.specs.Grammar.{Got, and_then}
use Rattle.grammar_laws.specs.Grammar as g
use Rattle.surface_grammar.specs.declared.words.Word.TheVariants as w
use Rattle.surface_grammar.specs.Grammar.{G, ARes, word, ◌◁◌, more_arms_than_two}
use Rattle.surface_grammar.specs.Terms.{res, next_res, more_res, sum_res}
use Rattle.surface_grammar.specs.Language.{At}
use Rattle.token_cursor.specs.Syntax.{opening, skip, up_to_turns}
use Rattle.token_cursor.proofs.Opens.{opens_paren, res_is}
use Rattle.token_cursor.proofs.UpTo.{two_front}

pub sum_read : (n m : ℕ) (ts t1 t2 t3 : List Token) (a b : Res) (found : List Res)
    → opening w.LeftParen n ts ≡ Got m t1 → At m res t1 ≡ Got a t2 → At m next_res t2 ≡ Got b t3 → found ≡ a ∷ b ∷ []
    → At n sum_res ts ≡ and_then (up_to_turns m (w.Comma ∷ []) next_res more_arms_than_two found t3) (λ all r. and_then (skip w.RightParen r) (λ _ s. Got all s))
unfolding sum_res more_res skip
sum_read n m ts t1 t2 t3 a b found opens first second two =
    opens_paren n whole ts
    ∙ ap (λ o. and_then o (λ k rest. At k whole rest)) opens
    ∙ ap (λ o. and_then (and_then o (λ x r. Got x r)) (λ x rest. and_then (At m behind rest) (λ xs r. Got (x ∷ xs) r))) (res_is m t1 ∙ first)
    ∙ ap (λ o. and_then (and_then o (λ y rest. and_then (At m closed rest) (λ ys s. Got (y ∷ ys) s))) (λ xs r. Got (a ∷ xs) r)) second
    ∙ two_front a b (At m more_res t3) (λ r. skip w.RightParen r)
    ∙ ap (λ f. and_then (up_to_turns m (w.Comma ∷ []) next_res more_arms_than_two f t3) (λ all r. and_then (skip w.RightParen r) (λ _ s. Got all s))) (sym two)
  where
    closed : G (List Res)
    closed = more_res ◁ word w.RightParen

    behind : G (List Res)
    behind = g.seq (λ y ys. y ∷ ys) next_res closed

    whole : G (List Res)
    whole = g.seq (λ x xs. x ∷ xs) (g.call ARes (λ x. x)) behind
