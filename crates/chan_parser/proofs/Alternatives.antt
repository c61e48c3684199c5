-- What is read of the references of a choice behind the first two.
use Rattle.std.proofs.Common.{◌≡◌, ℕ, List, [], ◌∷◌, ap, sym, ◌∙◌}
use Rattle.chan_syntax.specs.declared.resources.Ref.{Ref}
use Rattle.text_tokens.specs.Text.{Token}
use Rattle.grammar_laws.specs.Grammar.{Got, and_then}
use Rattle.grammar_laws.specs.Grammar as g
use Rattle.surface_grammar.specs.declared.words.Word.TheVariants as w
use Rattle.surface_grammar.specs.Grammar.{G, more_arms_than_two}
use Rattle.surface_grammar.specs.Terms.{reference}
use Rattle.surface_grammar.specs.Declarations.{next_ref, more_refs, alternatives}
use Rattle.surface_grammar.specs.Language.{At}
use Rattle.token_cursor.specs.Syntax.{up_to_turns}
use Rattle.token_cursor.proofs.UpTo.{two_first}

pub alternatives_read : (n : ℕ) (ts t1 t2 : List Token) (a b : Ref) (found : List Ref) → At n reference ts ≡ Got a t1 → At n next_ref t1 ≡ Got b t2 → found ≡ a ∷ b ∷ []
    → At n alternatives ts ≡ up_to_turns n (w.Bar ∷ []) next_ref more_arms_than_two found t2
unfolding alternatives more_refs
alternatives_read n ts t1 t2 a b found first second two =
    ap (λ o. and_then o (λ x rest. and_then (At n behind rest) (λ xs r. Got (x ∷ xs) r))) first
    ∙ ap (λ o. and_then (and_then o (λ y rest. and_then (At n more_refs rest) (λ ys s. Got (y ∷ ys) s))) (λ xs r. Got (a ∷ xs) r)) second
    ∙ two_first a b (At n more_refs t2)
    ∙ ap (λ f. up_to_turns n (w.Bar ∷ []) next_ref more_arms_than_two f t2) (sym two)
  where
    behind : G (List Ref)
    behind = g.seq (λ y ys. y ∷ ys) next_ref more_refs
