-- Items that a semicolon ends.
use Rattle.std.proofs.Common.{◌≡◌, ℕ, List, ap, ◌∙◌}
use Rattle.text_tokens.specs.Text.{Token}
use Rattle.grammar_laws.specs.Grammar.{Got, and_then}
use Rattle.surface_grammar.specs.declared.words.Word.TheVariants as w
use Rattle.surface_grammar.specs.Grammar.{G, word, ◌◁◌}
use Rattle.surface_grammar.specs.Language.{At}
use Rattle.token_cursor.specs.Syntax.{skip}

pub ended_item : {A : Type 0} (n : ℕ) (item : G A) (ts mid rest : List Token) (x : A) → At n item ts ≡ Got x mid → skip w.Semicolon mid ≡ Got (tt {0}) rest
    → At n (item ◁ word w.Semicolon) ts ≡ Got x rest
unfolding skip
ended_item n item ts mid rest x e h =
    ap (λ o. and_then o (λ y r. and_then (skip w.Semicolon r) (λ _ s. Got y s))) e ∙ ap (λ o. and_then o (λ _ s. Got x s)) h
