-- The place of what was read between two cursors.
use Rattle.std.proofs.Common.{◌≡◌, ℕ, ◌-◌, List, ◌∷◌, take, length, map, ap, sym, ◌∙◌}
use Rattle.std.proofs.lemmas.List.{length-map, take-map}
use Rattle.text_tokens.specs.Text.{Token}
use Rattle.grammar_laws.specs.Grammar.{has, next_in}
use Rattle.surface_grammar.specs.Words.{code}
use Rattle.surface_grammar.specs.Grammar.{cover}

pub placed : {A B : Type 0} (f : A → Token) (h : B → Token) (xs : List A) (ys : List B) (a b : List Token) (n : ℕ)
    → map f xs ≡ a → map h ys ≡ b → n ≡ length xs - length ys → cover (map f (take n xs)) ≡ cover (take (length a - length b) a)
placed f h xs ys a b n e d k =
    ap cover (sym (take-map f n xs) ∙ ap (λ m. take m (map f xs)) (k ∙ lengths) ∙ ap (λ v. take (length v - length b) v) e)
  where
    lengths : length xs - length ys ≡ length (map f xs) - length b
    lengths = ap (λ m. m - length ys) (sym (length-map xs f)) ∙ ap (λ m. length (map f xs) - m) (sym (length-map ys h) ∙ ap length d)

-- what comes next, of a list whose tokens have got their texts
pub next_is : {A : Type 0} (f : A → Token) (xs more : List A) (t : A) (a : List Token) (cs : List ℕ) → xs ≡ t ∷ more → map f xs ≡ a → has (code (f t)) cs ≡ next_in code cs a
next_is f xs more t a cs e d = ap (λ v. next_in code cs (map f v)) (sym e) ∙ ap (next_in code cs) d
