-- Names and their places, as one list and as two.
use Rattle.std.proofs.Common.{◌≡◌, ℕ, suc, ◌+◌, ◌-◌, ◌<◌, ◌≤◌, true, false, List, [], ◌∷◌, ◌++◌, length, refl, ap, sym, ◌∙◌, arith, length-append}
use Rattle.chan_base.specs.declared.spans.Span.{Span}
use Rattle.surface_grammar.specs.declared.parts.Named.{Named}
use Rattle.surface_grammar.specs.declared.parts.Names.{Names}
use Rattle.text_tokens.specs.Text.{Token}
use Rattle.grammar_laws.specs.Grammar.{Got, and_then, next_in}
use Rattle.surface_grammar.specs.declared.words.Word.TheVariants as w
use Rattle.surface_grammar.specs.Words.{code}
use Rattle.surface_grammar.specs.Grammar.{word, ◌▷◌, yes, name, names, parted}
use Rattle.surface_grammar.specs.Language.{At}
use Rattle.token_cursor.specs.Syntax.{turns, name_at, skip}
use Rattle.token_cursor.proofs.Turns.{turn_on, turns_stop, turns_end, comma_item, list_on}

unfoldable pub paired : List (List ℕ) → List Span → List Named
paired [] ss = []
paired (n ∷ ns) [] = []
paired (n ∷ ns) (s ∷ ss) = record { name = n; span = s } ∷ paired ns ss

heads : (a b : ℕ) → suc a ≡ suc b → a ≡ b
heads a b e = cc

none : {B : Type 0} (a : ℕ) → suc a ≡ 0 → B
none a e = cc

none' : {B : Type 0} (a : ℕ) → 0 ≡ suc a → B
none' a e = cc

-- two lists of one length are the parts of their pairs
pub parted_paired : (ns : List (List ℕ)) (ss : List Span) → length ns ≡ length ss → parted (paired ns ss) ≡ record { names = ns; spans = ss }
unfolding paired
parted_paired [] [] e = refl
parted_paired [] (s ∷ ss) e = none' (length ss) e
parted_paired (n ∷ ns) [] e = none (length ns) e
parted_paired (n ∷ ns) (s ∷ ss) e = ap (λ (p : Names). record { names = n ∷ p.names; spans = s ∷ p.spans }) (parted_paired ns ss (heads (length ns) (length ss) e))

-- one more
pub paired_more : (ns : List (List ℕ)) (ss : List Span) (n : List ℕ) (s : Span) → length ns ≡ length ss → paired (ns ++ n ∷ []) (ss ++ s ∷ []) ≡ paired ns ss ++ record { name = n; span = s } ∷ []
unfolding paired
paired_more [] [] n s e = refl
paired_more [] (t ∷ ss) n s e = none' (length ss) e
paired_more (m ∷ ns) [] n s e = none (length ns) e
paired_more (m ∷ ns) (t ∷ ss) n s e = ap (λ v. record { name = m; span = t } ∷ v) (paired_more ns ss n s (heads (length ns) (length ss) e))

-- what is read of names, of which these are found
abbrev pub Found : ℕ → List Token → ℕ → List (List ℕ) → List Span → List Token → Type 0
Found n start left ns ss ts =
    (At n names start ≡ and_then (turns n (yes (w.Comma ∷ [])) (word w.Comma ▷ name) left (paired ns ss) ts) (λ xs r. Got (parted xs) r))
    × (length ns ≡ length ss)

-- the first is read
pub first_found : (n : ℕ) (ts rest : List Token) (x : Named) (ns none : List (List ℕ)) (ss nowhere : List Span) (left : ℕ) → name_at ts ≡ Got x rest → left ≡ length rest
    → none ≡ [] → ns ≡ none ++ x.name ∷ [] → nowhere ≡ [] → ss ≡ nowhere ++ x.span ∷ [] → Found n ts (left - 0) ns ss rest
unfolding paired names name name_at
first_found n ts rest x ns none ss nowhere left e l n0 nn s0 sn =
    let a : ns ≡ x.name ∷ [] = nn ∙ ap (λ v. v ++ x.name ∷ []) n0 in
    let b : ss ≡ x.span ∷ [] = sn ∙ ap (λ v. v ++ x.span ∷ []) s0 in
    let whole : paired ns ss ≡ x ∷ [] = ap (λ v. paired v ss) a ∙ ap (λ v. paired (x.name ∷ []) v) b in
    (ap (λ o. and_then o (λ xs r. Got (parted xs) r)) (list_on n name ts rest x (paired ns ss) left e l whole), ap length a ∙ sym (ap length b))

-- one more is read
pub more_found : (n : ℕ) (start ts mid rest : List Token) (x : Named) (end at : ℕ) (ns ns' : List (List ℕ)) (ss ss' : List Span) → at < end → Found n start (end - at) ns ss ts
    → next_in code (yes (w.Comma ∷ [])) ts ≡ true → skip w.Comma ts ≡ Got (tt {0}) mid → name_at mid ≡ Got x rest → ns' ≡ ns ++ x.name ∷ [] → ss' ≡ ss ++ x.span ∷ []
    → Found n start (end - (at + 1)) ns' ss' rest
unfolding name name_at
more_found n start ts mid rest x end at ns ns' ss ss' below i next e h nn sn =
    let push : paired ns' ss' ≡ paired ns ss ++ x ∷ [] = ap (λ v. paired v ss') nn ∙ ap (λ v. paired (ns ++ x.name ∷ []) v) sn ∙ paired_more ns ss x.name x.span i.1 in
    let more : length ns' ≡ length ss' = omega (arith, ap length nn, ap length sn, length-append ns (x.name ∷ []), length-append ss (x.span ∷ []), i.1) in (
      i.0 ∙ ap (λ o. and_then o (λ xs r. Got (parted xs) r))
          (turn_on n (yes (w.Comma ∷ [])) (word w.Comma ▷ name) end at (paired ns ss) (paired ns' ss') ts rest x below refl next (comma_item n name ts mid rest x e h) push),
      more,
    )

-- no more comes next
pub all_found : (n : ℕ) (start ts : List Token) (end at : ℕ) (ns : List (List ℕ)) (ss : List Span) → at < end → Found n start (end - at) ns ss ts
    → next_in code (yes (w.Comma ∷ [])) ts ≡ false → At n names start ≡ Got (record { names = ns; spans = ss }) ts
all_found n start ts end at ns ss below i next =
    i.0 ∙ ap (λ o. and_then o (λ xs r. Got (parted xs) r)) (turns_stop n (yes (w.Comma ∷ [])) (word w.Comma ▷ name) end at (paired ns ss) ts below next)
    ∙ ap (λ p. Got p ts) (parted_paired ns ss i.1)

-- no turn is left
pub end_found : (n : ℕ) (start ts : List Token) (end at : ℕ) (ns : List (List ℕ)) (ss : List Span) → end ≤ at → Found n start (end - at) ns ss ts
    → At n names start ≡ Got (record { names = ns; spans = ss }) ts
end_found n start ts end at ns ss done i =
    i.0 ∙ ap (λ o. and_then o (λ xs r. Got (parted xs) r)) (turns_end n (yes (w.Comma ∷ [])) (word w.Comma ▷ name) end at (paired ns ss) ts done)
    ∙ ap (λ p. Got p ts) (parted_paired ns ss i.1)
