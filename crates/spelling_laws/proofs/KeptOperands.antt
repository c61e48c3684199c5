-- Values, patterns, paths and proofs are derived by their canonical words again.
use Rattle.std.proofs.Common.{◌≡◌, ℕ, zero, suc, ◌==◌, ◌⊎◌, inl, inr, Bool, true, false, if◌then◌else◌, List, [], ◌∷◌, ◌++◌, map, Option, Some, refl, sym, ◌∙◌, ap, ap₂, subst, append_assoc, arith}
use Rattle.std.specs.List.{list_all}
use Rattle.std.proofs.lemmas.Bool.{and_parts, or_cases, eqb-true}
use Rattle.std.proofs.lemmas.Grind.{common_steps}
use denote.Hole.Carrier.{hidden}
use Rattle.chan_syntax.specs.declared.operands.Supply.TheBlock.{hidden-the_row-Supply-0}
use Rattle.chan_base.specs.declared.spans.Span.{Span}
use Rattle.chan_syntax.specs.declared.operands.Supply.{Supply, Arm'}
use Rattle.chan_syntax.specs.declared.operands.Supply.TheVariants as v
use Rattle.chan_syntax.specs.declared.operands.Letter.{Letter}
use Rattle.chan_syntax.specs.declared.operands.Letter.TheVariants as letter
use Rattle.text_tokens.specs.Word.{HasForm, IsToken}
use Rattle.text_tokens.specs.Text.{Piece, Token}
use Rattle.text_tokens.proofs.Forms.{no_form-nil}
use Rattle.grammar_laws.specs.Grammar as g
use Rattle.grammar_laws.specs.Grammar.{Below}
use Rattle.surface_spelling.specs.Layout.{space, listed as listed_pieces, in_brackets}
use Rattle.surface_spelling.specs.Operands as s
use Rattle.surface_spelling.specs.Operands.{a_name, letter_byte}
use Rattle.surface_spelling.specs.Erased as e
use Rattle.surface_spelling.proofs.Spelled.{value_unit, value_pair, value_arm, value_sum}
use Rattle.surface_grammar.specs.declared.words.Word.{Word}
use Rattle.surface_grammar.specs.declared.words.Word.TheVariants as w
use Rattle.surface_grammar.specs.declared.parts.Names.{Names}
use Rattle.surface_grammar.specs.declared.parts.Digits.{Digits}
use Rattle.surface_grammar.specs.declared.parts.Route.{Route}
use Rattle.surface_grammar.specs.Words.{spelling, code, code_of, name_code}
use Rattle.surface_grammar.specs.Language.{body}
use Rattle.surface_grammar.specs.Grammar.{AValue, cover, word, ◌◁◌, is_letter, letter_of, names, letters}
use Rattle.surface_grammar.specs.Operands.{pair, parenthesized, numbered_value, value, values, given_values, bracketed, names_if_any, pat, route, ratio, minus_mention, plain_mention, mention, mentions, mentions_to_brace}
use Rattle.spelling_cuts.specs.Words.{words, AreTokens}
use Rattle.spelling_laws.proofs.WordTokens.{word_of, is_name}
use Rattle.spelling_laws.proofs.Kept.{tokens_back, behind_one, Levels, Has, Kept, Written, Any, written_nest, any_seq, any_nest, one_again, word_kept, kept_when, kept_pure, kept_seq, kept_either, kept_call, kept_spanned, kept_nest, kept_nest_when, kept_tagged, kept_map, kept_behind_when, kept_behind, kept_before, kept_listed, kept_closed, kept_parens, parens_words, brackets_words, pair_words}
use Rattle.spelling_laws.proofs.KeptTerms.{names_of, digits, name_token, number_token, name_at, name_kept, number_kept, arm_number_kept, names_kept, some_names, term_kept}

-- ---- values

erased_pair : (a b : Supply) → e.value (v.Pair a b) ≡ v.Pair (e.value a) (e.value b)
unfolding hidden hidden-the_row-Supply-0
erased_pair a b = refl

erased_arm : (i : ℕ) (a : Supply) → e.value (v.Arm i a) ≡ v.Arm i (e.value a)
unfolding hidden hidden-the_row-Supply-0
erased_arm i a = refl

one_value_kept : Kept (g.call AValue (λ x. x)) e.value (λ x. words (s.value x))
one_value_kept = kept_call 0 (λ x. refl) (λ x. refl)

unit_words : words (s.value v.Unit) ≡ word_of w.LeftParen ∷ word_of w.RightParen ∷ []
unfolding spelling
unit_words = ap words value_unit ∙ parens_words []

two_words : (a b : Supply) → words (s.value (v.Pair a b)) ≡ word_of w.LeftParen ∷ words (s.value a) ++ (word_of w.Comma ∷ words (s.value b) ++ word_of w.RightParen ∷ [])
two_words a b =
    ap words (value_pair a b) ∙ pair_words (s.value a) (s.value b)
    ∙ ap (λ (ts : List Token). word_of w.LeftParen ∷ ts) (append_assoc (words (s.value a)) (word_of w.Comma ∷ words (s.value b)) (word_of w.RightParen ∷ []))

pair_kept : Kept pair e.value (λ x. behind_one (words (s.value x)))
unfolding pair
pair_kept =
    kept_seq one_value_kept
    (kept_behind w.Comma {sa = λ y. words (s.value y) ++ word_of w.RightParen ∷ []} {spell = λ y. word_of w.Comma ∷ words (s.value y) ++ word_of w.RightParen ∷ []} (kept_before w.RightParen one_value_kept (λ y. refl)) (λ y. refl))
    erased_pair (λ a b. ap behind_one (two_words a b))

parenthesized_kept : Kept parenthesized e.value (λ x. behind_one (words (s.value x)))
unfolding parenthesized
parenthesized_kept = kept_either (kept_map (word_kept w.RightParen) (λ x. refl) (λ x. ap behind_one unit_words)) pair_kept

-- a list with a first word
pub headed : (ts us : List Token) (t : Token) → ts ≡ t ∷ us → ts ≡ t ∷ behind_one ts
headed ts us t same = same ∙ ap (λ (x : List Token). t ∷ x) (sym (ap behind_one same))

parenthesized_words : (x : Supply) → Any parenthesized x → words (s.value x) ≡ word_of w.LeftParen ∷ behind_one (words (s.value x))
unfolding parenthesized pair
parenthesized_words x some =
    elim some.3 [
      | inl d ↦ headed (words (s.value x)) (word_of w.RightParen ∷ []) (word_of w.LeftParen) (ap (λ (x : Supply). words (s.value x)) d.4 ∙ unit_words)
      | inr d ↦ headed (words (s.value x)) (words (s.value d.0) ++ (word_of w.Comma ∷ words (s.value d.1) ++ word_of w.RightParen ∷ [])) (word_of w.LeftParen) (ap (λ (x : Supply). words (s.value x)) d.4 ∙ two_words d.0 d.1)
    ]

pub not_zero : (i : ℕ) → (suc (suc i) == 0) ≡ false
not_zero i = grind (arith, common_steps)

pub not_one : (i : ℕ) → (suc (suc i) == 1) ≡ false
not_one i = grind (arith, common_steps)

-- the words of a tag, and what follows it
pub left_tag : (ps : List Piece) → words (s.tag 0 ++ ps) ≡ word_of w.Inl ∷ words ps
unfolding s.tag spelling
left_tag ps = refl

pub right_tag : (ps : List Piece) → words (s.tag 1 ++ ps) ≡ word_of w.Inr ∷ words ps
unfolding s.tag spelling
right_tag ps = refl

pub hash_tag : (i : ℕ) (ps : List Piece) → words (s.tag (suc (suc i)) ++ ps) ≡ word_of w.Hash ∷ number_token (suc (suc i)) ∷ words ps
unfolding s.tag spelling
hash_tag i ps = rw (not_zero i, not_one i) refl

-- a value whose tag is a word
arm_kept : (i : ℕ) (tag : Word) → ((a : Supply) → words (s.value (v.Arm i a)) ≡ word_of tag ∷ words (s.value a))
    → Kept (g.nest (code_of tag) (g.call AValue (v.Arm i))) e.value (λ x. words (s.value x))
arm_kept i tag is =
    kept_nest_when tag {sa = λ x. behind_one (words (s.value x))} (kept_call 0 (erased_arm i) (λ a. ap behind_one (is a)))
    (λ x some. headed (words (s.value x)) (words (s.value some.3.0)) (word_of tag) (ap (λ (x : Supply). words (s.value x)) some.3.1 ∙ is some.3.0))

left_words : (a : Supply) → words (s.value (v.Arm 0 a)) ≡ word_of w.Inl ∷ words (s.value a)
left_words a = ap words (value_arm 0 a) ∙ left_tag (space ∷ s.value a)

right_words : (a : Supply) → words (s.value (v.Arm 1 a)) ≡ word_of w.Inr ∷ words (s.value a)
right_words a = ap words (value_arm 1 a) ∙ right_tag (space ∷ s.value a)

-- the words behind `#`, for each number
abbrev numbered_words : Supply → List Token
numbered_words (Arm' i m a) = number_token i ∷ words (s.boxed_value a)
numbered_words _ = []

numbered_arm : (i : ℕ) (a : Supply) → numbered_words (v.Arm i a) ≡ number_token i ∷ words (s.value a)
unfolding hidden hidden-the_row-Supply-0 s.boxed_value
numbered_arm i a = refl

numbered_kept : Kept numbered_value e.value numbered_words
unfolding numbered_value
numbered_kept = kept_seq arm_number_kept one_value_kept erased_arm numbered_arm

hash_words : (i : ℕ) (a : Supply) → words (s.value (v.Arm (suc (suc i)) a)) ≡ word_of w.Hash ∷ numbered_words (v.Arm (suc (suc i)) a)
hash_words i a =
    ap words (value_arm (suc (suc i)) a) ∙ hash_tag i (space ∷ s.value a) ∙ ap (λ (ts : List Token). word_of w.Hash ∷ ts) (sym (numbered_arm (suc (suc i)) a))

-- behind `#`: a number, and what may stand behind a tag
behind_hash : (n : ℕ) (y : Supply) (us : List Token) → AreTokens us → Below code body n Supply numbered_value y us
    → (i : ℕ) × (a : Supply) × (vs : List Token) × AreTokens vs × (y ≡ v.Arm i a) × Below code body n Supply (g.call AValue (v.Arm i)) y vs
unfolding numbered_value
behind_hash zero y us proper d = absurd d
behind_hash (suc m) y us proper d =
    (d.0, d.1, d.3, tokens_back d.2 d.3 (subst AreTokens d.5 proper), d.4, (d.7.0, d.4 ∙ ap (v.Arm d.0) d.7.1, d.7.2))

module _ (l : Levels) where
  -- by `inl` or `inr`, or by a number that is neither 0 nor 1
  abbrev IsTagged : Supply → Type 0
  IsTagged y =
      Written l (g.nest (code_of w.Inl) (g.call AValue (v.Arm 0))) y
      ⊎ (Written l (g.nest (code_of w.Inr) (g.call AValue (v.Arm 1))) y ⊎ (words (s.value y) ≡ word_of w.Hash ∷ numbered_words y))

  by_tag : (i : ℕ) (y a : Supply) (us : List Token) → AreTokens us → y ≡ v.Arm i a → Below code body l.n Supply (g.call AValue (v.Arm i)) y us → IsTagged y
  by_tag zero y a us proper is d = inl (written_nest l w.Inl (g.call AValue (v.Arm 0)) y us proper d)
  by_tag (suc zero) y a us proper is d = inr (inl (written_nest l w.Inr (g.call AValue (v.Arm 1)) y us proper d))
  by_tag (suc (suc i)) y a us proper is d =
      inr (inr (subst (λ (y : Supply). words (s.value y) ≡ word_of w.Hash ∷ numbered_words y) (sym is) (hash_words i a)))

  tagged : (y : Supply) (ts : List Token) → AreTokens ts → Has l (g.nest (code_of w.Hash) numbered_value) y ts → IsTagged y
  tagged y ts proper d =
      let q = behind_hash l.n y d.1 (tokens_back (d.0 ∷ []) d.1 (subst AreTokens d.2 proper)) d.4 in
      by_tag q.0 y q.1 q.2 q.3 q.4 q.5

pub value_kept : Kept value e.value (λ x. words (s.value x))
unfolding value
value_kept =
    kept_either (kept_nest_when w.LeftParen parenthesized_kept parenthesized_words)
    (kept_tagged (arm_kept 0 w.Inl left_words) (arm_kept 1 w.Inr right_words) (kept_nest w.Hash {spell = λ x. word_of w.Hash ∷ numbered_words x} numbered_kept (λ x. refl))
    (kept_map term_kept (λ t. refl) (λ t. ap words (value_sum t))) tagged)

values_kept : Kept values (map e.value) (λ xs. words (listed_pieces s.value xs))
unfolding values
values_kept = kept_listed s.value value_kept

pub given_values_kept : Kept given_values (map e.value) (λ xs. words (s.values xs))
unfolding given_values s.values
given_values_kept = kept_parens s.value values_kept

-- ---- patterns

pub bracketed_kept : Kept bracketed names_of (λ ns. words (in_brackets (listed_pieces a_name ns.names)))
unfolding bracketed
bracketed_kept = kept_nest w.LeftBracket (kept_before w.RightBracket names_kept (λ ns. refl)) (λ ns. brackets_words (listed_pieces a_name ns.names))

some_bracketed : (ns : Names) → Any bracketed ns → (n : List ℕ) × (more : List (List ℕ)) × (ns.names ≡ n ∷ more)
unfolding bracketed
some_bracketed ns some =
    let two = any_seq (λ x y. x) names (word w.RightBracket) ns (any_nest w.LeftBracket (names ◁ word w.RightBracket) ns some) in
    subst (λ (ns : Names). (n : List ℕ) × (more : List (List ℕ)) × (ns.names ≡ n ∷ more)) (sym two.2) (some_names two.0 two.3)

behind_words : (names : List (List ℕ)) → (n : List ℕ) × (more : List (List ℕ)) × (names ≡ n ∷ more) → words (s.names_behind names) ≡ words (in_brackets (listed_pieces a_name names))
unfolding s.names_behind
behind_words names some = rw some.2 refl

pub bracketed_words : (ns : Names) → Any bracketed ns → words (s.names_behind ns.names) ≡ words (in_brackets (listed_pieces a_name ns.names))
bracketed_words ns some = behind_words ns.names (some_bracketed ns some)

pub bracketed_behind_kept : Kept bracketed names_of (λ ns. words (s.names_behind ns.names))
bracketed_behind_kept = kept_when bracketed_kept (λ l ns ts proper d. bracketed_words ns (l, ts, proper, d))

names_if_any_kept : Kept names_if_any names_of (λ ns. words (s.names_behind ns.names))
unfolding names_if_any s.names_behind
names_if_any_kept = kept_either bracketed_behind_kept (kept_pure refl)

pub pat_kept : Kept pat e.pat (λ p. words (s.pat p))
unfolding pat s.pat
pat_kept = kept_seq name_kept names_if_any_kept (λ n ns. refl) (λ n ns. refl)

-- ---- paths

abbrev pub route_of : Route → Route
route_of r = record { path = r.path; span = e.place r.span }

by_letter : (c : Bool) (b : ℕ) → (b == 108) ≡ c → is_letter b ≡ true → letter_byte (if c then letter.Left else letter.Right) ≡ b
by_letter true b same letter = sym (eqb-true b 108 same)
by_letter false b same letter =
    elim (or_cases (b == 108) (b == 114) letter) [
      | inl h ↦ cc
      | inr h ↦ sym (eqb-true b 114 h)
    ]

letters_are : (bs : List ℕ) → list_all is_letter bs ≡ true → map letter_byte (map letter_of bs) ≡ bs
letters_are [] all = refl
letters_are (b ∷ bs) all =
    let parts = and_parts (is_letter b) (list_all is_letter bs) all in
    ap₂ (λ (x : ℕ) (xs : List ℕ). x ∷ xs) (by_letter (b == 108) b refl parts.0) (letters_are bs parts.1)

letters_kept : Kept letters route_of (λ r. name_token (map letter_byte r.path) ∷ [])
unfolding letters
letters_kept =
    record {
      again = λ l y ts proper d.
          let is : IsToken d.0.kind d.0.text = (subst AreTokens d.1 proper).0 in
          let kind = is_name d.0 d.2 in
          let path = ap (λ (r : Route). r.path) d.4 in
          let text = ap (map letter_byte) path ∙ letters_are d.0.text d.3 in
          let span = ap (λ (r : Route). e.place r.span) d.4 in
          one_again l name_code (λ t. list_all is_letter t.text) (λ t. record { path = map letter_of t.text; span = Some t.span }) route_of y (name_token (map letter_byte y.path))
          (rw text (subst (λ k. IsToken k d.0.text) kind is))
          (λ u s.
          let at = name_at u (map letter_byte y.path) s in
          let same = at.1 ∙ text in (
            at.0,
            ap (list_all is_letter) same ∙ d.3,
            ap₂ (λ (p : List Letter) (q : Option Span). record { path = p; span = q }) (ap (map letter_of) same ∙ sym path) (sym span),
          ));
    }

some_letters : (r : Route) → Any letters r → (l : Letter) × (more : List Letter) × (r.path ≡ l ∷ more)
unfolding letters
some_letters r some =
    let d = some.3 in
    let is : IsToken d.0.kind d.0.text = (subst AreTokens d.1 some.2).0 in
    by_text d.0.text (λ none. no_form-nil d.0.kind (subst (λ (w : List ℕ). HasForm d.0.kind w) none is.0)) (ap (λ (r : Route). r.path) d.4)
  where
    by_text : (text : List ℕ) → (text ≡ [] → ⊥) → r.path ≡ map letter_of text → (l : Letter) × (more : List Letter) × (r.path ≡ l ∷ more)
    by_text [] some same = absurd (some refl)
    by_text (b ∷ bs) some same = (letter_of b, map letter_of bs, same)

path_words : (ls : List Letter) → (l : Letter) × (more : List Letter) × (ls ≡ l ∷ more) → words (s.path ls) ≡ word_of w.Via ∷ name_token (map letter_byte ls) ∷ []
unfolding s.path spelling
path_words ls some = rw some.2 refl

pub route_kept : Kept route route_of (λ r. words (s.path r.path))
unfolding route s.path
route_kept = kept_either (kept_behind_when w.Via letters_kept (λ r some. path_words r.path (some_letters r some))) (kept_pure refl)

-- ---- mentions

ratio_kept : Kept ratio (λ (p : Digits × Digits). (digits p.0, digits p.1)) (λ (p : Digits × Digits). number_token p.0.value ∷ word_of w.Hash ∷ number_token p.1.value ∷ [])
unfolding ratio
ratio_kept = kept_seq number_kept (kept_behind w.Hash {spell = λ d. word_of w.Hash ∷ number_token d.value ∷ []} number_kept (λ d. refl)) (λ a b. refl) (λ a b. refl)

pub minus_mention_kept : Kept minus_mention e.mention (λ m. words (s.mention m))
unfolding minus_mention s.mention spelling cover
minus_mention_kept =
    kept_spanned {sa = λ (p : Digits × Digits). word_of w.Minus ∷ number_token p.0.value ∷ word_of w.Hash ∷ number_token p.1.value ∷ []} (kept_behind w.Minus ratio_kept (λ p. refl)) (λ ts p. refl) (λ ts p. refl)

pub plain_mention_kept : Kept plain_mention e.mention (λ m. words (s.mention m))
unfolding plain_mention s.mention spelling cover
plain_mention_kept = kept_spanned ratio_kept (λ ts p. refl) (λ ts p. refl)

pub mention_kept : Kept mention e.mention (λ m. words (s.mention m))
unfolding mention
mention_kept = kept_either minus_mention_kept plain_mention_kept

mentions_kept : Kept mentions (map e.mention) (λ ms. words (listed_pieces s.mention ms))
unfolding mentions
mentions_kept = kept_listed s.mention mention_kept

pub mentions_to_brace_kept : Kept mentions_to_brace (map e.mention) (λ ms. words (listed_pieces s.mention ms) ++ word_of w.RightBrace ∷ [])
unfolding mentions_to_brace listed_pieces
mentions_to_brace_kept = kept_closed w.RightBrace mentions_kept refl
