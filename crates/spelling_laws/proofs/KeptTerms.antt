-- Terms, resources and what they are made of are derived by their canonical words again.
use Rattle.std.proofs.Common.{◌≡◌, ℕ, ◌≤◌, ◌==◌, nat_le, int_lt, pos, unsigned_abs, inl, inr, Bool, true, false, if◌then◌else◌, List, [], ◌∷◌, ◌++◌, map, codes, decimal, Option, Some, None, option_map, refl, sym, ◌∙◌, ap, subst, append-nil, append_assoc, arith}
use Rattle.std.proofs.lemmas.Grind.{common_steps}
use Rattle.std.proofs.lemmas.Bool.{eqb-true, eq-eqb}
use Rattle.chan_syntax.specs.declared.linear.Part.{Part}
use Rattle.chan_syntax.specs.declared.linear.Term.{Term}
use Rattle.chan_syntax.specs.declared.linear.Relation.{Relation}
use Rattle.chan_syntax.specs.declared.linear.Relation.TheVariants as r
use Rattle.chan_syntax.specs.declared.linear.Limit.{Limit}
use Rattle.chan_syntax.specs.declared.linear.Bound.{Bound}
use Rattle.text_tokens.specs.declared.TokenKind.TheVariants.{Name, Number}
use Rattle.text_tokens.specs.Word.{IsToken}
use Rattle.text_tokens.specs.Word.{limit as largest}
use Rattle.text_tokens.specs.Text.{Piece, Token}
use Rattle.grammar_laws.specs.Grammar as g
use Rattle.surface_spelling.specs.Layout.{mark, name as name_piece, number as number_piece, space, listed as listed_pieces, behind_commas, in_parens, pair}
use Rattle.surface_spelling.specs.Operands as s
use Rattle.surface_spelling.specs.Operands.{a_name, relation_mark}
use Rattle.surface_spelling.specs.Erased as e
use Rattle.surface_grammar.specs.declared.words.Word.TheVariants as w
use Rattle.surface_grammar.specs.declared.parts.Named.{Named}
use Rattle.surface_grammar.specs.declared.parts.Names.{Names}
use Rattle.surface_grammar.specs.declared.parts.Digits.{Digits}
use Rattle.surface_grammar.specs.Words.{spelling, code, name_code, number_code}
use Rattle.surface_grammar.specs.Grammar.{cover, word, ◌◁◌, ◌⇒◌, number_of, name, number, arm_number, the_number, names, parted}
use Rattle.surface_grammar.specs.Terms.{part_of, times, number_prod, prod, minus_prod, first_part, next_part, more_parts, term, terms, one_term, two_terms, term_and_number, relation, limit, limits, limits_to_bracket, binds, bound, dual, args, reference}
use Rattle.spelling_cuts.specs.Words.{bare, words, AreTokens}
use Rattle.spelling_laws.proofs.WordTokens.{word_of, code_at, is_name, is_number, decimal_is_token}
use Rattle.spelling_laws.proofs.Kept.{words-append, Again, again_by, Levels, Has, Kept, Any, one_again, word_kept, kept_when, kept_pure, kept_seq, kept_two, kept_either, kept_many, kept_spanned, kept_nest, kept_map, kept_behind_when, kept_before, kept_behind_map, kept_listed, any_seq, any_nest, parens_words, brackets_words, kept_pair, kept_parens}

-- ---- names and numbers

abbrev pub named : Named → Named
named n = record { name = n.name; span = e.nowhere }

abbrev pub names_of : Names → Names
names_of ns = record { names = ns.names; spans = e.places ns.spans }

abbrev pub digits : Digits → Digits
digits d = record { value = d.value; span = e.nowhere }

-- the token of a name
abbrev pub name_token : List ℕ → Token
name_token n = record { kind = Name; text = n; span = e.nowhere }

-- the token of a number
abbrev pub number_token : ℕ → Token
number_token n = record { kind = Number n; text = decimal n; span = e.nowhere }

pub name_at : (u : Token) (n : List ℕ) → bare u ≡ name_token n → (code u ≡ name_code) × (u.text ≡ n)
name_at u n s = (code_at u Name n (ap (λ (t : Token). t.kind) s) (ap (λ (t : Token). t.text) s), ap (λ (t : Token). t.text) s)

pub name_kept : Kept name named (λ n. name_token n.name ∷ [])
unfolding name
name_kept =
    record {
      again = λ l y ts proper d.
          let is : IsToken d.0.kind d.0.text = (subst AreTokens d.1 proper).0 in
          let kind = is_name d.0 d.2 in
          let text = ap (λ (n : Named). n.name) d.4 in
          one_again l name_code (λ t. true) (λ t. record { name = t.text; span = t.span }) named y (name_token y.name)
          (rw text (subst (λ k. IsToken k d.0.text) kind is))
          (λ u s. let at = name_at u y.name s in (at.0, refl, ap (λ (n : List ℕ). record { name = n; span = e.nowhere }) at.1));
    }

number_at : (u : Token) (n : ℕ) → bare u ≡ number_token n → (code u ≡ number_code) × (number_of u.kind ≡ n)
number_at u n s =
    let kind = ap (λ (t : Token). t.kind) s in
    (code_at u (Number n) (decimal n) kind (ap (λ (t : Token). t.text) s), ap number_of kind)

-- the canonical token of the number of a token
numeral : (t : Token) (n : ℕ) → IsToken t.kind t.text → code t ≡ number_code → number_of t.kind ≡ n → IsToken (Number n) (decimal n)
numeral t n is number same = decimal_is_token n (subst (λ (n : ℕ). n ≤ largest) same (subst (λ k. IsToken k t.text) (is_number t number) is).1)

pub number_kept : Kept number digits (λ d. number_token d.value ∷ [])
unfolding number
number_kept =
    record {
      again = λ l y ts proper d.
          let value : y.value ≡ number_of d.0.kind = ap (λ (x : Digits). x.value) d.4 in
          one_again l number_code (λ t. nat_le (number_of t.kind) largest) (λ t. record { value = number_of t.kind; span = t.span }) digits y (number_token y.value)
          (numeral d.0 y.value (subst AreTokens d.1 proper).0 d.2 (sym value))
          (λ u s.
          let at = number_at u y.value s in
          (at.0, ap (λ (n : ℕ). nat_le n largest) (at.1 ∙ value) ∙ d.3, ap (λ (n : ℕ). record { value = n; span = e.nowhere }) at.1));
    }

pub arm_number_kept : Kept arm_number (λ i. i) (λ i. number_token i ∷ [])
unfolding arm_number
arm_number_kept =
    record {
      again = λ l y ts proper d.
          one_again l number_code (λ t. nat_le (number_of t.kind) 15) (λ t. number_of t.kind) (λ i. i) y (number_token y)
          (numeral d.0 y (subst AreTokens d.1 proper).0 d.2 (sym d.4))
          (λ u s. let at = number_at u y s in (at.0, ap (λ (n : ℕ). nat_le n 15) (at.1 ∙ d.4) ∙ d.3, at.1));
    }

pub the_number_kept : (i : ℕ) → Kept (the_number i) (λ x. x) (λ x. number_token i ∷ [])
unfolding the_number
the_number_kept i =
    record {
      again = λ l y ts proper d.
          one_again l number_code (λ t. number_of t.kind == i) (λ t. tt {0}) (λ x. x) y (number_token i)
          (numeral d.0 i (subst AreTokens d.1 proper).0 d.2 (eqb-true (number_of d.0.kind) i d.3))
          (λ u s. let at = number_at u i s in (at.0, eq-eqb (number_of u.kind) i at.1, sym d.4));
    }

same_names : (ns : List Named) → names_of (parted ns) ≡ parted (map named ns)
same_names [] = refl
same_names (n ∷ ns) =
    let i = same_names ns in
    ap (λ (x : Names). record { names = n.name ∷ x.names; spans = e.nowhere ∷ x.spans }) i

more_name_words : (ns : List Named) → words (behind_commas a_name (parted ns).names) ≡ words (behind_commas (λ (n : Named). a_name n.name) ns)
unfolding behind_commas
more_name_words [] = refl
more_name_words (n ∷ ns) = ap (λ (ts : List Token). words (mark (codes ",") ∷ a_name n.name) ++ ts) (more_name_words ns)

name_words : (ns : List Named) → words (listed_pieces a_name (parted ns).names) ≡ words (listed_pieces (λ (n : Named). a_name n.name) ns)
unfolding listed_pieces
name_words [] = refl
name_words (n ∷ ns) = ap (λ (ts : List Token). name_token n.name ∷ ts) (more_name_words ns)

pub names_kept : Kept names names_of (λ ns. words (listed_pieces a_name ns.names))
unfolding names
names_kept = kept_map (kept_listed (λ (n : Named). a_name n.name) name_kept) same_names name_words

-- ---- terms

-- a name behind a factor
abbrev pub times_words : Option (List ℕ) → List Token
times_words None = []
times_words (Some n) = word_of w.Star ∷ name_token n ∷ []

abbrev pub name_in : Option Named → Option (List ℕ)
name_in n = option_map (λ (x : Named). x.name) n

times_kept : Kept times (option_map named) (λ n. times_words (name_in n))
unfolding times spelling
times_kept = kept_either (kept_behind_map w.Star name_kept (λ n. refl) (λ n. refl)) (kept_pure refl)

-- the words of a factor and a name behind it, a factor 1 too
abbrev full : Part → List Token
full p = number_token (unsigned_abs p.factor) ∷ times_words p.name

number_prod_kept : Kept number_prod e.part full
unfolding number_prod
number_prod_kept = kept_seq number_kept times_kept same is
  where
    same : (d : Digits) (n : Option Named) → e.part (part_of d.value n) ≡ part_of d.value (option_map named n)
    same d None = refl
    same d (Some n) = refl

    is : (d : Digits) (n : Option Named) → full (part_of d.value n) ≡ number_token d.value ∷ times_words (name_in n)
    is d None = refl
    is d (Some n) = refl

abbrev product_words : Part → List Token
product_words p = words (s.product (unsigned_abs p.factor) p.name)

name_prod_kept : Kept (name ⇒ (λ n. part_of 1 (Some n))) e.part product_words
unfolding s.product
name_prod_kept = kept_map name_kept (λ n. refl) (λ n. refl)

module _ (l : Levels) where
  by_number_prod : (y : Part) (ws : List Token) → Again (Has l number_prod) e.part y ws → Again (Has l prod) e.part y ws
  unfolding prod
  by_number_prod y ws a = again_by (λ z us i. inl i) a

  by_name_prod : (y : Part) (ws : List Token) → Again (Has l (name ⇒ (λ n. part_of 1 (Some n)))) e.part y ws → Again (Has l prod) e.part y ws
  unfolding prod
  by_name_prod y ws a = again_by (λ z us i. inr i) a

  a_named : (m : Named) → Has l name m (record { kind = Name; text = m.name; span = m.span } ∷ [])
  unfolding name
  a_named m = let t : Token = record { kind = Name; text = m.name; span = m.span } in (t, refl, code_at t Name m.name refl refl, refl, refl)

  -- a factor 1 is not written
  without_factor : (m : Named) → IsToken Name m.name → Again (Has l prod) e.part (part_of 1 (Some m)) (name_token m.name ∷ [])
  unfolding s.product
  without_factor m is =
      let t : Token = record { kind = Name; text = m.name; span = m.span } in
      by_name_prod (part_of 1 (Some m)) (name_token m.name ∷ [])
      (name_prod_kept.again l (part_of 1 (Some m)) (t ∷ []) (is, tt) (m, tt, t ∷ [], [], refl, refl, a_named m, (refl, refl)))

  by_factor : (v : ℕ) (m : Named) → Again (Has l number_prod) e.part (part_of v (Some m)) (full (part_of v (Some m))) → (b : Bool) → (v == 1) ≡ b
      → Again (Has l prod) e.part (part_of v (Some m)) (words (if b then a_name m.name else number_piece v ∷ mark (codes "*") ∷ name_piece m.name ∷ []))
  unfolding spelling
  by_factor v m a true one =
      subst (λ (v : ℕ). Again (Has l prod) e.part (part_of v (Some m)) (name_token m.name ∷ [])) (sym (eqb-true v 1 one)) (without_factor m a.0.1.1.0)
  by_factor v m a false other = by_number_prod (part_of v (Some m)) (full (part_of v (Some m))) a

  with_factor : (v : ℕ) (n : Option Named) → Again (Has l number_prod) e.part (part_of v n) (full (part_of v n)) → Again (Has l prod) e.part (part_of v n) (product_words (part_of v n))
  unfolding s.product
  with_factor v None a = by_number_prod (part_of v None) (full (part_of v None)) a
  with_factor v (Some m) a = by_factor v m a (v == 1) refl

  from_number : (y : Part) (ts : List Token) → AreTokens ts → Has l number_prod y ts → Again (Has l prod) e.part y (product_words y)
  unfolding number_prod
  from_number y ts proper d =
      let a = number_prod_kept.again l y ts proper d in
      subst (λ (y : Part). Again (Has l prod) e.part y (product_words y)) (sym d.4)
      (with_factor d.0.value d.1 (subst (λ (y : Part). Again (Has l number_prod) e.part y (full y)) d.4 a))

  from_prod : (y : Part) (ts : List Token) → AreTokens ts → Has l prod y ts → Again (Has l prod) e.part y (product_words y)
  unfolding prod
  from_prod y ts proper (inl d) = from_number y ts proper d
  from_prod y ts proper (inr d) = by_name_prod y (product_words y) (name_prod_kept.again l y ts proper d)

  not_negative : (v : ℕ) → int_lt (pos v) (pos 0) ≡ false
  not_negative v = grind (arith, common_steps)

  -- a product has no minus
  no_minus_of_number : (y : Part) (ts : List Token) → Has l number_prod y ts → s.has_minus y ≡ false
  unfolding number_prod s.has_minus
  no_minus_of_number y ts d = ap s.has_minus d.4 ∙ by_name d.0.value d.1
    where
      by_name : (v : ℕ) (n : Option Named) → s.has_minus (part_of v n) ≡ false
      by_name v None = not_negative v
      by_name v (Some n) = not_negative v

  no_minus : (y : Part) (ts : List Token) → Has l prod y ts → s.has_minus y ≡ false
  unfolding prod s.has_minus
  no_minus y ts (inl d) = no_minus_of_number y ts d
  no_minus y ts (inr d) = ap s.has_minus d.4

prod_kept : Kept prod e.part product_words
prod_kept = record { again = from_prod }

positive : (y : Part) → Any prod y → s.has_minus y ≡ false
positive y some = no_minus some.0 y some.1 some.3

minus_first_kept : Kept minus_prod e.part (λ p. words (s.first_part p))
unfolding minus_prod s.has_minus s.first_part spelling
minus_first_kept = kept_behind_map w.Minus prod_kept (λ p. refl) (λ p. refl)

minus_next_kept : Kept minus_prod e.part (λ p. words (s.next_part p))
unfolding minus_prod s.has_minus s.next_part spelling
minus_next_kept = kept_behind_map w.Minus prod_kept (λ p. refl) (λ p. refl)

first_of_product : (b : Bool) (ps : List Piece) → b ≡ false → words ((if b then mark (codes "-") ∷ [] else []) ++ ps) ≡ words ps
first_of_product true ps none = cc
first_of_product false ps none = refl

first_kept : Kept first_part e.part (λ p. words (s.first_part p))
unfolding first_part s.first_part
first_kept =
    kept_either minus_first_kept
    (kept_when prod_kept (λ l y ts proper d. first_of_product (s.has_minus y) (s.product (unsigned_abs y.factor) y.name) (positive y (l, ts, proper, d))))

plus_of_product : (b : Bool) (ps : List Piece) → b ≡ false → words (space ∷ (if b then mark (codes "-") else mark (codes "+")) ∷ space ∷ ps) ≡ word_of w.Plus ∷ words ps
unfolding spelling
plus_of_product true ps none = cc
plus_of_product false ps none = refl

next_kept : Kept next_part e.part (λ p. words (s.next_part p))
unfolding next_part s.next_part
next_kept =
    kept_either (kept_behind_when w.Plus prod_kept (λ y some. plus_of_product (s.has_minus y) (s.product (unsigned_abs y.factor) y.name) (positive y some))) minus_next_kept

pub more_parts_kept : Kept more_parts (map e.part) (λ ps. words (s.more_parts ps))
unfolding more_parts s.more_parts
more_parts_kept = kept_many next_kept refl (λ p ps. words-append (s.next_part p) (s.more_parts ps))

pub term_kept : Kept term e.term (λ t. words (s.term t))
unfolding term s.term s.sum cover
term_kept =
    kept_spanned {sa = λ ps. words (s.sum ps)} (kept_seq first_kept more_parts_kept (λ p ps. refl) (λ p ps. words-append (s.first_part p) (s.more_parts ps)))
    (λ ts ps. refl) (λ ts ps. refl)

pub terms_kept : Kept terms (map e.term) (λ ts. words (listed_pieces s.term ts))
unfolding terms
terms_kept = kept_listed s.term term_kept

pub one_term_kept : Kept one_term e.term (λ t. words (in_parens (s.term t)))
unfolding one_term
one_term_kept = kept_nest w.LeftParen (kept_before w.RightParen term_kept (λ t. refl)) (λ t. parens_words (s.term t))

pub two_terms_kept : Kept two_terms (λ (p : Term × Term). (e.term p.0, e.term p.1)) (λ (p : Term × Term). words (pair (s.term p.0) (s.term p.1)))
unfolding two_terms
two_terms_kept = kept_pair s.term s.term term_kept term_kept

pub term_and_number_kept : Kept term_and_number (λ (p : Term × Digits). (e.term p.0, digits p.1)) (λ (p : Term × Digits). words (pair (s.term p.0) (number_piece p.1.value ∷ [])))
unfolding term_and_number
term_and_number_kept = kept_pair s.term (λ (d : Digits). number_piece d.value ∷ []) term_kept number_kept

-- ---- binders

relation_kept : Kept relation (λ x. x) (λ x. words (relation_mark x ∷ []))
unfolding relation spelling
relation_kept =
    kept_either (kept_map (word_kept w.AtMost) (λ x. refl) (λ x. refl))
    (kept_either (kept_map (word_kept w.Less) (λ x. refl) (λ x. refl)) (kept_map (word_kept w.Equals) (λ x. refl) (λ x. refl)))

relation_words : (x : Relation) (ps : List Piece) → words (relation_mark x ∷ ps) ≡ words (relation_mark x ∷ []) ++ words ps
relation_words r.AtMost ps = refl
relation_words r.Less ps = refl
relation_words r.Same ps = refl

limit_kept : Kept limit e.limit (λ l. words (s.limit l))
unfolding limit s.limit
limit_kept =
    kept_seq term_kept (kept_two relation_kept term_kept) (λ a p. refl)
    (λ a p. words-append (s.term a) (space ∷ relation_mark p.0 ∷ space ∷ s.term p.1) ∙ ap (λ (ts : List Token). words (s.term a) ++ ts) (relation_words p.0 (space ∷ s.term p.1)))

limits_kept : Kept limits (map e.limit) (λ ls. words (listed_pieces s.limit ls))
unfolding limits
limits_kept = kept_listed s.limit limit_kept

no_limits : (x : Limit) (xs : List Limit) → words (s.limits (x ∷ xs)) ≡ word_of w.Colon ∷ words (listed_pieces s.limit (x ∷ xs))
unfolding s.limits spelling
no_limits x xs = refl

some_limits : (ls : List Limit) → Any limits ls → words (s.limits ls) ≡ word_of w.Colon ∷ words (listed_pieces s.limit ls)
unfolding limits
some_limits [] some = let none = some.3.4 in cc
some_limits (x ∷ xs) some = no_limits x xs

closed_limits : (ls : List Limit) → Any (limits ◁ word w.RightBracket) ls → words (s.limits ls) ≡ word_of w.Colon ∷ words (listed_pieces s.limit ls)
closed_limits ls some =
    let two = any_seq (λ x y. x) limits (word w.RightBracket) ls some in
    subst (λ (ls : List Limit). words (s.limits ls) ≡ word_of w.Colon ∷ words (listed_pieces s.limit ls)) (sym two.2) (some_limits two.0 two.3)

limits_to_bracket_kept : Kept limits_to_bracket (map e.limit) (λ ls. words (s.limits ls) ++ word_of w.RightBracket ∷ [])
unfolding limits_to_bracket s.limits
limits_to_bracket_kept =
    kept_either
    (kept_behind_when w.Colon {sa = λ ls. words (listed_pieces s.limit ls) ++ word_of w.RightBracket ∷ []} (kept_before w.RightBracket limits_kept (λ ls. refl))
    (λ ls some. ap (λ (ts : List Token). ts ++ word_of w.RightBracket ∷ []) (closed_limits ls some)))
    (kept_map (word_kept w.RightBracket) (λ x. refl) (λ x. refl))

binds_parts : (ns : List (List ℕ)) (ls : List Limit) → words (s.binds ns ls) ≡ word_of w.LeftBracket ∷ words (listed_pieces a_name ns) ++ (words (s.limits ls) ++ word_of w.RightBracket ∷ [])
unfolding s.binds
binds_parts ns ls =
    brackets_words (listed_pieces a_name ns ++ s.limits ls)
    ∙ ap (λ (ts : List Token). word_of w.LeftBracket ∷ ts ++ word_of w.RightBracket ∷ []) (words-append (listed_pieces a_name ns) (s.limits ls))
    ∙ ap (λ (ts : List Token). word_of w.LeftBracket ∷ ts) (append_assoc (words (listed_pieces a_name ns)) (words (s.limits ls)) (word_of w.RightBracket ∷ []))

binds_kept : Kept binds e.bound (λ b. words (s.binds b.names b.limits))
unfolding binds
binds_kept =
    kept_nest w.LeftBracket {sa = λ b. words (listed_pieces a_name b.names) ++ (words (s.limits b.limits) ++ word_of w.RightBracket ∷ [])}
    (kept_seq names_kept limits_to_bracket_kept (λ ns ls. refl) (λ ns ls. refl)) (λ b. binds_parts b.names b.limits)

-- names are some
pub some_names : (ns : Names) → Any names ns → (n : List ℕ) × (more : List (List ℕ)) × (ns.names ≡ n ∷ more)
unfolding names
some_names ns some =
    let d = some.3 in
    (d.6.0.name, map (λ (x : Named). x.name) d.6.1, ap (λ (x : Names). x.names) d.4 ∙ ap (λ (xs : List Named). map (λ (x : Named). x.name) xs) d.6.4)

some_binds : (b : Bound) → Any binds b → (n : List ℕ) × (more : List (List ℕ)) × (b.names ≡ n ∷ more)
unfolding binds
some_binds b some =
    let parts = any_seq (λ (ns : Names) (ls : List Limit). record { names = ns.names; names_spans = ns.spans; limits = ls }) names limits_to_bracket b
    (any_nest w.LeftBracket (g.seq (λ (ns : Names) (ls : List Limit). record { names = ns.names; names_spans = ns.spans; limits = ls }) names limits_to_bracket) b some) in
    let ns = some_names parts.0 parts.3 in
    (ns.0, ns.1, ap (λ (x : Bound). x.names) parts.2 ∙ ns.2)

before_words : (names : List (List ℕ)) (ls : List Limit) → (n : List ℕ) × (more : List (List ℕ)) × (names ≡ n ∷ more) → words (s.binds_before names ls) ≡ words (s.binds names ls)
unfolding s.binds_before
before_words names ls some =
    rw some.2 (words-append (s.binds (some.0 ∷ some.1) ls) (space ∷ []) ∙ append-nil (words (s.binds (some.0 ∷ some.1) ls)))

behind_words : (names : List (List ℕ)) (ls : List Limit) → (n : List ℕ) × (more : List (List ℕ)) × (names ≡ n ∷ more) → words (s.binds_behind names ls) ≡ words (s.binds names ls)
unfolding s.binds_behind
behind_words names ls some = rw some.2 refl

pub bound_before_kept : Kept bound e.bound (λ b. words (s.binds_before b.names b.limits))
unfolding bound s.binds_before
bound_before_kept = kept_either (kept_when binds_kept (λ l b ts proper d. before_words b.names b.limits (some_binds b (l, ts, proper, d)))) (kept_pure refl)

pub bound_behind_kept : Kept bound e.bound (λ b. words (s.binds_behind b.names b.limits))
unfolding bound s.binds_behind
bound_behind_kept = kept_either (kept_when binds_kept (λ l b ts proper d. behind_words b.names b.limits (some_binds b (l, ts, proper, d)))) (kept_pure refl)

-- ---- references

dual_kept : Kept dual (λ b. b) (λ b. words (if b then mark (codes "~") ∷ [] else []))
unfolding dual spelling
dual_kept = kept_either (kept_map (word_kept w.Tilde) (λ x. refl) (λ x. refl)) (kept_pure refl)

args_kept : Kept args (map e.term) (λ ts. words (in_parens (listed_pieces s.term ts)))
unfolding args
args_kept = kept_parens s.term terms_kept

pub reference_kept : Kept reference e.reference (λ x. words (s.reference x))
unfolding reference s.reference cover
reference_kept =
    kept_spanned (kept_two dual_kept (kept_two name_kept args_kept)) (λ ts p. refl)
    (λ ts p. words-append (if p.0 then mark (codes "~") ∷ [] else []) (name_piece p.1.0.name ∷ in_parens (listed_pieces s.term p.1.1)))
