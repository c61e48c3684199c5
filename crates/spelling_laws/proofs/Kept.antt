-- Trees that their canonical words derive again, places aside: how this passes from the parts of a grammar to the whole.
use Rattle.std.proofs.Common.{◌≡◌, ℕ, zero, suc, ◌<◌, ◌⊎◌, inl, inr, Bool, true, List, [], ◌∷◌, ◌++◌, map, refl, sym, ◌∙◌, ap, ap₂, subst, append-nil, append_assoc, codes, arith}
use Rattle.text_tokens.specs.Word.{IsToken}
use Rattle.text_tokens.specs.Text.{Piece, separator, comment, token, Token}
use Rattle.grammar_laws.specs.Grammar as g
use Rattle.grammar_laws.specs.Grammar.{Reading, Each, Derives, Below, Named}
use Rattle.surface_spelling.specs.Layout.{mark, space, behind_commas, listed as listed_pieces, in_parens, in_brackets, pair}
use Rattle.surface_spelling.specs.Operands.{value, res}
use Rattle.surface_spelling.specs.Blocks.{block}
use Rattle.surface_spelling.specs.Erased as e
use Rattle.surface_grammar.specs.declared.words.Word.{Word}
use Rattle.surface_grammar.specs.declared.words.Word.TheVariants as w
use Rattle.surface_grammar.specs.Words.{spelling, code_of, code}
use Rattle.surface_grammar.specs.Grammar.{G, Rule, AValue, ARes, ABlock, TreeOf, word, ◌▷◌, ◌◁◌, ◌⇒◌, repeated, up_to, listed, closed}
use Rattle.surface_grammar.specs.Language.{body}
use Rattle.spelling_cuts.specs.Words.{bare, words, AreTokens}
use Rattle.spelling_laws.proofs.WordTokens.{word_of, word_is_token, code_is_word}

-- ---- lists of tokens

pub words-append : (a b : List Piece) → words (a ++ b) ≡ words a ++ words b
words-append [] b = refl
words-append (separator x ∷ a) b = words-append a b
words-append (comment bytes ∷ a) b = words-append a b
words-append (token kind text ∷ a) b = ap (λ (ts : List Token). record { kind = kind; text = text; span = e.nowhere } ∷ ts) (words-append a b)

pub tokens_front : (u v : List Token) → AreTokens (u ++ v) → AreTokens u
tokens_front [] v p = tt
tokens_front (t ∷ u) v p = (p.0, tokens_front u v p.1)

pub tokens_back : (u v : List Token) → AreTokens (u ++ v) → AreTokens v
tokens_back [] v p = p
tokens_back (t ∷ u) v p = tokens_back u v p.1

pub tokens_both : (u v : List Token) → AreTokens u → AreTokens v → AreTokens (u ++ v)
tokens_both [] v p q = q
tokens_both (t ∷ u) v p q = (p.0, tokens_both u v p.1 q)

heads : (x y : Token) (xs ys : List Token) → x ∷ xs ≡ y ∷ ys → (x ≡ y) × (xs ≡ ys)
heads x y xs ys e = (cc, cc)

-- where the words split, the tokens do
pub split_at : (ts u v : List Token) → map bare ts ≡ u ++ v → (a : List Token) × (b : List Token) × (ts ≡ a ++ b) × (map bare a ≡ u) × (map bare b ≡ v)
split_at ts [] v e = ([], ts, refl, refl, e)
split_at [] (t ∷ u) v e = cc
split_at (s ∷ ts) (t ∷ u) v e =
    let q = heads (bare s) t (map bare ts) (u ++ v) e in
    let i = split_at ts u v q.1 in
    (s ∷ i.0, i.1, ap (λ (x : List Token). s ∷ x) i.2, ap₂ (λ (x : Token) (xs : List Token). x ∷ xs) q.0 i.3, i.4)

pub split_first : (ts : List Token) (t : Token) (us : List Token) → map bare ts ≡ t ∷ us → (s : Token) × (r : List Token) × (ts ≡ s ∷ r) × (bare s ≡ t) × (map bare r ≡ us)
split_first [] t us e = cc
split_first (s ∷ ts) t us e = let q = heads (bare s) t (map bare ts) us e in (s, ts, refl, q.0, q.1)

pub none_of : (ts : List Token) → map bare ts ≡ [] → ts ≡ []
none_of [] e = refl
none_of (t ∷ ts) e = cc

-- the words behind the first
abbrev pub behind_one : List Token → List Token
behind_one [] = []
behind_one (t ∷ ts) = ts

-- ---- what is kept

-- The words are tokens, and all tokens with these words derive the tree, places aside.
abbrev pub Again : {A : Type 0} → Reading Token A → (A → A) → A → List Token → Type 0
Again {A = A} R erase y ws = AreTokens ws × ((us : List Token) → map bare us ≡ ws → (z : A) × (erase z ≡ erase y) × R z us)

-- what derives the trees by one reading derives them by another that holds of more
pub again_by : {A : Type 0} {R S : Reading Token A} {erase : A → A} {y : A} {ws : List Token} → ((z : A) (us : List Token) → R z us → S z us) → Again R erase y ws → Again S erase y ws
again_by more a = (a.0, λ us s. let i = a.1 us s in (i.0, i.1, more i.0 us i.2))

-- the trees of names without places
abbrev pub erased : (x : Rule) → TreeOf x → TreeOf x
erased AValue = e.value
erased ARes = e.res
erased ABlock = e.block

-- their words, those of a block at this depth
abbrev pub spelled : ℕ → (x : Rule) → TreeOf x → List Token
spelled d AValue v = words (value v)
spelled d ARes r = words (res r)
spelled d ABlock b = words (block d b)

-- the trees of names are kept
abbrev pub KeepsNames : ((x : Rule) → Reading Token (TreeOf x)) → Type 0
KeepsNames names = (d : ℕ) (x : Rule) (y : TreeOf x) (ts : List Token) → AreTokens ts → names x y ts → Again (names x) (erased x) y (spelled d x y)

-- how many levels may be open, and how names are read
pub record Levels : Type 1 where
  pub n : ℕ
  pub names : (x : Rule) → Reading Token (TreeOf x)
  pub kept : KeepsNames names
  pub lower : (m : ℕ) → m < n → KeepsNames (Named code body m)

-- the tree has these tokens
abbrev pub Has : Levels → {A : Type 0} → G A → Reading Token A
Has l a = Derives code l.names (Below code body l.n) a

-- Each tree of the grammar is derived by its canonical words again, places aside.
pub record Kept {A : Type 0} (a : G A) (erase : A → A) (spell : A → List Token) : Type 1 where
  pub again : (l : Levels) (y : A) (ts : List Token) → AreTokens ts → Has l a y ts → Again (Has l a) erase y (spell y)

-- ---- single tokens

pub one_again : {A : Type 0} (l : Levels) (c : ℕ) (p : Token → Bool) (h : Token → A) (erase : A → A) (y : A) (t : Token) → IsToken t.kind t.text
    → ((u : Token) → bare u ≡ t → (code u ≡ c) × (p u ≡ true) × (erase (h u) ≡ erase y)) → Again (Has l (g.one c p h)) erase y (t ∷ [])
one_again l c p h erase y t is each = (
  (is, tt),
  λ us s.
      let u = split_first us t [] s in
      let f = each u.0 u.3 in
      (h u.0, f.2, (u.0, u.2 ∙ ap (λ (r : List Token). u.0 ∷ r) (none_of u.1 u.4), f.0, f.1, refl)),
)

pub word_kept : (v : Word) → Kept (word v) (λ x. x) (λ x. word_of v ∷ [])
word_kept v =
    record {
      again = λ l y ts proper d.
          one_again l (code_of v) (λ t. true) (λ t. tt {0}) (λ x. x) y (word_of v) (word_is_token v)
          (λ u s. (code_is_word v u (ap (λ (t : Token). t.kind) s) (ap (λ (t : Token). t.text) s), refl, sym d.4));
    }

-- ---- parts

-- the same words, for the trees that are derived
pub kept_when : {A : Type 0} {a : G A} {erase : A → A} {spell spell' : A → List Token} → Kept a erase spell
    → ((l : Levels) (y : A) (ts : List Token) → AreTokens ts → Has l a y ts → spell' y ≡ spell y) → Kept a erase spell'
kept_when {a = a} {erase = erase} k same =
    record { again = λ l y ts proper d. subst (Again (Has l a) erase y) (sym (same l y ts proper d)) (k.again l y ts proper d) }

pub kept_as : {A : Type 0} {a : G A} {erase : A → A} {spell spell' : A → List Token} → Kept a erase spell → ((y : A) → spell' y ≡ spell y) → Kept a erase spell'
kept_as k same = kept_when k (λ l y ts proper d. same y)

pub kept_pure : {A : Type 0} {x : A} {erase : A → A} {spell : A → List Token} → spell x ≡ [] → Kept (g.pure x) erase spell
kept_pure {x = x} {erase = erase} {spell = spell} none =
    record {
      again = λ l y ts proper d.
          let empty = ap spell d.0 ∙ none in
          (subst AreTokens (sym empty) tt, λ us s. (x, ap erase (sym d.0), (refl, none_of us (s ∙ empty))));
    }

pub kept_seq_when : {A B C : Type 0} {h : A → B → C} {a : G A} {b : G B} {ea : A → A} {eb : B → B} {erase : C → C} {sa : A → List Token} {sb : B → List Token} {spell : C → List Token}
    → Kept a ea sa → Kept b eb sb → ((x : A) (y : B) → erase (h x y) ≡ h (ea x) (eb y))
    → ((l : Levels) (x : A) (y : B) (u v : List Token) → AreTokens u → AreTokens v → Has l a x u → Has l b y v → spell (h x y) ≡ sa x ++ sb y)
    → Kept (g.seq h a b) erase spell
kept_seq_when {C = C} {h = h} {ea = ea} {eb = eb} {erase = erase} {sa = sa} {sb = sb} {spell = spell} ka kb same parts =
    record {
      again = λ l y ts proper d.
          let both = subst AreTokens d.5 proper in
          let front = tokens_front d.2 d.3 both in
          let back = tokens_back d.2 d.3 both in
          let p = ka.again l d.0 d.2 front d.6 in
          let q = kb.again l d.1 d.3 back d.7 in
          let is = ap spell d.4 ∙ parts l d.0 d.1 d.2 d.3 front back d.6 d.7 in (
            subst AreTokens (sym is) (tokens_both (sa d.0) (sb d.1) p.0 q.0),
            λ us s.
                let two = split_at us (sa d.0) (sb d.1) (s ∙ is) in
                let i = p.1 two.0 two.3 in
                let j = q.1 two.1 two.4 in
                (h i.0 j.0, same i.0 j.0 ∙ ap₂ h i.1 j.1 ∙ sym (same d.0 d.1) ∙ sym (ap erase d.4), (i.0, j.0, two.0, two.1, refl, two.2, i.2, j.2)),
          );
    }

pub kept_seq : {A B C : Type 0} {h : A → B → C} {a : G A} {b : G B} {ea : A → A} {eb : B → B} {erase : C → C} {sa : A → List Token} {sb : B → List Token} {spell : C → List Token}
    → Kept a ea sa → Kept b eb sb → ((x : A) (y : B) → erase (h x y) ≡ h (ea x) (eb y)) → ((x : A) (y : B) → spell (h x y) ≡ sa x ++ sb y)
    → Kept (g.seq h a b) erase spell
kept_seq ka kb same parts = kept_seq_when ka kb same (λ l x y u v p q du dv. parts x y)

pub kept_two : {A B : Type 0} {a : G A} {b : G B} {ea : A → A} {eb : B → B} {sa : A → List Token} {sb : B → List Token} → Kept a ea sa → Kept b eb sb
    → Kept (g.seq (λ x y. (x, y)) a b) (λ (p : A × B). (ea p.0, eb p.1)) (λ (p : A × B). sa p.0 ++ sb p.1)
kept_two ka kb = kept_seq ka kb (λ x y. refl) (λ x y. refl)

pub kept_either : {A : Type 0} {fs : List ℕ} {a b : G A} {erase : A → A} {spell : A → List Token} → Kept a erase spell → Kept b erase spell → Kept (g.either fs a b) erase spell
kept_either ka kb =
    record {
      again = λ l y ts proper d.
          elim d [
            | inl x ↦ again_by (λ z us i. inl i) (ka.again l y ts proper x)
            | inr x ↦ again_by (λ z us i. inr i) (kb.again l y ts proper x)
          ];
    }

each_again : {A : Type 0} (l : Levels) (a : G A) (erase : A → A) (spell : A → List Token) (all : List A → List Token) → Kept a erase spell → all [] ≡ []
    → ((x : A) (xs : List A) → all (x ∷ xs) ≡ spell x ++ all xs) → (xs : List A) (ts : List Token) → AreTokens ts → Each (Has l a) xs ts
    → AreTokens (all xs) × ((us : List Token) → map bare us ≡ all xs → (zs : List A) × (map erase zs ≡ map erase xs) × Each (Has l a) zs us)
each_again l a erase spell all k none more [] ts proper d =
    (subst AreTokens (sym none) tt, λ us s. ([], refl, none_of us (s ∙ none)))
each_again l a erase spell all k none more (x ∷ xs) ts proper d =
    let both = subst AreTokens d.2 proper in
    let p = k.again l x d.0 (tokens_front d.0 d.1 both) d.3 in
    let q = each_again l a erase spell all k none more xs d.1 (tokens_back d.0 d.1 both) d.4 in (
      subst AreTokens (sym (more x xs)) (tokens_both (spell x) (all xs) p.0 q.0),
      λ us s.
          let two = split_at us (spell x) (all xs) (s ∙ more x xs) in
          let i = p.1 two.0 two.3 in
          let j = q.1 two.1 two.4 in
          (i.0 ∷ j.0, ap₂ (λ (z : _) (zs : List _). z ∷ zs) i.1 j.1, (two.0, two.1, two.2, i.2, j.2)),
    )

pub kept_many : {A : Type 0} {fs : List ℕ} {a : G A} {erase : A → A} {spell : A → List Token} {all : List A → List Token} → Kept a erase spell → all [] ≡ []
    → ((x : A) (xs : List A) → all (x ∷ xs) ≡ spell x ++ all xs) → Kept (g.many fs (λ xs. xs) a) (map erase) all
kept_many {a = a} {erase = erase} {spell = spell} {all = all} k none more =
    record {
      again = λ l y ts proper d.
          let p = each_again l a erase spell all k none more d.0 ts proper d.2 in (
            subst AreTokens (sym (ap all d.1)) p.0,
            λ us s.
                let i = p.1 us (s ∙ ap all d.1) in
                (i.0, i.1 ∙ sym (ap (map erase) d.1), (i.0, refl, i.2)),
          );
    }

-- at most so many items
pub kept_up_to : {A : Type 0} (n : ℕ) (vs : List Word) {a : G A} {erase : A → A} {spell : A → List Token} {all : List A → List Token} → Kept a erase spell → all [] ≡ []
    → ((x : A) (xs : List A) → all (x ∷ xs) ≡ spell x ++ all xs) → Kept (up_to n vs a) (map erase) all
kept_up_to zero vs k none more = kept_pure none
kept_up_to (suc n) vs k none more = kept_either (kept_seq k (kept_up_to n vs k none more) (λ x xs. refl) more) (kept_pure none)

pub kept_call : {B : Type 0} (d : ℕ) {x : Rule} {h : TreeOf x → B} {erase : B → B} {spell : B → List Token} → ((t : TreeOf x) → erase (h t) ≡ h (erased x t))
    → ((t : TreeOf x) → spell (h t) ≡ spelled d x t) → Kept (g.call x h) erase spell
kept_call depth {x = x} {h = h} {erase = erase} {spell = spell} same is =
    record {
      again = λ l y ts proper d.
          let p = l.kept depth x d.0 ts proper d.2 in
          let all = ap spell d.1 ∙ is d.0 in (
            subst AreTokens (sym all) p.0,
            λ us s.
                let i = p.1 us (s ∙ all) in
                (h i.0, same i.0 ∙ ap h i.1 ∙ sym (same d.0) ∙ sym (ap erase d.1), (i.0, refl, i.2)),
          );
    }

pub kept_spanned_by : {A B : Type 0} {h : List Token → A → B} {a : G A} {ea : A → A} {sa : A → List Token} {erase : B → B} {spell : B → List Token} (bare_of : A → B) → Kept a ea sa
    → ((ts : List Token) (x : A) → erase (h ts x) ≡ bare_of (ea x)) → ((ts : List Token) (x : A) → spell (h ts x) ≡ sa x) → Kept (g.spanned h a) erase spell
kept_spanned_by {h = h} {ea = ea} {sa = sa} {erase = erase} {spell = spell} bare_of k same is =
    record {
      again = λ l y ts proper d.
          let p = k.again l d.0 ts proper d.2 in
          let all = ap spell d.1 ∙ is ts d.0 in (
            subst AreTokens (sym all) p.0,
            λ us s.
                let i = p.1 us (s ∙ all) in
                (h us i.0, same us i.0 ∙ ap bare_of i.1 ∙ sym (same ts d.0) ∙ sym (ap erase d.1), (i.0, refl, i.2)),
          );
    }

pub kept_spanned : {A B : Type 0} {h : List Token → A → B} {a : G A} {ea : A → A} {sa : A → List Token} {erase : B → B} {spell : B → List Token} → Kept a ea sa
    → ((ts : List Token) (x : A) → erase (h ts x) ≡ h [] (ea x)) → ((ts : List Token) (x : A) → spell (h ts x) ≡ sa x) → Kept (g.spanned h a) erase spell
kept_spanned {h = h} k same is = kept_spanned_by (h []) k same is

-- behind a token that opens a level, where n more may be open with its own
below_again : {A : Type 0} (a : G A) (erase : A → A) (spell : A → List Token) → Kept a erase spell → (n : ℕ) → ((m : ℕ) → m < n → KeepsNames (Named code body m))
    → (y : A) (ts : List Token) → AreTokens ts → Below code body n A a y ts → Again (Below code body n A a) erase y (spell y)
below_again a erase spell k zero lower y ts proper d = absurd d
below_again a erase spell k (suc m) lower y ts proper d =
    k.again (record { n = m; names = Named code body m; kept = lower m (omega arith); lower = λ j small. lower j (omega (arith, small)) }) y ts proper d

-- some tokens derive the tree, where these levels are open
abbrev pub Written : Levels → {A : Type 0} → G A → A → Type 0
Written l a y = (ts : List Token) × AreTokens ts × Has l a y ts

-- some tokens derive the tree, where some levels are open
abbrev pub Any : {A : Type 0} → G A → A → Type 1
Any a y = (l : Levels) × (ts : List Token) × AreTokens ts × Has l a y ts

any_below : {A : Type 0} (a : G A) (n : ℕ) → ((m : ℕ) → m < n → KeepsNames (Named code body m)) → (y : A) (ts : List Token) → AreTokens ts → Below code body n A a y ts → Any a y
any_below a zero lower y ts proper d = absurd d
any_below a (suc m) lower y ts proper d =
    (record { n = m; names = Named code body m; kept = lower m (omega arith); lower = λ j small. lower j (omega (arith, small)) }, ts, proper, d)

-- what derives by its parts
pub any_nest : {A : Type 0} (v : Word) (a : G A) (y : A) → Any (g.nest (code_of v) a) y → Any a y
any_nest v a y some =
    let d = some.3 in
    any_below a some.0.n some.0.lower y d.1 (tokens_back (d.0 ∷ []) d.1 (subst AreTokens d.2 some.2)) d.4

pub any_seq : {A B C : Type 0} (h : A → B → C) (a : G A) (b : G B) (y : C) → Any (g.seq h a b) y → (x : A) × (z : B) × (y ≡ h x z) × Any a x × Any b z
any_seq h a b y some =
    let d = some.3 in
    let both = subst AreTokens d.5 some.2 in
    (d.0, d.1, d.4, (some.0, d.2, tokens_front d.2 d.3 both, d.6), (some.0, d.3, tokens_back d.2 d.3 both, d.7))

pub kept_nest_when : {A : Type 0} (v : Word) {a : G A} {erase : A → A} {sa spell : A → List Token} → Kept a erase sa → ((y : A) → Any a y → spell y ≡ word_of v ∷ sa y)
    → Kept (g.nest (code_of v) a) erase spell
kept_nest_when {A = A} v {a = a} {erase = erase} {sa = sa} {spell = spell} k is =
    record {
      again = λ l y ts proper d.
          let back = tokens_back (d.0 ∷ []) d.1 (subst AreTokens d.2 proper) in
          let p = below_again a erase sa k l.n l.lower y d.1 back d.4 in
          let all = is y (any_below a l.n l.lower y d.1 back d.4) in (
            subst AreTokens (sym all) (word_is_token v, p.0),
            λ us s.
                let u = split_first us (word_of v) (sa y) (s ∙ all) in
                let i = p.1 u.1 u.4 in
                (i.0, i.1, (u.0, u.1, u.2, code_is_word v u.0 (ap (λ (t : Token). t.kind) u.3) (ap (λ (t : Token). t.text) u.3), i.2)),
          );
    }

pub kept_nest : {A : Type 0} (v : Word) {a : G A} {erase : A → A} {sa spell : A → List Token} → Kept a erase sa → ((y : A) → spell y ≡ word_of v ∷ sa y) → Kept (g.nest (code_of v) a) erase spell
kept_nest v k is = kept_nest_when v k (λ y some. is y)

-- ---- trees that are written in two ways

-- the word, and behind it what may stand behind a token that opens a level
pub written_nest : {A : Type 0} (l : Levels) (v : Word) (a : G A) (y : A) (us : List Token) → AreTokens us → Below code body l.n A a y us → Written l (g.nest (code_of v) a) y
written_nest l v a y us proper d =
    (word_of v ∷ us, (word_is_token v, proper), (word_of v, us, refl, code_is_word v (word_of v) refl refl, d))

-- the word, and the part behind it
pub written_behind : {A : Type 0} (l : Levels) (v : Word) (a : G A) (y : A) → Written l a y → Written l (word v ▷ a) y
written_behind l v a y w =
    (word_of v ∷ w.0, (word_is_token v, w.1), (tt, y, word_of v ∷ [], w.0, refl, refl, (word_of v, refl, code_is_word v (word_of v) refl refl, refl, refl), w.2))

-- one of two parts, where the first writes each tree of the second
pub kept_first : {A : Type 0} {fs : List ℕ} {a b : G A} {erase : A → A} {spell : A → List Token} → Kept a erase spell
    → ((l : Levels) (y : A) (ts : List Token) → AreTokens ts → Has l b y ts → Written l a y) → Kept (g.either fs a b) erase spell
kept_first {b = b} ka other =
    record {
      again = λ l y ts proper d.
          elim d [
            | inl x ↦ again_by (λ z us i. inl i) (ka.again l y ts proper x)
            | inr x ↦ (let w = other l y ts proper x in again_by (λ z us i. inl i) (ka.again l y w.0 w.1 w.2))
          ];
    }

-- One of four parts, where a tree of the third is written by the first or the second, or is spelled as the third spells it.
pub kept_tagged : {A : Type 0} {fs gs hs : List ℕ} {a b c rest : G A} {erase : A → A} {spell sc : A → List Token} → Kept a erase spell → Kept b erase spell → Kept c erase sc → Kept rest erase spell
    → ((l : Levels) (y : A) (ts : List Token) → AreTokens ts → Has l c y ts → Written l a y ⊎ (Written l b y ⊎ (spell y ≡ sc y)))
    → Kept (g.either fs a (g.either gs b (g.either hs c rest))) erase spell
kept_tagged {A = A} {fs = fs} {gs = gs} {hs = hs} {a = a} {b = b} {c = c} {rest = rest} {erase = erase} {spell = spell} {sc = sc} ka kb kc kr tags =
    record { again = by_part }
  where
    by_tag : (l : Levels) (y : A) (ts : List Token) → AreTokens ts → Has l c y ts → Written l a y ⊎ (Written l b y ⊎ (spell y ≡ sc y))
        → Again (Has l (g.either fs a (g.either gs b (g.either hs c rest)))) erase y (spell y)
    by_tag l y ts proper d (inl w) = again_by (λ z us i. inl i) (ka.again l y w.0 w.1 w.2)
    by_tag l y ts proper d (inr (inl w)) = again_by (λ z us i. inr (inl i)) (kb.again l y w.0 w.1 w.2)
    by_tag l y ts proper d (inr (inr same)) =
        subst (Again (Has l (g.either fs a (g.either gs b (g.either hs c rest)))) erase y) (sym same) (again_by (λ z us i. inr (inr (inl i))) (kc.again l y ts proper d))

    by_part : (l : Levels) (y : A) (ts : List Token) → AreTokens ts → Has l (g.either fs a (g.either gs b (g.either hs c rest))) y ts
        → Again (Has l (g.either fs a (g.either gs b (g.either hs c rest)))) erase y (spell y)
    by_part l y ts proper (inl d) = again_by (λ z us i. inl i) (ka.again l y ts proper d)
    by_part l y ts proper (inr (inl d)) = again_by (λ z us i. inr (inl i)) (kb.again l y ts proper d)
    by_part l y ts proper (inr (inr (inl d))) = by_tag l y ts proper d (tags l y ts proper d)
    by_part l y ts proper (inr (inr (inr d))) = again_by (λ z us i. inr (inr (inr i))) (kr.again l y ts proper d)

-- ---- words of the table

pub kept_map : {A B : Type 0} {h : A → B} {a : G A} {ea : A → A} {sa : A → List Token} {erase : B → B} {spell : B → List Token} → Kept a ea sa → ((x : A) → erase (h x) ≡ h (ea x))
    → ((x : A) → spell (h x) ≡ sa x) → Kept (a ⇒ h) erase spell
kept_map {sa = sa} k same is =
    kept_seq {eb = λ x. x} {sb = λ x. []} k (kept_pure refl) (λ x y. same x) (λ x y. is x ∙ sym (append-nil (sa x)))

pub kept_behind_when : {A : Type 0} (v : Word) {a : G A} {erase : A → A} {sa spell : A → List Token} → Kept a erase sa → ((y : A) → Any a y → spell y ≡ word_of v ∷ sa y)
    → Kept (word v ▷ a) erase spell
kept_behind_when v k is = kept_seq_when (word_kept v) k (λ x y. refl) (λ l x y u v p q du dv. is y (l, v, q, dv))

pub kept_behind : {A : Type 0} (v : Word) {a : G A} {erase : A → A} {sa spell : A → List Token} → Kept a erase sa → ((y : A) → spell y ≡ word_of v ∷ sa y) → Kept (word v ▷ a) erase spell
kept_behind v k is = kept_behind_when v k (λ y some. is y)

pub kept_before : {A : Type 0} (v : Word) {a : G A} {erase : A → A} {sa spell : A → List Token} → Kept a erase sa → ((y : A) → spell y ≡ sa y ++ word_of v ∷ []) → Kept (a ◁ word v) erase spell
kept_before v k is = kept_seq k (word_kept v) (λ x y. refl) (λ x y. is x)

-- a word and two parts, of which a tree is made
pub kept_behind_seq : {A B C : Type 0} (v : Word) {h : A → B → C} {a : G A} {b : G B} {ea : A → A} {eb : B → B} {erase : C → C} {sa : A → List Token} {sb : B → List Token} {spell : C → List Token}
    → Kept a ea sa → Kept b eb sb → ((x : A) (y : B) → erase (h x y) ≡ h (ea x) (eb y)) → ((x : A) (y : B) → spell (h x y) ≡ word_of v ∷ sa x ++ sb y)
    → Kept (word v ▷ g.seq h a b) erase spell
kept_behind_seq v {spell = spell} ka kb same is =
    kept_behind_when v {sa = λ y. behind_one (spell y)} (kept_seq ka kb same (λ x y. ap behind_one (is x y)))
    (λ y some.
    let d = some.3 in
    let all = ap spell d.4 ∙ is d.0 d.1 in
    all ∙ ap (λ (ts : List Token). word_of v ∷ ts) (sym (ap behind_one all)))

pub kept_behind_map : {A B : Type 0} (v : Word) {h : A → B} {a : G A} {ea : A → A} {sa : A → List Token} {erase : B → B} {spell : B → List Token} → Kept a ea sa
    → ((x : A) → erase (h x) ≡ h (ea x)) → ((x : A) → spell (h x) ≡ word_of v ∷ sa x) → Kept (word v ▷ (a ⇒ h)) erase spell
kept_behind_map v {sa = sa} k same is =
    kept_behind_seq v {eb = λ x. x} {sb = λ x. []} k (kept_pure refl) (λ x y. same x) (λ x y. is x ∙ ap (λ (ts : List Token). word_of v ∷ ts) (sym (append-nil (sa x))))

-- ---- lists with commas

pub kept_commas : {A : Type 0} {item : G A} {erase : A → A} (spell : A → List Piece) → Kept item erase (λ x. words (spell x))
    → Kept (repeated (w.Comma ∷ []) (word w.Comma ▷ item)) (map erase) (λ xs. words (behind_commas spell xs))
unfolding spelling behind_commas
kept_commas spell k = kept_many (kept_behind w.Comma {spell = λ x. word_of w.Comma ∷ words (spell x)} k (λ x. refl)) refl (λ x xs. ap (λ (ts : List Token). word_of w.Comma ∷ ts) (words-append (spell x) (behind_commas spell xs)))

pub kept_listed : {A : Type 0} {item : G A} {erase : A → A} (spell : A → List Piece) → Kept item erase (λ x. words (spell x)) → Kept (listed item) (map erase) (λ xs. words (listed_pieces spell xs))
unfolding listed_pieces
kept_listed spell k = kept_seq k (kept_commas spell k) (λ x xs. refl) (λ x xs. words-append (spell x) (behind_commas spell xs))

-- an item and more, and the word behind them
pub kept_and_more : {A : Type 0} (v : Word) {a : G A} {rest : G (List A)} {erase : A → A} {sa : A → List Token} (more all : List A → List Token) → Kept a erase sa → Kept rest (map erase) (λ xs. more xs ++ word_of v ∷ [])
    → ((x : A) (xs : List A) → all (x ∷ xs) ≡ sa x ++ more xs) → Kept (g.seq (λ x xs. x ∷ xs) a rest) (map erase) (λ xs. all xs ++ word_of v ∷ [])
kept_and_more v {sa = sa} more all ka kr is =
    kept_seq ka kr (λ x xs. refl) (λ x xs. ap (λ (ts : List Token). ts ++ word_of v ∷ []) (is x xs) ∙ append_assoc (sa x) (more xs) (word_of v ∷ []))

-- an item, another behind a word, and at most so many more
pub kept_more_than_one : {A : Type 0} (n : ℕ) (vs : List Word) {item next : G A} {erase : A → A} {spell sn : A → List Token} {all : List A → List Token} (behind : List A → List Token) → Kept item erase spell → Kept next erase sn
    → behind [] ≡ [] → ((x : A) (xs : List A) → behind (x ∷ xs) ≡ sn x ++ behind xs) → ((x : A) (xs : List A) → all (x ∷ xs) ≡ spell x ++ behind xs)
    → Kept (g.seq (λ x xs. x ∷ xs) item (g.seq (λ x xs. x ∷ xs) next (up_to n vs next))) (map erase) all
kept_more_than_one n vs behind ki kn none more is = kept_seq {sb = behind} ki (kept_seq {sb = behind} kn (kept_up_to n vs kn none more) (λ x xs. refl) more) (λ x xs. refl) is

-- items, if any, and the word that closes them
pub kept_closed : {A : Type 0} (v : Word) {items : G (List A)} {erase : A → A} {spell : List A → List Token} → Kept items (map erase) spell → spell [] ≡ []
    → Kept (closed v items) (map erase) (λ xs. spell xs ++ word_of v ∷ [])
kept_closed v k none =
    kept_either (kept_map (word_kept v) (λ x. refl) (λ x. ap (λ (ts : List Token). ts ++ word_of v ∷ []) none)) (kept_before v k (λ y. refl))

-- a word and items that are not written where there are none
pub kept_optional : {A : Type 0} (v : Word) {fs : List ℕ} {items : G (List A)} {erase : A → A} {sa spell : List A → List Token} → Kept items (map erase) sa → spell [] ≡ []
    → ((x : A) (xs : List A) → spell (x ∷ xs) ≡ word_of v ∷ sa (x ∷ xs)) → Kept (g.either fs (word v ▷ items) (g.pure [])) (map erase) spell
kept_optional {A = A} v {fs = fs} {items = items} {erase = erase} {sa = sa} {spell = spell} k none some =
    record { again = λ l y ts proper d. by_list l y ts proper d }
  where
    empty : (l : Levels) (us : List Token) → map bare us ≡ spell [] → (z : List A) × (map erase z ≡ []) × Has l (g.either fs (word v ▷ items) (g.pure [])) z us
    empty l us s = ([], refl, inr (refl, none_of us (s ∙ none)))

    written : (l : Levels) (y : List A) (ts : List Token) → AreTokens ts → Has l (word v ▷ items) y ts → Again (Has l (g.either fs (word v ▷ items) (g.pure []))) (map erase) y (word_of v ∷ sa y)
    written l y ts proper d =
        let p = (kept_behind v {spell = λ y. word_of v ∷ sa y} k (λ y. refl)).again l y ts proper d in
        (p.0, λ us s. let i = p.1 us s in (i.0, i.1, inl i.2))

    by_list : (l : Levels) (y : List A) (ts : List Token) → AreTokens ts → Has l (g.either fs (word v ▷ items) (g.pure [])) y ts
        → Again (Has l (g.either fs (word v ▷ items) (g.pure []))) (map erase) y (spell y)
    by_list l [] ts proper d = (subst AreTokens (sym none) tt, empty l)
    by_list l (x ∷ xs) ts proper (inl d) =
        subst (Again (Has l (g.either fs (word v ▷ items) (g.pure []))) (map erase) (x ∷ xs)) (sym (some x xs)) (written l (x ∷ xs) ts proper d)
    by_list l (x ∷ xs) ts proper (inr d) = let no = d.0 in cc

-- ---- brackets

pub parens_words : (ps : List Piece) → words (in_parens ps) ≡ word_of w.LeftParen ∷ words ps ++ word_of w.RightParen ∷ []
unfolding in_parens spelling
parens_words ps = ap (λ (ts : List Token). word_of w.LeftParen ∷ ts) (words-append ps (mark (codes ")") ∷ []))

pub brackets_words : (ps : List Piece) → words (in_brackets ps) ≡ word_of w.LeftBracket ∷ words ps ++ word_of w.RightBracket ∷ []
unfolding in_brackets spelling
brackets_words ps = ap (λ (ts : List Token). word_of w.LeftBracket ∷ ts) (words-append ps (mark (codes "]") ∷ []))

-- two parts with a comma between them, in parentheses
pub pair_words : (a b : List Piece) → words (pair a b) ≡ word_of w.LeftParen ∷ words a ++ word_of w.Comma ∷ words b ++ word_of w.RightParen ∷ []
unfolding pair spelling
pair_words a b =
    parens_words (a ++ mark (codes ",") ∷ space ∷ b)
    ∙ ap (λ (ts : List Token). word_of w.LeftParen ∷ ts ++ word_of w.RightParen ∷ []) (words-append a (mark (codes ",") ∷ space ∷ b))

pub kept_pair : {A B : Type 0} {a : G A} {b : G B} {ea : A → A} {eb : B → B} (sa : A → List Piece) (sb : B → List Piece) → Kept a ea (λ x. words (sa x)) → Kept b eb (λ y. words (sb y))
    → Kept (g.nest (code_of w.LeftParen) (g.seq (λ x y. (x, y)) a (word w.Comma ▷ (b ◁ word w.RightParen)))) (λ (p : A × B). (ea p.0, eb p.1)) (λ (p : A × B). words (pair (sa p.0) (sb p.1)))
kept_pair sa sb ka kb =
    kept_nest w.LeftParen
    (kept_two ka (kept_behind w.Comma {sa = λ y. words (sb y) ++ word_of w.RightParen ∷ []} {spell = λ y. word_of w.Comma ∷ words (sb y) ++ word_of w.RightParen ∷ []} (kept_before w.RightParen kb (λ y. refl)) (λ y. refl)))
    (λ p. pair_words (sa p.0) (sb p.1) ∙ ap (λ (ts : List Token). word_of w.LeftParen ∷ ts) (append_assoc (words (sa p.0)) (word_of w.Comma ∷ words (sb p.1)) (word_of w.RightParen ∷ [])))

-- items, if any, between parentheses or brackets
pub kept_parens : {A : Type 0} {items : G (List A)} {erase : A → A} (spell : A → List Piece) → Kept items (map erase) (λ xs. words (listed_pieces spell xs))
    → Kept (g.nest (code_of w.LeftParen) (closed w.RightParen items)) (map erase) (λ xs. words (in_parens (listed_pieces spell xs)))
unfolding listed_pieces
kept_parens spell k = kept_nest w.LeftParen (kept_closed w.RightParen k refl) (λ xs. parens_words (listed_pieces spell xs))

pub kept_brackets : {A : Type 0} {items : G (List A)} {erase : A → A} (spell : A → List Piece) → Kept items (map erase) (λ xs. words (listed_pieces spell xs))
    → Kept (g.nest (code_of w.LeftBracket) (closed w.RightBracket items)) (map erase) (λ xs. words (in_brackets (listed_pieces spell xs)))
unfolding listed_pieces
kept_brackets spell k = kept_nest w.LeftBracket (kept_closed w.RightBracket k refl) (λ xs. brackets_words (listed_pieces spell xs))
