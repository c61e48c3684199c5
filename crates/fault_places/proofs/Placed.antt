-- Trees whose spans stand where their tokens do: how this passes from the parts of a grammar to the whole.
use Rattle.std.proofs.Common.{◌≡◌, ℕ, zero, suc, ◌-◌, ◌<◌, ◌≤◌, inl, inr, Bool, List, [], ◌∷◌, ◌++◌, length, Some, slice_get, refl, sym, subst, arith}
use Rattle.chan_base.specs.declared.spans.Span.{Span}
use Rattle.text_tokens.specs.Text.{Token}
use Rattle.grammar_laws.specs.Grammar as g
use Rattle.grammar_laws.specs.Grammar.{Reading, Each, Derives, Below, Named}
use Rattle.surface_grammar.specs.declared.words.Word.{Word}
use Rattle.surface_grammar.specs.declared.words.Word.TheVariants as w
use Rattle.surface_grammar.specs.Words.{code}
use Rattle.surface_grammar.specs.Grammar.{G, Rule, AValue, ARes, ABlock, TreeOf, span_from, cover, word, ◌▷◌, ◌◁◌, ◌⇒◌, repeated, up_to, listed, closed}
use Rattle.surface_grammar.specs.Language.{body}
use Rattle.fault_places.specs.Spans.{Every, InRes, InSupply}
use Rattle.fault_places.specs.SurfaceTrees.{InBlock}
use Rattle.fault_places.specs.Laws.{IsAt}

-- ---- places

-- the span is of some bytes of the text from a place on
abbrev pub From : List ℕ → ℕ → Span → Type 0
From text at span = (at ≤ span.start) × IsAt text span

-- a property of spans holds of those
abbrev pub HoldsFrom : List ℕ → ℕ → (Span → Type 0) → Type 0
HoldsFrom text at P = (span : Span) → From text at span → P span

-- the tokens stand in the text from a place on, each behind the one before it
abbrev pub Row : List ℕ → ℕ → List Token → Type 0
Row text at [] = Unit {0}
Row text at (t ∷ ts) = From text at t.span × Row text t.span.stop ts

row_lower : (text : List ℕ) (at low : ℕ) (ts : List Token) → low ≤ at → Row text at ts → Row text low ts
row_lower text at low [] less row = tt
row_lower text at low (t ∷ ts) less row = let start = row.0.0 in ((omega (arith, less, start), row.0.1), row.1)

row_front : (text : List ℕ) (at : ℕ) (u v : List Token) → Row text at (u ++ v) → Row text at u
row_front text at [] v row = tt
row_front text at (t ∷ u) v row = (row.0, row_front text t.span.stop u v row.1)

pub row_back : (text : List ℕ) (at : ℕ) (u v : List Token) → Row text at (u ++ v) → Row text at v
row_back text at [] v row = row
row_back text at (t ∷ u) v row =
    let start = row.0.0 in
    let some = row.0.1.0.0 in
    row_lower text t.span.stop at v (omega (arith, start, some)) (row_back text t.span.stop u v row.1)

-- the last of some tokens
last_of : (text : List ℕ) (at : ℕ) (t : Token) (ts : List Token) → Row text at (t ∷ ts)
    → (l : Token) × (slice_get (t ∷ ts) (length ts) ≡ Some l) × (t.span.start < l.span.stop) × (l.span.stop ≤ length text)
last_of text at t [] row = (t, refl, row.0.1.0.0, row.0.1.0.1)
last_of text at t (u ∷ ts) row =
    let l = last_of text t.span.stop u ts row.1 in
    let here = row.0.1.0.0 in
    let next = row.1.0.0 in
    let behind = l.2 in
    (l.0, l.1, omega (arith, here, next, behind), l.3)

-- there is a token
abbrev pub IsSome : List Token → Type 0
IsSome [] = ⊥
IsSome (t ∷ ts) = Unit {0}

cover_from : (text : List ℕ) (at : ℕ) (ts : List Token) → IsSome ts → Row text at ts → From text at (cover ts)
unfolding cover
cover_from text at [] some row = absurd some
cover_from text at (t ∷ ts) some row =
    let l = last_of text at t ts row in
    let place : length (t ∷ ts) - 1 ≡ length ts = omega arith in
    subst (λ k. From text at (span_from (Some t) (slice_get (t ∷ ts) k))) (sym place) (subst (λ o. From text at (span_from (Some t) o)) (sym l.1) (row.0.0, ((l.2, l.3), row.0.1.1, row.0.1.2)))

-- ---- what is told of trees

-- what a property of spans comes to for a tree
abbrev pub SpanFact : Type 0 → Type 1
SpanFact A = (Span → Type 0) → A → Type 0

-- for the trees of names
abbrev pub InTreeOf : (Span → Type 0) → (x : Rule) → TreeOf x → Type 0
InTreeOf P AValue v = InSupply P v
InTreeOf P ARes r = InRes P r
InTreeOf P ABlock b = InBlock P b

-- the spans in the trees of names stand where the tokens do
abbrev pub PlacesNames : List ℕ → ((x : Rule) → Reading Token (TreeOf x)) → Type 1
PlacesNames text names =
    (P : Span → Type 0) (at : ℕ) → HoldsFrom text at P → (x : Rule) (y : TreeOf x) (ts : List Token) → Row text at ts → names x y ts → InTreeOf P x y

-- a text, how many levels may be open, and how names are read
pub record Levels : Type 1 where
  pub text : List ℕ
  pub n : ℕ
  pub names : (x : Rule) → Reading Token (TreeOf x)
  pub placed : PlacesNames text names
  pub lower : (m : ℕ) → m < n → PlacesNames text (Named code body m)

-- the tree has these tokens
abbrev pub Has : Levels → {A : Type 0} → G A → Reading Token A
Has l a = Derives code l.names (Below code body l.n) a

-- What holds of the spans behind a place in the text holds of those in a tree whose tokens stand behind it.
pub record Placed {A : Type 0} (a : G A) (E : SpanFact A) : Type 1 where
  pub placed : (l : Levels) (P : Span → Type 0) (at : ℕ) → HoldsFrom l.text at P → (y : A) (ts : List Token) → Row l.text at ts → Has l a y ts → E P y

-- Each tree has a token.
pub record Begun {A : Type 0} (a : G A) : Type 1 where
  pub begun : (l : Levels) (y : A) (ts : List Token) → Has l a y ts → IsSome ts

-- ---- trees that have a token

is_some_left : (u v : List Token) → IsSome u → IsSome (u ++ v)
is_some_left [] v some = absurd some
is_some_left (t ∷ u) v some = tt

is_some_right : (u v : List Token) → IsSome v → IsSome (u ++ v)
is_some_right [] v some = some
is_some_right (t ∷ u) v some = tt

pub begun_one : {A : Type 0} {c : ℕ} {p : Token → Bool} {h : Token → A} → Begun (g.one c p h)
begun_one = record { begun = λ l y ts d. subst IsSome (sym d.1) tt }

pub begun_nest : {A : Type 0} {c : ℕ} {a : G A} → Begun (g.nest c a)
begun_nest = record { begun = λ l y ts d. subst IsSome (sym d.2) tt }

pub begun_left : {A B C : Type 0} {h : A → B → C} {a : G A} {b : G B} → Begun a → Begun (g.seq h a b)
begun_left k = record { begun = λ l y ts d. subst IsSome (sym d.5) (is_some_left d.2 d.3 (k.begun l d.0 d.2 d.6)) }

pub begun_right : {A B C : Type 0} {h : A → B → C} {a : G A} {b : G B} → Begun b → Begun (g.seq h a b)
begun_right k = record { begun = λ l y ts d. subst IsSome (sym d.5) (is_some_right d.2 d.3 (k.begun l d.1 d.3 d.7)) }

pub begun_either : {A : Type 0} {fs : List ℕ} {a b : G A} → Begun a → Begun b → Begun (g.either fs a b)
begun_either j k = record { begun = λ l y ts d. elim d [ inl x ↦ j.begun l y ts x | inr x ↦ k.begun l y ts x ] }

-- ---- parts

pub placed_pure : {A : Type 0} {x : A} {E : SpanFact A} → ((P : Span → Type 0) → E P x) → Placed (g.pure x) E
placed_pure {E = E} is = record { placed = λ l P at holds y ts row d. subst (E P) (sym d.0) (is P) }

pub placed_one : {A : Type 0} {c : ℕ} {p : Token → Bool} {h : Token → A} {E : SpanFact A} → ((P : Span → Type 0) (t : Token) → P t.span → E P (h t)) → Placed (g.one c p h) E
placed_one {E = E} is =
    record {
      placed = λ l P at holds y ts row d.
          let one = subst (Row l.text at) d.1 row in
          subst (E P) (sym d.4) (is P d.0 (holds d.0.span one.0));
    }

pub placed_seq : {A B C : Type 0} {h : A → B → C} {a : G A} {b : G B} {EA : SpanFact A} {EB : SpanFact B} {E : SpanFact C} → Placed a EA → Placed b EB
    → ((P : Span → Type 0) (x : A) (y : B) → EA P x → EB P y → E P (h x y)) → Placed (g.seq h a b) E
placed_seq {E = E} j k is =
    record {
      placed = λ l P at holds y ts row d.
          let both = subst (Row l.text at) d.5 row in
          subst (E P) (sym d.4)
          (is P d.0 d.1 (j.placed l P at holds d.0 d.2 (row_front l.text at d.2 d.3 both) d.6) (k.placed l P at holds d.1 d.3 (row_back l.text at d.2 d.3 both) d.7));
    }

pub placed_either : {A : Type 0} {fs : List ℕ} {a b : G A} {E : SpanFact A} → Placed a E → Placed b E → Placed (g.either fs a b) E
placed_either j k = record { placed = λ l P at holds y ts row d. elim d [ inl x ↦ j.placed l P at holds y ts row x | inr x ↦ k.placed l P at holds y ts row x ] }

-- of each tree of a list
abbrev pub EveryOf : {A : Type 0} → SpanFact A → SpanFact (List A)
EveryOf E P xs = Every (E P) xs

each_placed : {A : Type 0} (l : Levels) (a : G A) (E : SpanFact A) → Placed a E → (P : Span → Type 0) (at : ℕ) → HoldsFrom l.text at P → (xs : List A) (ts : List Token) → Row l.text at ts → Each (Has l a) xs ts → Every (E P) xs
each_placed l a E k P at holds [] ts row d = tt
each_placed l a E k P at holds (x ∷ xs) ts row d =
    let both = subst (Row l.text at) d.2 row in
    (k.placed l P at holds x d.0 (row_front l.text at d.0 d.1 both) d.3, each_placed l a E k P at holds xs d.1 (row_back l.text at d.0 d.1 both) d.4)

pub placed_many : {A : Type 0} {fs : List ℕ} {a : G A} {E : SpanFact A} → Placed a E → Placed (g.many fs (λ xs. xs) a) (EveryOf E)
placed_many {a = a} {E = E} k =
    record { placed = λ l P at holds y ts row d. subst (Every (E P)) (sym d.1) (each_placed l a E k P at holds d.0 ts row d.2) }

pub placed_call : {B : Type 0} {x : Rule} {h : TreeOf x → B} {E : SpanFact B} → ((P : Span → Type 0) (t : TreeOf x) → InTreeOf P x t → E P (h t)) → Placed (g.call x h) E
placed_call {x = x} {E = E} is =
    record { placed = λ l P at holds y ts row d. subst (E P) (sym d.1) (is P d.0 (l.placed P at holds x d.0 ts row d.2)) }

pub placed_spanned : {A B : Type 0} {h : List Token → A → B} {a : G A} {EA : SpanFact A} {E : SpanFact B} → Placed a EA → Begun a
    → ((P : Span → Type 0) (ts : List Token) (x : A) → EA P x → P (cover ts) → E P (h ts x)) → Placed (g.spanned h a) E
placed_spanned {E = E} k b is =
    record {
      placed = λ l P at holds y ts row d.
          subst (E P) (sym d.1)
          (is P ts d.0 (k.placed l P at holds d.0 ts row d.2) (holds (cover ts) (cover_from l.text at ts (b.begun l d.0 ts d.2) row)));
    }

-- behind a token that opens a level, where n more may be open with its own
below_placed : {A : Type 0} (a : G A) (E : SpanFact A) → Placed a E → (text : List ℕ) (n : ℕ) → ((m : ℕ) → m < n → PlacesNames text (Named code body m))
    → (P : Span → Type 0) (at : ℕ) → HoldsFrom text at P → (y : A) (ts : List Token) → Row text at ts → Below code body n A a y ts → E P y
below_placed a E k text zero lower P at holds y ts row d = absurd d
below_placed a E k text (suc m) lower P at holds y ts row d =
    k.placed (record { text = text; n = m; names = Named code body m; placed = lower m (omega arith); lower = λ j small. lower j (omega (arith, small)) }) P at holds y ts row d

pub placed_nest : {A : Type 0} {c : ℕ} {a : G A} {E : SpanFact A} → Placed a E → Placed (g.nest c a) E
placed_nest {a = a} {E = E} k =
    record {
      placed = λ l P at holds y ts row d.
          below_placed a E k l.text l.n l.lower P at holds y d.1 (row_back l.text at (d.0 ∷ []) d.1 (subst (Row l.text at) d.2 row)) d.4;
    }

-- ---- words of the table

-- of a tree without spans
abbrev pub NoSpan : {A : Type 0} → SpanFact A
NoSpan P x = Unit {0}

-- of two trees
abbrev pub Both : {A B : Type 0} → SpanFact A → SpanFact B → SpanFact (A × B)
Both EA EB P p = EA P p.0 × EB P p.1

pub word_placed : (v : Word) → Placed (word v) NoSpan
word_placed v = placed_one (λ P t p. tt)

pub word_begun : (v : Word) → Begun (word v)
word_begun v = begun_one

pub placed_map : {A B : Type 0} {h : A → B} {a : G A} {EA : SpanFact A} {E : SpanFact B} → Placed a EA → ((P : Span → Type 0) (x : A) → EA P x → E P (h x)) → Placed (a ⇒ h) E
placed_map k is = placed_seq {EB = NoSpan} k (placed_pure (λ P. tt)) (λ P x y p q. is P x p)

pub placed_behind : {A : Type 0} (v : Word) {a : G A} {E : SpanFact A} → Placed a E → Placed (word v ▷ a) E
placed_behind v k = placed_seq (word_placed v) k (λ P x y p q. q)

pub placed_before : {A : Type 0} (v : Word) {a : G A} {E : SpanFact A} → Placed a E → Placed (a ◁ word v) E
placed_before v k = placed_seq k (word_placed v) (λ P x y p q. p)

pub placed_two : {A B : Type 0} {a : G A} {b : G B} {EA : SpanFact A} {EB : SpanFact B} → Placed a EA → Placed b EB → Placed (g.seq (λ x y. (x, y)) a b) (Both EA EB)
placed_two j k = placed_seq j k (λ P x y p q. (p, q))

-- ---- lists with commas

pub placed_commas : {A : Type 0} {item : G A} {E : SpanFact A} → Placed item E → Placed (repeated (w.Comma ∷ []) (word w.Comma ▷ item)) (EveryOf E)
placed_commas k = placed_many (placed_behind w.Comma k)

pub placed_listed : {A : Type 0} {item : G A} {E : SpanFact A} → Placed item E → Placed (listed item) (EveryOf E)
placed_listed k = placed_seq k (placed_commas k) (λ P x xs p ps. (p, ps))

-- at most so many items
pub placed_up_to : {A : Type 0} {item : G A} {E : SpanFact A} (n : ℕ) (vs : List Word) → Placed item E → Placed (up_to n vs item) (EveryOf E)
placed_up_to zero vs k = placed_pure (λ P. tt)
placed_up_to (suc n) vs k = placed_either (placed_seq k (placed_up_to n vs k) (λ P x xs p q. (p, q))) (placed_pure (λ P. tt))

-- items, if any, and the word that closes them
pub placed_closed : {A : Type 0} (v : Word) {items : G (List A)} {E : SpanFact A} → Placed items (EveryOf E) → Placed (closed v items) (EveryOf E)
placed_closed v k = placed_either (placed_map (word_placed v) (λ P x p. tt)) (placed_before v k)
