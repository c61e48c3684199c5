-- Words that stand apart: a separator or a mark is between two names, numbers or keywords, and a separator behind `<`.
use Rattle.std.proofs.Common.{◌≡◌, ℕ, zero, suc, Bool, true, false, ◌&&◌, if◌then◌else◌, List, [], ◌∷◌, ◌++◌, codes, bytes_eq, refl, ◌∙◌, ap}
use Rattle.std.proofs.lemmas.Bool.{and_from, and_parts}
use Rattle.std.specs.List.{repeat}
use Rattle.text_tokens.specs.declared.TokenKind.{TokenKind}
use Rattle.text_tokens.specs.declared.TokenKind.TheVariants.{Name, Number, Keyword, Mark}
use Rattle.text_tokens.specs.Text.{Piece, separator, comment, token, is_separator}
use Rattle.surface_spelling.specs.Layout.{keyword, mark, name, number, space, line, behind_commas, listed, in_parens, in_brackets, pair}

-- what stands next: a name, a number or a keyword; a mark; a separator or nothing
pub data Next : Type 0 where
  a_word : Next
  a_mark : Next
  a_gap : Next

abbrev pub class : TokenKind → Next
class Name = a_word
class (Number n) = a_word
class Keyword = a_word
class Mark = a_mark

-- what stands first among the pieces, or behind them where there are none
abbrev pub next : List Piece → Next → Next
next [] k = k
next (separator b ∷ ps) k = a_gap
next (comment bytes ∷ ps) k = a_gap
next (token kind word ∷ ps) k = class kind

abbrev pub no_word : Next → Bool
no_word a_word = false
no_word a_mark = true
no_word a_gap = true

abbrev pub is_gap : Next → Bool
is_gap a_word = false
is_gap a_mark = false
is_gap a_gap = true

-- the piece may stand before this
abbrev pub may : Piece → Next → Bool
may (separator b) k = is_separator b
may (comment bytes) k = false
may (token Name word) k = no_word k
may (token (Number n) word) k = no_word k
may (token Keyword word) k = no_word k
may (token Mark word) k = if bytes_eq word (codes "<") then is_gap k else true

-- each piece may stand before the next one, and the last before this
abbrev pub parted : List Piece → Next → Bool
parted [] k = true
parted (p ∷ ps) k = may p (next ps k) && parted ps k

pub record Apart (k : Next) (ps : List Piece) : Type 0 where
  pub is : parted ps k ≡ true

-- neither the pieces nor, where there are none, what follows begins with a name, a number or a keyword
pub record Soft (k : Next) (ps : List Piece) : Type 0 where
  pub is : no_word (next ps k) ≡ true

-- ---- what follows

-- a word is the least that may follow
mark_least : (word : List ℕ) (k : Next) → (b : Bool) → (if b then is_gap a_word else true) ≡ true → (if b then is_gap k else true) ≡ true
mark_least word k true e = cc
mark_least word k false e = refl

word_least : (p : Piece) (k : Next) → may p a_word ≡ true → may p k ≡ true
word_least (separator b) k e = e
word_least (comment bytes) k e = e
word_least (token Name word) k e = cc
word_least (token (Number n) word) k e = cc
word_least (token Keyword word) k e = cc
word_least (token Mark word) k e = mark_least word k (bytes_eq word (codes "<")) e

mark_before_gap : (b : Bool) → (if b then is_gap a_mark else true) ≡ true → (if b then is_gap a_gap else true) ≡ true
mark_before_gap true e = cc
mark_before_gap false e = refl

gap_most : (p : Piece) → may p a_mark ≡ true → may p a_gap ≡ true
gap_most (separator b) e = e
gap_most (comment bytes) e = e
gap_most (token Name word) e = refl
gap_most (token (Number n) word) e = refl
gap_most (token Keyword word) e = refl
gap_most (token Mark word) e = mark_before_gap (bytes_eq word (codes "<")) e

any_behind : (ps : List Piece) (k : Next) → parted ps a_word ≡ true → parted ps k ≡ true
any_behind [] k e = refl
any_behind (p ∷ []) k e = and_from (may p k) true (word_least p k (and_parts (may p a_word) true e).0) refl
any_behind (p ∷ separator b ∷ ps) k e =
    let parts = and_parts (may p a_gap) (parted (separator b ∷ ps) a_word) e in
    and_from (may p a_gap) (parted (separator b ∷ ps) k) parts.0 (any_behind (separator b ∷ ps) k parts.1)
any_behind (p ∷ comment bytes ∷ ps) k e =
    let parts = and_parts (may p a_gap) (parted (comment bytes ∷ ps) a_word) e in
    and_from (may p a_gap) (parted (comment bytes ∷ ps) k) parts.0 (any_behind (comment bytes ∷ ps) k parts.1)
any_behind (p ∷ token kind word ∷ ps) k e =
    let parts = and_parts (may p (class kind)) (parted (token kind word ∷ ps) a_word) e in
    and_from (may p (class kind)) (parted (token kind word ∷ ps) k) parts.0 (any_behind (token kind word ∷ ps) k parts.1)

pub gap_behind : (ps : List Piece) → parted ps a_mark ≡ true → parted ps a_gap ≡ true
gap_behind [] e = refl
gap_behind (p ∷ []) e = and_from (may p a_gap) true (gap_most p (and_parts (may p a_mark) true e).0) refl
gap_behind (p ∷ separator b ∷ ps) e =
    let parts = and_parts (may p a_gap) (parted (separator b ∷ ps) a_mark) e in
    and_from (may p a_gap) (parted (separator b ∷ ps) a_gap) parts.0 (gap_behind (separator b ∷ ps) parts.1)
gap_behind (p ∷ comment bytes ∷ ps) e =
    let parts = and_parts (may p a_gap) (parted (comment bytes ∷ ps) a_mark) e in
    and_from (may p a_gap) (parted (comment bytes ∷ ps) a_gap) parts.0 (gap_behind (comment bytes ∷ ps) parts.1)
gap_behind (p ∷ token kind word ∷ ps) e =
    let parts = and_parts (may p (class kind)) (parted (token kind word ∷ ps) a_mark) e in
    and_from (may p (class kind)) (parted (token kind word ∷ ps) a_gap) parts.0 (gap_behind (token kind word ∷ ps) parts.1)

no_word_behind : (ps : List Piece) (k : Next) → no_word k ≡ true → parted ps a_mark ≡ true → parted ps k ≡ true
no_word_behind ps a_word n e = cc
no_word_behind ps a_mark n e = e
no_word_behind ps a_gap n e = gap_behind ps e

-- ---- one list behind another

next-append : (a b : List Piece) (k : Next) → next (a ++ b) k ≡ next a (next b k)
next-append [] b k = refl
next-append (separator x ∷ a) b k = refl
next-append (comment bytes ∷ a) b k = refl
next-append (token kind word ∷ a) b k = refl

parted-append : (a b : List Piece) (k : Next) → parted a (next b k) ≡ true → parted b k ≡ true → parted (a ++ b) k ≡ true
parted-append [] b k e f = f
parted-append (p ∷ a) b k e f =
    let parts = and_parts (may p (next a (next b k))) (parted a (next b k)) e in
    and_from (may p (next (a ++ b) k)) (parted (a ++ b) k) (ap (may p) (next-append a b k) ∙ parts.0) (parted-append a b k parts.1 f)

next_mark : (a : List Piece) (k : Next) → no_word k ≡ true → no_word (next a a_mark) ≡ true → no_word (next a k) ≡ true
next_mark [] k n e = n
next_mark (separator x ∷ a) k n e = e
next_mark (comment bytes ∷ a) k n e = e
next_mark (token kind word ∷ a) k n e = e

next_any : (a : List Piece) (k : Next) → no_word (next a a_word) ≡ true → no_word (next a k) ≡ true
next_any [] k e = cc
next_any (separator x ∷ a) k e = e
next_any (comment bytes ∷ a) k e = e
next_any (token kind word ∷ a) k e = e

-- ---- the rules

pub apart_nil : (k : Next) → Apart k []
apart_nil k = record { is = refl }

pub apart_gap : (k : Next) (ps : List Piece) → Apart k ps → Apart k (space ∷ ps)
apart_gap k ps a = record { is = a.is }

pub apart_name : (k : Next) (w : List ℕ) (ps : List Piece) → Soft k ps → Apart k ps → Apart k (name w ∷ ps)
apart_name k w ps s a = record { is = and_from (no_word (next ps k)) (parted ps k) s.is a.is }

pub apart_number : (k : Next) (n : ℕ) (ps : List Piece) → Soft k ps → Apart k ps → Apart k (number n ∷ ps)
apart_number k n ps s a = record { is = and_from (no_word (next ps k)) (parted ps k) s.is a.is }

pub apart_keyword : (k : Next) (w : List ℕ) (ps : List Piece) → Soft k ps → Apart k ps → Apart k (keyword w ∷ ps)
apart_keyword k w ps s a = record { is = and_from (no_word (next ps k)) (parted ps k) s.is a.is }

not_less : (b : Bool) (k : Next) → b ≡ false → (if b then is_gap k else true) ≡ true
not_less true k e = cc
not_less false k e = refl

pub apart_mark : (k : Next) (w : List ℕ) (ps : List Piece) → bytes_eq w (codes "<") ≡ false → Apart k ps → Apart k (mark w ∷ ps)
apart_mark k w ps n a =
    record { is = and_from (may (mark w) (next ps k)) (parted ps k) (not_less (bytes_eq w (codes "<")) (next ps k) n) a.is }

pub apart_less : (k : Next) (ps : List Piece) → Apart k ps → Apart k (mark (codes "<") ∷ space ∷ ps)
apart_less k ps a = record { is = a.is }

pub apart_append : (k : Next) (a b : List Piece) → Apart a_mark a → Soft k b → Apart k b → Apart k (a ++ b)
apart_append k a b p s q = record { is = parted-append a b k (no_word_behind a (next b k) s.is p.is) q.is }

-- where the first list ends with a separator or a mark
pub apart_open : (k : Next) (a b : List Piece) → Apart a_word a → Apart k b → Apart k (a ++ b)
apart_open k a b p q = record { is = parted-append a b k (any_behind a (next b k) p.is) q.is }

pub soft_nil : Soft a_mark []
soft_nil = record { is = refl }

pub soft_gap : (k : Next) (ps : List Piece) → Soft k (space ∷ ps)
soft_gap k ps = record { is = refl }

pub soft_mark : (k : Next) (w : List ℕ) (ps : List Piece) → Soft k (mark w ∷ ps)
soft_mark k w ps = record { is = refl }

pub soft_append : (k : Next) (a b : List Piece) → Soft a_mark a → Soft k b → Soft k (a ++ b)
soft_append k a b s t = record { is = ap no_word (next-append a b k) ∙ next_mark a (next b k) t.is s.is }

-- where the first list is not empty
pub soft_front : (k : Next) (a b : List Piece) → Soft a_word a → Soft k (a ++ b)
soft_front k a b s = record { is = ap no_word (next-append a b k) ∙ next_any a (next b k) s.is }

pub ruleset apart_rules = (apart_nil, apart_gap, apart_name, apart_number, apart_keyword, apart_mark, apart_append, soft_nil, soft_gap, soft_mark, soft_append)

-- ---- choices

pub apart_if : (k : Next) (b : Bool) (x y : List Piece) → Apart k x → Apart k y → Apart k (if b then x else y)
apart_if k true x y p q = p
apart_if k false x y p q = q

pub apart_either : (k : Next) (b : Bool) (x y : Piece) (ps : List Piece) → Apart k (x ∷ ps) → Apart k (y ∷ ps) → Apart k ((if b then x else y) ∷ ps)
apart_either k true x y ps p q = p
apart_either k false x y ps p q = q

-- ---- layout

spaces_apart : (k : Next) (d : ℕ) → Apart k (repeat d (space ∷ []))
spaces_apart k zero = record { is = refl }
spaces_apart k (suc d) = record { is = (spaces_apart k d).is }

pub line_apart : (k : Next) (d : ℕ) → Apart k (line d)
unfolding line
line_apart k d = record { is = (spaces_apart k d).is }

pub line_soft : (k : Next) (d : ℕ) → Soft k (line d)
unfolding line
line_soft k d = record { is = refl }

pub parens_apart : (k : Next) (ps : List Piece) → Apart a_mark ps → Apart k (in_parens ps)
unfolding in_parens
parens_apart k ps a = search apart_rules depth 12

pub parens_soft : (k : Next) (ps : List Piece) → Soft k (in_parens ps)
unfolding in_parens
parens_soft k ps = record { is = refl }

pub brackets_apart : (k : Next) (ps : List Piece) → Apart a_mark ps → Apart k (in_brackets ps)
unfolding in_brackets
brackets_apart k ps a = search apart_rules depth 12

pub brackets_soft : (k : Next) (ps : List Piece) → Soft k (in_brackets ps)
unfolding in_brackets
brackets_soft k ps = record { is = refl }

pub pair_apart : (k : Next) (a b : List Piece) → Apart a_mark a → Apart a_mark b → Apart k (pair a b)
unfolding pair
pair_apart k a b p q = search (apart_rules, parens_apart) depth 12

pub pair_soft : (k : Next) (a b : List Piece) → Soft k (pair a b)
unfolding pair in_parens
pair_soft k a b = record { is = refl }

-- ---- lists

pub commas_soft : {A : Type 0} (item : A → List Piece) (xs : List A) → Soft a_mark (behind_commas item xs)
unfolding behind_commas
commas_soft item [] = record { is = refl }
commas_soft item (x ∷ xs) = record { is = refl }

pub commas_apart : {A : Type 0} (item : A → List Piece) → ((x : A) → Apart a_mark (item x)) → (xs : List A) → Apart a_mark (behind_commas item xs)
unfolding behind_commas
commas_apart item each [] = record { is = refl }
commas_apart item each (x ∷ xs) =
    let rest = apart_append a_mark (item x) (behind_commas item xs) (each x) (commas_soft item xs) (commas_apart item each xs) in
    record { is = rest.is }

pub listed_apart : {A : Type 0} (item : A → List Piece) → ((x : A) → Apart a_mark (item x)) → (xs : List A) → Apart a_mark (listed item xs)
unfolding listed
listed_apart item each [] = record { is = refl }
listed_apart item each (x ∷ xs) = apart_append a_mark (item x) (behind_commas item xs) (each x) (commas_soft item xs) (commas_apart item each xs)

pub ruleset layout_rules = (apart_rules, apart_if, apart_either, line_apart, line_soft, parens_apart, parens_soft, brackets_apart, brackets_soft, pair_apart, pair_soft, commas_soft, commas_apart, listed_apart)
