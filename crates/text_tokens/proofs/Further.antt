-- A cut that goes on by one piece, and the place behind it.
use Rattle.std.proofs.Common.{◌≡◌, ℕ, ◌+◌, true, cond, List, [], ◌∷◌, ◌++◌, length, append-nil, append_assoc, refl, sym, ◌∙◌, ap, subst, arith}
use Rattle.std.proofs.lemmas.Bool.{and_parts, not-true}
use Rattle.std.proofs.lemmas.List.{reverse-append}
use Rattle.std.proofs.lemmas.List.Sums.{sum_by-append}
use Rattle.std.specs.List.{list_all, count_by, suffix_len}
use Rattle.text_tokens.specs.Text.{Piece, separator, comment, token, is_line_end, is_in_line, bytes_of, text_of, FitsBefore, IsCutBefore, Token, tokens_behind, span_behind}

pub text_of-more : (ps : List Piece) (p : Piece) → text_of (ps ++ p ∷ []) ≡ text_of ps ++ bytes_of p
text_of-more [] p = append-nil (bytes_of p)
text_of-more (q ∷ ps) p = ap (λ (x : List ℕ). bytes_of q ++ x) (text_of-more ps p) ∙ sym (append_assoc (bytes_of q) (text_of ps) (bytes_of p))

pub cut-more : (ps : List Piece) (p : Piece) (rest : List ℕ) → IsCutBefore ps (bytes_of p ++ rest) → FitsBefore p rest → IsCutBefore (ps ++ p ∷ []) rest
cut-more [] p rest cut fits = (fits, tt)
cut-more (q ∷ ps) p rest cut fits =
    let same = ap (λ (x : List ℕ). x ++ rest) (text_of-more ps p) ∙ append_assoc (text_of ps) (bytes_of p) rest in
    (subst (FitsBefore q) (sym same) cut.0, cut-more ps p rest cut.1 fits)

pub tokens-more : (front : List ℕ) (ps : List Piece) (p : Piece) → tokens_behind front (ps ++ p ∷ []) ≡ tokens_behind front ps ++ tokens_behind (front ++ text_of ps) (p ∷ [])
tokens-more front [] p = ap (λ (x : List ℕ). tokens_behind x (p ∷ [])) (sym (append-nil front))
tokens-more front (separator b ∷ ps) p =
    tokens-more (front ++ b ∷ []) ps p ∙ ap (λ (x : List ℕ). tokens_behind (front ++ b ∷ []) ps ++ tokens_behind x (p ∷ [])) (append_assoc front (b ∷ []) (text_of ps))
tokens-more front (comment bytes ∷ ps) p =
    tokens-more (front ++ 47 ∷ 47 ∷ bytes) ps p ∙ ap (λ (x : List ℕ). tokens_behind (front ++ 47 ∷ 47 ∷ bytes) ps ++ tokens_behind x (p ∷ [])) (append_assoc front (47 ∷ 47 ∷ bytes) (text_of ps))
tokens-more front (token kind word ∷ ps) p =
    ap (λ (x : List Token). record { kind = kind; text = word; span = span_behind front word } ∷ x)
    (tokens-more (front ++ word) ps p ∙ ap (λ (x : List ℕ). tokens_behind (front ++ word) ps ++ tokens_behind x (p ∷ [])) (append_assoc front word (text_of ps)))

-- ---- lines and columns

lines_byte : (front : List ℕ) (b : ℕ) → count_by is_line_end (front ++ b ∷ []) ≡ count_by is_line_end front + count_by is_line_end (b ∷ [])
lines_byte front b = sum_by-append (λ (x : ℕ). cond (is_line_end x) 1 0) front (b ∷ [])

line_byte : (front : List ℕ) (b : ℕ) → is_in_line b ≡ true → count_by is_line_end (front ++ b ∷ []) ≡ count_by is_line_end front
line_byte front b e =
    let none : count_by is_line_end (b ∷ []) ≡ 0 = rw (not-true (is_line_end b) e) in
    omega (arith, lines_byte front b, none)

pub lines-in_line : (front word : List ℕ) → list_all is_in_line word ≡ true → count_by is_line_end (front ++ word) ≡ count_by is_line_end front
lines-in_line front [] e = ap (count_by is_line_end) (append-nil front)
lines-in_line front (b ∷ word) e =
    let parts = and_parts (is_in_line b) (list_all is_in_line word) e in
    ap (count_by is_line_end) (sym (append_assoc front (b ∷ []) word)) ∙ lines-in_line (front ++ b ∷ []) word parts.1 ∙ line_byte front b parts.0

column_byte : (front : List ℕ) (b : ℕ) → is_in_line b ≡ true → suffix_len is_in_line (front ++ b ∷ []) ≡ 1 + suffix_len is_in_line front
column_byte front b e = rw (reverse-append front (b ∷ [])) (rw e)

pub column-in_line : (front word : List ℕ) → list_all is_in_line word ≡ true → suffix_len is_in_line (front ++ word) ≡ suffix_len is_in_line front + length word
column-in_line front [] e = ap (suffix_len is_in_line) (append-nil front) ∙ omega arith
column-in_line front (b ∷ word) e =
    let parts = and_parts (is_in_line b) (list_all is_in_line word) e in
    let rest = column-in_line (front ++ b ∷ []) word parts.1 in
    let first = column_byte front b parts.0 in
    ap (suffix_len is_in_line) (sym (append_assoc front (b ∷ []) word)) ∙ omega (arith, rest, first)

pub lines-line_end : (front : List ℕ) → count_by is_line_end (front ++ 10 ∷ []) ≡ count_by is_line_end front + 1
lines-line_end front = lines_byte front 10

pub column-line_end : (front : List ℕ) → suffix_len is_in_line (front ++ 10 ∷ []) ≡ 0
column-line_end front = rw (reverse-append front (10 ∷ [])) refl
