-- The lexer's loop: the text is cut up to the rest, and each turn takes one more piece.
use Rattle.std.proofs.Common.{◌≡◌, ℕ, ◌+◌, ◌-◌, ◌≤◌, true, List, [], ◌∷◌, ◌++◌, length, length-append, append-nil, append_assoc, take, drop, refl, sym, ◌∙◌, ap, subst, arith}
use Rattle.std.proofs.lemmas.Bool.{and_from}
use Rattle.std.proofs.lemmas.List.{take-append-drop, length-take-le, length-drop, take_all, map-append}
use Rattle.std.proofs.lemmas.List.Sums.{count_by-le-length, suffix_len-le-length}
use Rattle.std.specs.List.{list_all, count_by, suffix_len}
use Rattle.chan_base.specs.declared.spans.Span.{Span}
use Rattle.text_tokens.specs.declared.TokenKind.{TokenKind}
use Rattle.text_tokens.specs.Text.{Piece, separator, comment, token, is_line_end, is_in_line, bytes_of, text_of, FitsBefore, IsCutBefore, span_behind, tokens_behind, HasTokens, text_at, Fault, bad_byte, bad_token, number_too_large, StandsBetween, IsFirstFault}
use Rattle.text_tokens.proofs.Forms.{all_imply, is_plain, plain-in_line, form-plain}
use Rattle.text_tokens.proofs.Each.{text_behind}
use Rattle.text_tokens.proofs.Further.{text_of-more, cut-more, tokens-more, lines-in_line, column-in_line, lines-line_end, column-line_end}
use Rattle.text_tokens.specs.Text as text
use Rattle.chan_lexer.specs.declared.place.Place.{Place}
use Rattle.chan_lexer.specs.declared.token.Token.{Token}
use Rattle.chan_lexer.specs.Front.{BeginsWith, IsBlank}
use Rattle.chan_lexer.specs.Place.{place_behind, span, along, next_line}
use Rattle.chan_lexer.specs.Spelled.{spelled, spelled_token}

-- the source is cut up to the rest, which stands at the place, and these are the tokens so far
pub record IsAt (source : List ℕ) (place : Place) (list : List Token) (rest : List ℕ) : Type 0 where
  pub pieces : List Piece
  pub whole : source ≡ text_of pieces ++ rest
  pub is_cut : IsCutBefore pieces rest
  pub stands : place ≡ place_behind (text_of pieces)
  pub tokens : spelled source list ≡ tokens_behind [] pieces

pub start : (source : List ℕ) → IsAt source (place_behind []) [] source
start source = record { pieces = []; whole = refl; is_cut = tt; stands = refl; tokens = refl }

turn : (source : List ℕ) (place next : Place) (list more : List Token) (rest : List ℕ) (p : Piece) (len : ℕ) → (at : IsAt source place list rest) → BeginsWith p len rest → next ≡ place_behind (text_of at.pieces ++ bytes_of p) → spelled source more ≡ tokens_behind (text_of at.pieces) (p ∷ []) → IsAt source next (list ++ more) (drop len rest)
turn source place next list more rest p len at begins next_is more_is =
    let ps = at.pieces in
    let front : rest ≡ bytes_of p ++ drop len rest = sym (take-append-drop len rest) ∙ ap (λ (x : List ℕ). x ++ drop len rest) (sym begins.0) in
    record {
      pieces = ps ++ p ∷ [];
      whole = at.whole ∙ ap (λ (x : List ℕ). text_of ps ++ x) front ∙ sym (append_assoc (text_of ps) (bytes_of p) (drop len rest))
          ∙ ap (λ (x : List ℕ). x ++ drop len rest) (sym (text_of-more ps p));
      is_cut = cut-more ps p (drop len rest) (subst (IsCutBefore ps) front at.is_cut) begins.2;
      stands = next_is ∙ ap place_behind (sym (text_of-more ps p));
      tokens = map-append (spelled_token source) list more
          ∙ ap (λ (x : List text.Token). x ++ spelled source more) at.tokens
          ∙ ap (λ (x : List text.Token). tokens_behind [] ps ++ x) more_is
          ∙ sym (tokens-more [] ps p);
    }

along_line : (front word : List ℕ) (place : Place) (len : ℕ) → place ≡ place_behind front → len ≡ length word → list_all is_in_line word ≡ true → along place len ≡ place_behind (front ++ word)
along_line front word place len e length_is in_line =
    let column : 1 + suffix_len is_in_line front + length word ≡ 1 + (suffix_len is_in_line front + length word) = omega arith in
    rw (e, length_is, length-append front word, lines-in_line front word in_line, column-in_line front word in_line, column) refl

after_line : (front : List ℕ) (place : Place) → place ≡ place_behind front → next_line place ≡ place_behind (front ++ 10 ∷ [])
after_line front place e =
    let line : 1 + count_by is_line_end front + 1 ≡ 1 + (count_by is_line_end front + 1) = omega arith in
    rw (e, length-append front (10 ∷ []), lines-line_end front, column-line_end front, line) refl

-- the code's form of what is left
left_over : (len : ℕ) (rest : List ℕ) → drop len rest ≡ take (length rest - len) (drop len rest)
left_over len rest = let short : length (drop len rest) ≤ length rest - len = omega (arith, length-drop len rest) in sym (take_all (length rest - len) (drop len rest) short)

blank_in_line : (p : Piece) (rest : List ℕ) → IsBlank p → FitsBefore p rest → list_all is_in_line (bytes_of p) ≡ true
blank_in_line (separator b) rest blank fits = and_from (is_in_line b) true blank refl
blank_in_line (comment bytes) rest blank fits = fits.0
blank_in_line (token kind word) rest blank fits = absurd blank

no_tokens : (front : List ℕ) (p : Piece) → IsBlank p → tokens_behind front (p ∷ []) ≡ []
no_tokens front (separator b) blank = refl
no_tokens front (comment bytes) blank = refl
no_tokens front (token kind word) blank = absurd blank

len_is : (p : Piece) (len : ℕ) (rest : List ℕ) → BeginsWith p len rest → len ≡ length (bytes_of p)
len_is p len rest begins = omega (arith, ap length begins.0, length-take-le len rest begins.1)

no_more : (source : List ℕ) (place : Place) (list : List Token) (rest : List ℕ) → IsAt source place (list ++ []) rest → IsAt source place list rest
no_more source place list rest at = subst (λ (x : List Token). IsAt source place x rest) (append-nil list) at

pub blank_turn : (source : List ℕ) (place : Place) (list : List Token) (rest : List ℕ) (p : Piece) (len : ℕ) → IsAt source place list rest → IsBlank p → BeginsWith p len rest → IsAt source (along place len) list (take (length rest - len) (drop len rest))
blank_turn source place list rest p len at blank begins =
    let next = along_line (text_of at.pieces) (bytes_of p) place len at.stands (len_is p len rest begins) (blank_in_line p (drop len rest) blank begins.2) in
    let done = turn source place (along place len) list [] rest p len at begins next (sym (no_tokens (text_of at.pieces) p blank)) in
    subst (IsAt source (along place len) list) (left_over len rest) (no_more source (along place len) list (drop len rest) done)

pub line_turn : (source : List ℕ) (place : Place) (list : List Token) (rest : List ℕ) → IsAt source place list rest → BeginsWith (separator 10) 1 rest → IsAt source (next_line place) list (take (length rest - 1) (drop 1 rest))
line_turn source place list rest at begins =
    let done = turn source place (next_line place) list [] rest (separator 10) 1 at begins (after_line (text_of at.pieces) place at.stands) refl in
    subst (IsAt source (next_line place) list) (left_over 1 rest) (no_more source (next_line place) list (drop 1 rest) done)

span_is : (front word : List ℕ) (place : Place) (len : ℕ) → place ≡ place_behind front → len ≡ length word → span place len ≡ span_behind front word
span_is front word place len e length_is = rw (e, length_is) refl

pub token_turn : (source : List ℕ) (place : Place) (list : List Token) (rest : List ℕ) (kind : TokenKind) (len : ℕ) → IsAt source place list rest → BeginsWith (token kind (take len rest)) len rest → IsAt source (along place len) (list ++ record { kind = kind; span = span place len } ∷ []) (take (length rest - len) (drop len rest))
token_turn source place list rest kind len at begins =
    let front = text_of at.pieces in
    let word = take len rest in
    let length_is = len_is (token kind word) len rest begins in
    let in_line = all_imply is_plain is_in_line plain-in_line word (form-plain kind word begins.2.0.0) in
    let next = along_line front word place len at.stands length_is in_line in
    let where_is = span_is front word place len at.stands length_is in
    let source_is : source ≡ front ++ word ++ drop len rest =
    at.whole ∙ ap (λ (x : List ℕ). front ++ x) (sym (take-append-drop len rest)) ∙ sym (append_assoc front word (drop len rest)) in
    let text_is : text_at source (span place len) ≡ word =
    ap (text_at source) where_is ∙ ap (λ (x : List ℕ). text_at x (span_behind front word)) source_is ∙ text_behind front word (drop len rest) in
    let more : spelled source (record { kind = kind; span = span place len } ∷ []) ≡ tokens_behind front (token kind word ∷ []) =
    rw (text_is, where_is) refl in
    subst (IsAt source (along place len) (list ++ record { kind = kind; span = span place len } ∷ [])) (left_over len rest)
    (turn source place (along place len) list (record { kind = kind; span = span place len } ∷ []) rest (token kind word) len at begins next more)

-- the numbers of a place are those of the bytes before it
pub record IsSmall (source : List ℕ) (place : Place) (rest : List ℕ) : Type 0 where
  pub at : place.at + length rest ≡ length source
  pub line : place.line ≤ place.at + 1
  pub column : place.column ≤ place.at + 1

pub small : (source : List ℕ) (place : Place) (list : List Token) (rest : List ℕ) → IsAt source place list rest → IsSmall source place rest
small source place list rest at =
    let front = text_of at.pieces in
    let at_is = ap (λ (p : Place). p.at) at.stands in
    let line_is = ap (λ (p : Place). p.line) at.stands in
    let column_is = ap (λ (p : Place). p.column) at.stands in
    record {
      at = omega (arith, at_is, ap length at.whole, length-append front rest);
      line = omega (arith, at_is, line_is, count_by-le-length is_line_end front);
      column = omega (arith, at_is, column_is, suffix_len-le-length is_in_line front);
    }

-- a fault that stands here is the first of the text
pub fault_here : (source : List ℕ) (place : Place) (list : List Token) (rest : List ℕ) (made : Span → Fault) (len : ℕ) → IsAt source place list rest → len ≤ length rest → ((front : List ℕ) → StandsBetween front rest (made (span_behind front (take len rest)))) → IsFirstFault source (made (span place len))
fault_here source place list rest made len at within stands =
    let front = text_of at.pieces in
    let same = span_is front (take len rest) place len at.stands (sym (length-take-le len rest within)) in
    (at.pieces, rest, at.whole, at.is_cut, subst (λ (s : Span). StandsBetween front rest (made s)) (sym same) (stands front))
