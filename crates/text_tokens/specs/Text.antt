-- How a text is cut into separators, comments and tokens, and its first fault.
use Rattle.std.specs.Prelude.{◌≡◌, ℕ, ◌+◌, ◌<◌, ◌≤◌, Bool, not, ◌||◌, ◌==◌, List, [], ◌∷◌, ◌++◌, length, slice_range, IsTrue}
use Rattle.std.specs.Char.{is_ascii_graphic}
use Rattle.std.specs.List.{list_all, count_by, suffix_len}
use Rattle.chan_base.specs.declared.spans.Span.{Span}
use Rattle.text_tokens.specs.declared.TokenKind.{TokenKind}
use Rattle.text_tokens.specs.declared.TokenKind.TheVariants.{Number}
use Rattle.text_tokens.specs.Word.{HasForm, IsToken, IsLongest, limit}

-- ---- cuts

-- what a text is made of
pub data Piece : Type 0 where
  separator : (b : ℕ) → Piece
  -- the bytes behind `//`
  comment : (bytes : List ℕ) → Piece
  token : (kind : TokenKind) (word : List ℕ) → Piece

-- LF
abbrev pub is_line_end : ℕ → Bool
is_line_end b = b == 10

-- space, tab, CR and LF
abbrev pub is_separator : ℕ → Bool
is_separator b = b == 32 || b == 9 || b == 13 || is_line_end b

-- any byte but LF
abbrev pub is_in_line : ℕ → Bool
is_in_line b = not (is_line_end b)

-- the bytes of a piece
abbrev pub bytes_of : Piece → List ℕ
bytes_of (separator b) = b ∷ []
bytes_of (comment bytes) = 47 ∷ 47 ∷ bytes
bytes_of (token kind word) = word

-- the bytes of the pieces, one after another
abbrev pub text_of : List Piece → List ℕ
text_of [] = []
text_of (p ∷ ps) = bytes_of p ++ text_of ps

-- a line ends where this follows
abbrev pub EndsLine : List ℕ → Type 0
EndsLine [] = Unit {0}
EndsLine (b ∷ rest) = IsTrue (is_line_end b)

-- the text `bytes_of piece ++ rest` begins with this piece
abbrev pub FitsBefore : Piece → List ℕ → Type 0
FitsBefore (separator b) rest = IsTrue (is_separator b)
FitsBefore (comment bytes) rest = IsTrue (list_all is_in_line bytes) × EndsLine rest
FitsBefore (token kind word) rest = IsToken kind word × IsLongest word rest

-- each piece fits before what follows it of the text `text_of pieces ++ rest`
abbrev pub IsCutBefore : List Piece → List ℕ → Type 0
IsCutBefore [] rest = Unit {0}
IsCutBefore (p ∷ ps) rest = FitsBefore p (text_of ps ++ rest) × IsCutBefore ps rest

-- ---- tokens

-- the place of a word that stands behind this front of the text
abbrev pub span_behind : List ℕ → List ℕ → Span
span_behind front word =
    record {
      start = length front;
      stop = length front + length word;
      line = 1 + count_by is_line_end front;
      column = 1 + suffix_len is_in_line front;
    }

-- a token with its bytes and its place
pub record Token : Type 0 where
  pub kind : TokenKind
  pub text : List ℕ
  pub span : Span

-- the tokens among pieces that stand behind this front of the text
abbrev pub tokens_behind : List ℕ → List Piece → List Token
tokens_behind front [] = []
tokens_behind front (separator b ∷ ps) = tokens_behind (front ++ b ∷ []) ps
tokens_behind front (comment bytes ∷ ps) = tokens_behind (front ++ 47 ∷ 47 ∷ bytes) ps
tokens_behind front (token kind word ∷ ps) =
    record { kind = kind; text = word; span = span_behind front word } ∷ tokens_behind (front ++ word) ps

-- the text is cut into pieces, and these are its tokens
abbrev pub HasTokens : List ℕ → List Token → Type 0
HasTokens text tokens =
    (pieces : List Piece) × (text ≡ text_of pieces) × IsCutBefore pieces [] × (tokens ≡ tokens_behind [] pieces)

-- the bytes of the text at the span
abbrev pub text_at : List ℕ → Span → List ℕ
text_at text span = slice_range text span.start span.stop

-- the text has this token at its span, and it is the longest one there
abbrev pub StandsIn : List ℕ → Token → Type 0
StandsIn text t =
    (front back : List ℕ) × (text ≡ front ++ t.text ++ back) × IsToken t.kind t.text × IsLongest t.text back
    × (t.span ≡ span_behind front t.text)

-- each token stands behind the one before it, the first at this place or behind it
abbrev pub AreInOrder : ℕ → List Token → Type 0
AreInOrder at [] = Unit {0}
AreInOrder at (t ∷ ts) = (at ≤ t.span.start) × (t.span.start < t.span.stop) × AreInOrder t.span.stop ts

-- ---- faults

-- a fault with its span, which is that of one byte or of all digits of the number
pub data Fault : Type 0 where
  bad_byte : (span : Span) → Fault
  bad_token : (span : Span) → Fault
  number_too_large : (span : Span) → Fault

-- where a fault stands
abbrev pub span_of : Fault → Span
span_of (bad_byte span) = span
span_of (bad_token span) = span
span_of (number_too_large span) = span

-- the span is of some bytes of the text
abbrev pub IsWithin : List ℕ → Span → Type 0
IsWithin text span = (span.start < span.stop) × (span.stop ≤ length text)

-- no front of the text has the form of a token
abbrev pub BeginsNoToken : List ℕ → Type 0
BeginsNoToken text = (kind : TokenKind) (word back : List ℕ) → text ≡ word ++ back → ¬ HasForm kind word

-- the text does not begin with `//`
abbrev pub BeginsNoComment : List ℕ → Type 0
BeginsNoComment text = (back : List ℕ) → ¬ (text ≡ 47 ∷ 47 ∷ back)

-- this fault stands at the first byte of the rest, which stands behind this front of the text
abbrev pub StandsBetween : List ℕ → List ℕ → Fault → Type 0
StandsBetween front rest (bad_byte span) =
    (b : ℕ) × (more : List ℕ) × (rest ≡ b ∷ more) × IsTrue (not (is_ascii_graphic b)) × IsTrue (not (is_separator b))
    × (span ≡ span_behind front (b ∷ []))
StandsBetween front rest (bad_token span) =
    (b : ℕ) × (more : List ℕ) × (rest ≡ b ∷ more) × IsTrue (is_ascii_graphic b) × BeginsNoToken rest × BeginsNoComment rest
    × (span ≡ span_behind front (b ∷ []))
StandsBetween front rest (number_too_large span) =
    (n : ℕ) × (digits more : List ℕ) × (rest ≡ digits ++ more) × HasForm (Number n) digits × (limit < n) × IsLongest digits more
    × (span ≡ span_behind front digits)

-- this is the first fault of the text: what stands before it is cut into pieces
abbrev pub IsFirstFault : List ℕ → Fault → Type 0
IsFirstFault text fault =
    (pieces : List Piece) × (rest : List ℕ) × (text ≡ text_of pieces ++ rest) × IsCutBefore pieces rest
    × StandsBetween (text_of pieces) rest fault
