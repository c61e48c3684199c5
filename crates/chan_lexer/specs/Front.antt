-- What stands at the front of a text.
use Rattle.std.specs.Prelude.{◌≡◌, ℕ, ◌≤◌, List, [], length, take, drop, IsTrue}
use Rattle.text_tokens.specs.Text.{Piece, separator, comment, token, is_in_line, bytes_of, FitsBefore, span_behind, bad_byte, bad_token, number_too_large, StandsBetween}
use Rattle.chan_lexer.specs.declared.front.Front.{Front}
use Rattle.chan_lexer.specs.declared.front.Front.TheVariants.{End, LineEnd, Blank, Token, BadByte, BadToken, NumberTooLarge}

-- a separator or a comment, within its line
abbrev pub IsBlank : Piece → Type 0
IsBlank (separator b) = IsTrue (is_in_line b)
IsBlank (comment bytes) = Unit {0}
IsBlank (token kind word) = ⊥

-- the first bytes of the text are this piece of its cut
abbrev pub BeginsWith : Piece → ℕ → List ℕ → Type 0
BeginsWith p len text = (bytes_of p ≡ take len text) × (len ≤ length text) × FitsBefore p (drop len text)

-- what stands at the front of the text is this
abbrev pub IsFrontOf : List ℕ → Front → Type 0
IsFrontOf text End = text ≡ []
IsFrontOf text LineEnd = BeginsWith (separator 10) 1 text
IsFrontOf text (Blank len) = (p : Piece) × IsBlank p × BeginsWith p len text
IsFrontOf text (Token kind len) = BeginsWith (token kind (take len text)) len text
IsFrontOf text BadByte = (front : List ℕ) → StandsBetween front text (bad_byte (span_behind front (take 1 text)))
IsFrontOf text BadToken = (front : List ℕ) → StandsBetween front text (bad_token (span_behind front (take 1 text)))
IsFrontOf text (NumberTooLarge len) =
    (len ≤ length text) × ((front : List ℕ) → StandsBetween front text (number_too_large (span_behind front (take len text))))

-- what stands there is some bytes of this many
abbrev pub IsWithin : ℕ → Front → Type 0
IsWithin n End = Unit {0}
IsWithin n LineEnd = 1 ≤ n
IsWithin n (Blank len) = (1 ≤ len) × (len ≤ n)
IsWithin n (Token kind len) = (1 ≤ len) × (len ≤ n)
IsWithin n BadByte = 1 ≤ n
IsWithin n BadToken = 1 ≤ n
IsWithin n (NumberTooLarge len) = len ≤ n
