-- Words, and the separators that stand between them.
use Rattle.std.specs.Prelude.{ℕ, codes, List, [], ◌∷◌, ◌++◌}
use Rattle.std.specs.List.{repeat}
use Rattle.std.specs.Fmt.{decimal}
use Rattle.text_tokens.specs.declared.TokenKind.TheVariants as kind
use Rattle.text_tokens.specs.Text.{Piece, separator, token, text_of}

-- ---- words

abbrev pub keyword : List ℕ → Piece
keyword text = token kind.Keyword text

abbrev pub mark : List ℕ → Piece
mark text = token kind.Mark text

abbrev pub name : List ℕ → Piece
name text = token kind.Name text

-- a NUMBER without leading zeros
abbrev pub number : ℕ → Piece
number n = token (kind.Number n) (decimal n)

-- ---- separators

abbrev pub space : Piece
space = separator 32

-- how much deeper the lines of a block stand
abbrev pub step : ℕ
step = 4

-- the start of a line at this depth
unfoldable pub line : ℕ → List Piece
line depth = separator 10 ∷ repeat depth (space ∷ [])

-- ---- lists

-- each item behind a comma
unfoldable pub behind_commas : {A : Type 0} → (A → List Piece) → List A → List Piece
behind_commas item [] = []
behind_commas item (x ∷ xs) = mark (codes ",") ∷ space ∷ item x ++ behind_commas item xs

-- the items with commas between them
unfoldable pub listed : {A : Type 0} → (A → List Piece) → List A → List Piece
listed item [] = []
listed item (x ∷ xs) = item x ++ behind_commas item xs

-- ---- brackets

-- between parentheses
unfoldable pub in_parens : List Piece → List Piece
in_parens inner = mark (codes "(") ∷ inner ++ mark (codes ")") ∷ []

-- between brackets
unfoldable pub in_brackets : List Piece → List Piece
in_brackets inner = mark (codes "[") ∷ inner ++ mark (codes "]") ∷ []

-- two with a comma between them, in parentheses
unfoldable pub pair : List Piece → List Piece → List Piece
pair a b = in_parens (a ++ mark (codes ",") ∷ space ∷ b)

-- the brace that closes what was opened on a line at this depth
unfoldable pub closing : ℕ → List Piece
closing depth = line depth ++ mark (codes "}") ∷ []

-- a block with these lines, opened on a line at this depth
unfoldable pub in_braces : ℕ → List Piece → List Piece
in_braces depth lines = mark (codes "{") ∷ lines ++ closing depth

-- ---- bytes

-- the bytes of the words and separators
unfoldable pub bytes : List Piece → List ℕ
bytes pieces = text_of pieces
