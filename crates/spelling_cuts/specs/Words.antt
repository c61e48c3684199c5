-- Tokens without their places.
use Rattle.std.specs.Prelude.{List, [], ◌∷◌}
use Rattle.text_tokens.specs.Word.{IsToken}
use Rattle.text_tokens.specs.Text.{Piece, separator, comment, token, Token}
use Rattle.surface_spelling.specs.Erased.{nowhere}

-- the token without its place
abbrev pub bare : Token → Token
bare t = record { kind = t.kind; text = t.text; span = nowhere }

-- the tokens among the pieces, without their places
abbrev pub words : List Piece → List Token
words [] = []
words (separator b ∷ ps) = words ps
words (comment bytes ∷ ps) = words ps
words (token kind word ∷ ps) = record { kind = kind; text = word; span = nowhere } ∷ words ps

-- each has the form of its kind, and no number is too large
abbrev pub AreTokens : List Token → Type 0
AreTokens [] = Unit {0}
AreTokens (t ∷ ts) = IsToken t.kind t.text × AreTokens ts
