-- The tokens of a text by their kinds and spans.
use Rattle.std.specs.Prelude.{ℕ, List, map}
use Rattle.text_tokens.specs.Text as text
use Rattle.text_tokens.specs.Text.{text_at}
use Rattle.chan_lexer.specs.declared.token.Token.{Token}

-- a token with the bytes that the source has at its span
abbrev pub spelled_token : List ℕ → Token → text.Token
spelled_token source t = record { kind = t.kind; text = text_at source t.span; span = t.span }

-- the tokens, each with its bytes
abbrev pub spelled : List ℕ → List Token → List text.Token
spelled source list = map (spelled_token source) list
