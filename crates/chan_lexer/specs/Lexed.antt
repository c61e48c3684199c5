-- What clients see of the tokens of a text.
use Rattle.std.specs.Prelude.{ℕ, List}
use Rattle.text_tokens.specs.Text as text
use Rattle.text_tokens.specs.Text.{HasTokens}
use Rattle.chan_lexer.specs.declared.token.Token.{Token}
use Rattle.chan_lexer.specs.Spelled.{spelled}

-- a text and its tokens
pub record Lexed : Type 0 where
  pub source : List ℕ
  pub list : List Token

-- the tokens with their bytes
abbrev pub tokens_of : Lexed → List text.Token
tokens_of lexed = spelled lexed.source lexed.list
