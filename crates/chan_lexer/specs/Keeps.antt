-- What a `Tokens` keeps.
use Rattle.std.specs.Prelude.{◌<◌, length}
use Rattle.text_tokens.specs.Text.{HasTokens}
use Rattle.chan_lexer.specs.declared.lexed.Tokens.TheInside.{Inside}
use Rattle.chan_lexer.specs.Lexed.{Lexed}
use Rattle.chan_lexer.specs.Spelled.{spelled}

-- the source and its tokens
abbrev pub lexed : Inside → Lexed
lexed t = record { source = t.source; list = t.list }

-- the list is that of the source, whose places fit in 32 bits
abbrev pub IsLexed : Inside → Type 0
IsLexed t = HasTokens t.source (spelled t.source t.list) × (length t.source < 4294967295)
