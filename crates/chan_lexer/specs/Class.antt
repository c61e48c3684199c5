-- Classes of bytes.
use Rattle.std.specs.Prelude.{ℕ, Bool}
use Rattle.std.specs.Char.{is_ascii_digit}
use Rattle.text_tokens.specs.Word.{continues_name}
use Rattle.text_tokens.specs.Text.{is_in_line}
use Rattle.chan_lexer.specs.declared.words.Class.{Class}
use Rattle.chan_lexer.specs.declared.words.Class.TheVariants.{Name, Digit, Line}

-- the byte is of the class
abbrev pub is_in : Class → ℕ → Bool
is_in Name = continues_name
is_in Digit = is_ascii_digit
is_in Line = is_in_line
