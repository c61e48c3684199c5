-- What the reading of a text comes to.
use Rattle.std.specs.Prelude.{ℕ, List}
use Rattle.chan_lexer.specs.Lexed.{Lexed}
use Rattle.chanl_top.specs.declared.readings.Reading.{Reading}
use Rattle.chanl_top.specs.declared.readings.Reading.TheVariants as reading
use Rattle.chanl_top.specs.Verdict.{IsUnread}
use Rattle.spelling_laws.specs.Laws.{Reads}

-- the text is read as the tree; or the line says why not
abbrev pub IsReading : List ℕ → Reading → Type 0
IsReading text (reading.Tree tree) = Reads text tree
IsReading text (reading.Refused line) = IsUnread text line

-- what becomes of tokens that were cut
abbrev pub IsReadingOf : Lexed → Reading → Type 0
IsReadingOf cut reading = IsReading cut.source reading
