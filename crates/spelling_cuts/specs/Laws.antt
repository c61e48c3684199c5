-- What the spelling of a program is cut into.
use Rattle.std.specs.Prelude.{[]}
use Rattle.chan_syntax.specs.declared.surface_tree.Surface.{Surface}
use Rattle.text_tokens.specs.Text.{IsCutBefore}
use Rattle.surface_spelling.specs.Spelling.{program}
use Rattle.spelling_cuts.specs.Words.{words, AreTokens}

-- Where the words of a program are tokens, its spelling is cut into these words and the separators between them: no word runs into the next.
abbrev pub IsCutAtItsWords : Type 0
IsCutAtItsWords = (s : Surface) → AreTokens (words (program s)) → IsCutBefore (program s) []
