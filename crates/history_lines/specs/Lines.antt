-- What is written of a run besides its prints.
use Rattle.std.specs.Prelude.{ℕ, codes, List, ◌++◌}
use Rattle.std.specs.Fmt.{decimal}
use Rattle.std.specs.List.{flat_map}
use Rattle.chanl_lines.specs.Lines.{line, ending_line, run_text}
use Rattle.core_language.specs.Endings.{Ending}
use Rattle.core_language.specs.Rounds.{Entry, forks_of}
use Rattle.history.specs.Texts.{entry_text}

abbrev pub entry_line : Entry → List ℕ
entry_line entry = line (entry_text entry)

-- each entry on its line, and then how the run ended
abbrev pub history_text : List Entry → Ending → List ℕ
history_text entries ending = flat_map entry_line entries ++ ending_line ending

abbrev pub forks_line : List Entry → List ℕ
forks_line entries = line (codes "forks " ++ decimal (forks_of entries))

-- what a run writes, and then how many forks there were
abbrev pub counted_text : List Entry → Ending → List ℕ
counted_text entries ending = run_text entries ending ++ forks_line entries
