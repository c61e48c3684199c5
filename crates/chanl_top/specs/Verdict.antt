-- What the program answers to its words and its input.
use Rattle.std.specs.Prelude.{◌≡◌, ℕ, ◌<◌, ◌≤◌, ◌⊎◌, true, false, codes, List, length}
use Rattle.core_language.specs.Programs.{Program}
use Rattle.core_language.specs.Rounds.{Run, run_of}
use Rattle.core_language.specs.Endings.{Ending, ending_of}
use Rattle.core_language.specs.Endings as ending
use Rattle.chanl_words.specs.declared.Command.{Command}
use Rattle.chanl_words.specs.declared.Command.TheVariants as command
use Rattle.chanl_words.specs.Words.{Admits, IsUsage}
use Rattle.chanl_lines.specs.Lines.{usage, refused, refused_at, ill_line, run_text}
use Rattle.chan_syntax.specs.declared.surface_tree.Surface.{Surface}
use Rattle.form_faults.specs.declared.faults.Ill.{Ill}
use Rattle.core_programs.specs.declared.nodes.Parts.{Parts}
use Rattle.core_programs.specs.Form.{HasForm, IsFault}
use Rattle.core_trees.specs.Core.{is_core}
use Rattle.core_numbering.specs.Numbering.{IsNumbering}
use Rattle.core_numbering.specs.Pure.{program_in}
use Rattle.spelling_laws.specs.Laws.{Reads}
use Rattle.text_tokens.specs.Text.{Token, HasTokens, Fault, bad_byte, bad_token, number_too_large, IsFirstFault}
use Rattle.surface_spelling.specs.Spelling.{spelling}
use Rattle.chan_parser.specs.Parse as parse
use Rattle.chanl_top.specs.declared.status.Status.{Status}
use Rattle.chanl_top.specs.declared.status.Status.TheVariants as status
use Rattle.chanl_top.specs.declared.verdicts.Verdict.{Verdict}

abbrev pub status_number : Status → ℕ
status_number status.Done = 0
status_number status.TextRefused = 1
status_number status.Usage = 2
status_number status.OutlineRefused = 3
status_number status.Stopped = 4
status_number status.ReadFault = 5
status_number status.WriteFault = 6
status_number status.Memory = 7
status_number status.BadEnding = 8

-- the text is refused, and why
abbrev pub refusal : List ℕ → Verdict
refusal why = record { status = status.TextRefused; output = refused why }

-- the greatest length of a text
abbrev pub longest : ℕ
longest = 1048576

-- the status of a run that ended so
abbrev pub ending_status : Ending → Status
ending_status ending.Finished = status.Done
ending_status ending.Rounds = status.Stopped
ending_status (ending.OutOfRange p) = status.Stopped
ending_status (ending.TooDeep p) = status.Stopped
ending_status (ending.Stuck p why) = status.BadEnding
ending_status (ending.Deadlocked names) = status.BadEnding
ending_status (ending.Leaked names) = status.BadEnding

abbrev pub ran : Program → Run → Verdict
ran program run = record {
  status = ending_status (ending_of program run.config);
  output = run_text run.entries (ending_of program run.config);
}

-- the prints of the program's round run, and its ending
abbrev pub replayed : Program → ℕ → Verdict
replayed program rounds = ran program (run_of program rounds)

-- ---- reading a text

-- why a text has no tokens
abbrev pub lexing_line : Fault → List ℕ
lexing_line (bad_byte span) = refused_at span (codes "bad byte")
lexing_line (bad_token span) = refused_at span (codes "bad token")
lexing_line (number_too_large span) = refused_at span (codes "number too large")

-- why tokens have no tree
abbrev pub grammar_line : parse.Fault → List ℕ
grammar_line (parse.unexpected span) = refused_at span (codes "unexpected")
grammar_line (parse.too_deep span) = refused_at span (codes "too deep")

-- the text has no tokens, or they have no tree, and the line says why
abbrev pub IsUnread : List ℕ → List ℕ → Type 0
IsUnread text line =
    ((fault : Fault) × IsFirstFault text fault × (line ≡ lexing_line fault))
    ⊎ ((tokens : List Token) × HasTokens text tokens × (fault : parse.Fault) × parse.IsFirstFault text tokens fault × (line ≡ grammar_line fault))

abbrev pub line_refusal : List ℕ → Verdict
line_refusal line = record { status = status.TextRefused; output = line }

-- ---- commands on a text of at most the greatest length

-- the canonical spelling of the tree
abbrev pub IsFmtVerdict : List ℕ → Verdict → Type 0
IsFmtVerdict text verdict =
    ((tree : Surface) × Reads text tree × (verdict ≡ record { status = status.Done; output = spelling tree }))
    ⊎ ((line : List ℕ) × IsUnread text line × (verdict ≡ line_refusal line))

-- the run of the program that the tree says, or the first fault of its form, however its nodes are numbered
abbrev pub IsRunVerdict : Surface → ℕ → Verdict → Type 0
IsRunVerdict tree rounds verdict =
    (parts : Parts) × IsNumbering tree parts
    × ((HasForm parts × (verdict ≡ replayed (program_in tree) rounds)) ⊎ ((ill : Ill) × IsFault parts ill × (verdict ≡ line_refusal (ill_line ill))))

-- trees with sessions can't be run yet
abbrev pub IsTreeVerdict : Surface → ℕ → Verdict → Type 0
IsTreeVerdict tree rounds verdict =
    ((is_core tree ≡ true) × IsRunVerdict tree rounds verdict) ⊎ ((is_core tree ≡ false) × (verdict ≡ refusal (codes "not yet")))

abbrev pub IsReplayVerdict : ℕ → List ℕ → Verdict → Type 0
IsReplayVerdict rounds text verdict =
    ((tree : Surface) × Reads text tree × IsTreeVerdict tree rounds verdict)
    ⊎ ((line : List ℕ) × IsUnread text line × (verdict ≡ line_refusal line))

abbrev pub IsTextVerdict : Command → List ℕ → Verdict → Type 0
IsTextVerdict command.Fmt text verdict = IsFmtVerdict text verdict
IsTextVerdict (command.Replay rounds) text verdict = IsReplayVerdict rounds text verdict

-- a text that is too long is refused for that alone
abbrev pub IsCommandVerdict : Command → List ℕ → Verdict → Type 0
IsCommandVerdict command text verdict =
    ((length text ≤ longest) × IsTextVerdict command text verdict) ⊎ ((longest < length text) × (verdict ≡ refusal (codes "too long")))

-- the answer to the words, where these are all bytes of the input
abbrev pub IsVerdict : List (List ℕ) → List ℕ → Verdict → Type 0
IsVerdict words bytes verdict =
    ((command : Command) × Admits words command × IsCommandVerdict command bytes verdict)
    ⊎ (IsUsage words × (verdict ≡ record { status = status.Usage; output = usage }))
