-- The lines that the program writes.
use Rattle.std.specs.Prelude.{ℕ, ℤ, codes, List, [], ◌∷◌, ◌++◌}
use Rattle.std.specs.List.{flat_map}
use Rattle.std.specs.Fmt.{decimal, signed_decimal}
use Rattle.chan_base.specs.Names.{name_text}
use Rattle.chan_base.specs.declared.spans.Span.{Span}
use Rattle.core_language.specs.Names.{Name, Ident}
use Rattle.form_faults.specs.declared.faults.Ill.{Ill}
use Rattle.form_faults.specs.declared.faults.IllKind.{IllKind}
use Rattle.form_faults.specs.declared.faults.IllKind.TheVariants as kind
use Rattle.core_language.specs.Computing.{StuckWhy}
use Rattle.core_language.specs.Computing as why
use Rattle.core_language.specs.Rounds.{Entry, printed, prints_of}
use Rattle.core_language.specs.Endings.{Ending}
use Rattle.core_language.specs.Endings as ending

abbrev pub line : List ℕ → List ℕ
line text = text ++ 10 ∷ []

abbrev pub usage : List ℕ
usage = line (codes "usage: chanl check | run | history | fmt | core | replay | follow | make N")

abbrev pub read_fault : List ℕ
read_fault = line (codes "read fault")

abbrev pub refused : List ℕ → List ℕ
refused why = line (codes "refused " ++ why)

-- the line and the column
abbrev pub place_text : Span → List ℕ
place_text span = decimal span.line ++ 58 ∷ decimal span.column

-- refused for what stands at a place
abbrev pub refused_at : Span → List ℕ → List ℕ
refused_at span why = refused (place_text span ++ 32 ∷ why)

-- a space and the name
abbrev pub after_blank : Ident → List ℕ
after_blank name = 32 ∷ name

abbrev pub idents_text : List Ident → List ℕ
idents_text names = flat_map after_blank names

abbrev pub kind_text : IllKind → List ℕ
kind_text kind.UnknownName = codes "unknown name"
kind_text kind.Twice = codes "twice"
kind_text kind.Arity = codes "arity"
kind_text kind.NoMain = codes "no main"
kind_text kind.Unscoped = codes "unscoped"
kind_text kind.Unguarded = codes "unguarded"
kind_text kind.TooMany = codes "too many"
kind_text kind.BadNumber = codes "bad number"
kind_text kind.WrongSession = codes "wrong session"

-- refused for a fault of form, with the names that it tells
abbrev pub ill_line : Ill → List ℕ
ill_line ill = refused_at ill.span (kind_text ill.kind ++ idents_text ill.names)

-- each number on a line of its own
abbrev pub print_lines : List ℤ → List ℕ
print_lines numbers = flat_map (λ z. line (signed_decimal z)) numbers

abbrev pub why_text : StuckWhy → List ℕ
why_text why.NotInt = codes "not int"
why_text why.NotEnd = codes "not end"
why_text why.NotPair = codes "not pair"
why_text why.NotSum = codes "not sum"
why_text why.FullChannel = codes "full channel"
why_text why.NoChannel = codes "no channel"
why_text why.Absurd = codes "absurd"
why_text why.Deep = codes "deep"

-- a space and the name
abbrev pub after_space : Name → List ℕ
after_space p = 32 ∷ name_text p

abbrev pub names_text : List Name → List ℕ
names_text names = flat_map after_space names

abbrev pub ending_text : Ending → List ℕ
ending_text ending.Finished = codes "finished"
ending_text ending.Rounds = codes "stopped rounds"
ending_text (ending.OutOfRange p) = codes "stopped range" ++ after_space p
ending_text (ending.TooDeep p) = codes "stopped depth" ++ after_space p
ending_text (ending.Stuck p why) = codes "stuck" ++ after_space p ++ 32 ∷ why_text why
ending_text (ending.Deadlocked names) = codes "deadlocked" ++ names_text names
ending_text (ending.Leaked names) = codes "leaked" ++ names_text names

abbrev pub ending_line : Ending → List ℕ
ending_line ending = line (ending_text ending)

-- what a run writes: its prints, and how it ended
abbrev pub run_text : List Entry → Ending → List ℕ
run_text entries ending = print_lines (prints_of entries) ++ ending_line ending

-- what an entry adds to that
abbrev pub entry_lines : Entry → List ℕ
entry_lines entry = print_lines (printed entry.event)
