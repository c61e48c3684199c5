-- The text of an entry.
use Rattle.std.specs.Prelude.{ℕ, codes, List, [], ◌∷◌, ◌++◌}
use Rattle.std.specs.Fmt.{decimal, signed_decimal}
use Rattle.chan_base.specs.Names.{name_text}
use Rattle.core_language.specs.Steps.{Event, Silent, Fork, Send, Recv, Print, End}
use Rattle.core_language.specs.Rounds.{Entry}

-- what was done, behind a space; an entry has no silent step
abbrev pub event_text : Event → List ℕ
event_text Silent = []
event_text (Fork c) = codes " fork " ++ name_text c
event_text (Send c) = codes " send " ++ name_text c
event_text (Recv c) = codes " recv " ++ name_text c
event_text (Print z) = codes " print " ++ signed_decimal z
event_text End = codes " end"

-- the time, the name of the task, and what it did
abbrev pub entry_text : Entry → List ℕ
entry_text e = decimal e.time ++ (32 ∷ name_text e.name) ++ event_text e.event
