-- The lines of entries, one by one.
use Rattle.std.proofs.Common.{◌≡◌, List, [], ◌∷◌, ◌++◌, map, refl, ap}
use Rattle.std.specs.List.{flat_map}
use Rattle.chan_machine.specs.Reading.{entry_of}
use Rattle.chan_machine.specs.declared.events.Entry.{Entry}
use Rattle.history_lines.specs.Lines.{entry_line}

pub by_entries : (es : List Entry) → flat_map (λ e. entry_line (entry_of e)) es ≡ flat_map entry_line (map entry_of es)
by_entries [] = refl
by_entries (e ∷ es) = ap (λ rest. entry_line (entry_of e) ++ rest) (by_entries es)
