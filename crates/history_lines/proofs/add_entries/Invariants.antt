use Rattle.std.proofs.Common.{◌≡◌, ◌++◌, drop}
use Rattle.std.specs.List.{flat_map}
use Rattle.chan_machine.specs.Reading.{entry_of}
use Rattle.history_lines.specs.Lines.{entry_line}
use Rattle.history_lines.proofs.add_entries.Given as goal

abbrev pub invariant-loop-entry : goal.invariant-loop-entry
invariant-loop-entry l =
    l.text.items ++ flat_map (λ e. entry_line (entry_of e)) (drop l.entry-index l.entries)
    ≡ l.initial.text.items ++ flat_map (λ e. entry_line (entry_of e)) l.entries
