use Rattle.std.proofs.Common.{◌≡◌, ◌++◌, drop}
use Rattle.std.specs.List.{flat_map}
use Rattle.chan_machine.specs.Reading.{entry_of}
use Rattle.chanl_lines.specs.Lines.{entry_lines}
use Rattle.chanl_lines.proofs.add_prints.Given as goal

abbrev pub invariant-loop-entry : goal.invariant-loop-entry
invariant-loop-entry l =
    l.text.items ++ flat_map (λ e. entry_lines (entry_of e)) (drop l.entry-index l.entries)
    ≡ l.initial.text.items ++ flat_map (λ e. entry_lines (entry_of e)) l.entries
