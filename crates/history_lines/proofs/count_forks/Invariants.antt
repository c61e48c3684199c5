use Rattle.std.proofs.Common.{◌≡◌, ◌+◌, ◌≤◌, drop, map}
use Rattle.chan_machine.specs.Reading.{entry_of}
use Rattle.core_language.specs.Rounds.{forks_of}
use Rattle.history_lines.proofs.count_forks.Given as goal

abbrev pub invariant-loop-entry : goal.invariant-loop-entry
invariant-loop-entry l =
    (l.count ≤ l.entry-index) × (l.count + forks_of (map entry_of (drop l.entry-index l.entries)) ≡ forks_of (map entry_of l.entries))
