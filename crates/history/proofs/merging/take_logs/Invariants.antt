use Rattle.std.proofs.Common.{◌≡◌, ◌++◌, reverse, length}
use Rattle.history.specs.Merging.{entries_of}
use Rattle.history.proofs.merging.take_logs.Given as goal

abbrev pub invariant-logs : goal.invariant-logs
invariant-logs l = l.entries.items ++ reverse (entries_of l.logs) ≡ reverse (entries_of l.fn.logs)

abbrev pub decreases-logs : goal.decreases-logs
decreases-logs l = length l.logs
