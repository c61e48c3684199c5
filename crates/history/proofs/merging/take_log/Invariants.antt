use Rattle.std.proofs.Common.{◌≡◌, ◌++◌, reverse, length}
use Rattle.history.proofs.merging.take_log.Given as goal

abbrev pub invariant-entries : goal.invariant-entries
invariant-entries l = l.entries.items ++ reverse l.log ≡ l.initial.entries.items ++ reverse l.fn.log

abbrev pub decreases-entries : goal.decreases-entries
decreases-entries l = length l.log
