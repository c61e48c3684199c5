use Rattle.std.proofs.Common.{◌≡◌, ◌++◌, map}
use Rattle.task_tables.proofs.tables.listed.Given as goal

abbrev pub invariant-numbers : goal.invariant-numbers
invariant-numbers l = l.names ++ map (λ e. e.0) l.name-iterator ≡ map (λ e. e.0) l.fn.numbers.entries
