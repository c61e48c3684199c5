use Rattle.std.proofs.Common.{drop}
use Rattle.core_programs.specs.Formed.{nexts}
use Rattle.core_programs.specs.Uses.{StandBefore}
use Rattle.core_programs.proofs.starts.start_of.Given as goal

abbrev pub invariant-turns : goal.invariant-turns
invariant-turns l = StandBefore l.starts (drop l.turn (nexts l.node)) l.number l.start

abbrev pub decreases-turns : goal.decreases-turns
decreases-turns l = l.turn
