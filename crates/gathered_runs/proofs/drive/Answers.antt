use Rattle.gathered_runs.proofs.Keeping.{starts_complete, moves_keep}
use Rattle.gathered_runs.proofs.Finishing.{moves_end, moves_count, moves_or_rests, finishes_alone, rests_at_the_run}
use Rattle.gathered_runs.proofs.drive.Goals as goal

pub returns-clause-starts : goal.returns-clause-starts
returns-clause-starts c = starts_complete

pub returns-clause-keeps : goal.returns-clause-keeps
returns-clause-keeps c = moves_keep

pub returns-clause-ends : goal.returns-clause-ends
returns-clause-ends c = moves_end

pub returns-clause-counts : goal.returns-clause-counts
returns-clause-counts c = moves_count

pub returns-clause-moves : goal.returns-clause-moves
returns-clause-moves c = moves_or_rests

pub returns-clause-finishes : goal.returns-clause-finishes
returns-clause-finishes c = finishes_alone

pub returns-clause-rests : goal.returns-clause-rests
returns-clause-rests c = rests_at_the_run
