use Rattle.frame_laws.proofs.Steps.{fits_after_steps}
use Rattle.frame_laws.proofs.Starts.{fits_its_start}
use Rattle.frame_laws.proofs.Runs.{fits_in_runs}
use Rattle.frame_laws.proofs.Nodes.{calls_find_functions}
use Rattle.frame_laws.proofs.laws.Goals as goal

pub returns-clause-starts : goal.returns-clause-starts
returns-clause-starts c = fits_its_start

pub returns-clause-keeps : goal.returns-clause-keeps
returns-clause-keeps c = fits_after_steps

pub returns-clause-runs : goal.returns-clause-runs
returns-clause-runs c = fits_in_runs

pub returns-clause-finds : goal.returns-clause-finds
returns-clause-finds c = calls_find_functions
