use Rattle.known_tasks.proofs.Calls.{knows_main, goes_on, knows_silent, knows_forked, knows_sent, knows_received, knows_finished}
use Rattle.known_tasks.proofs.laws.Goals as goal

pub returns-clause-main : goal.returns-clause-main
returns-clause-main c = knows_main

pub returns-clause-next : goal.returns-clause-next
returns-clause-next c = goes_on

pub returns-clause-silent : goal.returns-clause-silent
returns-clause-silent c = knows_silent

pub returns-clause-fork : goal.returns-clause-fork
returns-clause-fork c = knows_forked

pub returns-clause-send : goal.returns-clause-send
returns-clause-send c = knows_sent

pub returns-clause-receive : goal.returns-clause-receive
returns-clause-receive c = knows_received

pub returns-clause-finish : goal.returns-clause-finish
returns-clause-finish c = knows_finished
