use Rattle.protocols.proofs.Turned.{dual_turns_the_head}
use Rattle.protocols.proofs.laws.the_dual_is_the_other_end.Goals as goal

pub returns-clause-head : goal.returns-clause-head
returns-clause-head c = dual_turns_the_head
