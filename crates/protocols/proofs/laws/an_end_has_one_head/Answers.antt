use Rattle.protocols.proofs.One.{head_is_one}
use Rattle.protocols.proofs.laws.an_end_has_one_head.Goals as goal

pub returns : goal.returns
returns c = head_is_one
