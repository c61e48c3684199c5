use Rattle.helper_outlines.proofs.Sending.{helpers_are_outlined}
use Rattle.helper_outlines.proofs.laws.Goals as goal

pub returns : goal.returns
returns c = helpers_are_outlined
