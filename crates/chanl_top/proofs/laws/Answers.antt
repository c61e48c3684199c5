use Rattle.chanl_top.proofs.OneVerdict.{one_verdict}
use Rattle.chanl_top.proofs.laws.Goals as goal

pub returns : goal.returns
returns c = one_verdict
