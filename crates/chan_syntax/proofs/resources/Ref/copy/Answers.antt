use Rattle.std.proofs.Common.{rules}
use Rattle.chan_syntax.proofs.resources.Ref.copy.Goals as goal

pub returns : goal.returns
returns c = search rules
