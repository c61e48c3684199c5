use Rattle.std.proofs.Common.{◌^◌}
use Rattle.value_rules.proofs.divisions.start.Goals as goal

pub returns-clause-within : goal.returns-clause-within
returns-clause-within c = c.in_ok-add.ensures.within (2 ^ 63) c.constant-sum.ensures.within
