use Rattle.std.proofs.Common.{Some, rules}
use Rattle.chan_machine.proofs.steps.fill.Goals as goal

pub returns-in-Some : goal.returns-in-Some
returns-in-Some c = (c.get_mut.follows.holds (Some c.args.value)).3 (search rules)
