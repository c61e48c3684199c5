use Rattle.chan_machine.proofs.Parked.{waits-taken}
use Rattle.chan_machine.proofs.queue.wake.Goals as goal

pub returns-in_ok-join_all-clause-waits : goal.returns-in_ok-join_all-clause-waits
returns-in_ok-join_all-clause-waits c = waits-taken c.args.waiting.now c.remove.new.self c.args.channel.now c.remove.ensures.updates

pub returns-in_default-clause-waits : goal.returns-in_default-clause-waits
returns-in_default-clause-waits c = waits-taken c.args.waiting.now c.remove.new.self c.args.channel.now c.remove.ensures.updates
