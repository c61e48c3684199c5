use Rattle.known_loads.proofs.Ends.{end_in}
use Rattle.known_loads.proofs.states.State.channel.Goals as goal

pub returns-clause-end : goal.returns-clause-end
returns-clause-end c = end_in c.args.self.now.task c.in-Some.channel.now (λ test passes. c.in-Some.ensures.cell test passes)
