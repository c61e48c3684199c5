use Rattle.protocol_guard.proofs.Falling.{no_return}
use Rattle.protocol_guard.proofs.cycles.way_back.Goals as goal

pub returns-then-falls : goal.returns-then-falls
returns-then-falls c = no_return c.args.graph.now c.args.ranks.now c.requires.ranks c.args.start (c.falls.ensures c.if-falls.true)
