use Rattle.std.proofs.Common.{◌∙◌}
use Rattle.protocol_guard.proofs.Tables.{same_graph}
use Rattle.protocol_guard.proofs.graphs.graph_of.Goals as goal

pub returns : goal.returns
returns c = c.in_ok-graph.ensures ∙ same_graph c.args.protos.now c.in_ok-places.places c.in_ok-places.ensures
