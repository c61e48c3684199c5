use Rattle.std.proofs.Common.{◌∙◌, sym, subst, List}
use Rattle.protocol_guard.specs.declared.graphs.Turns.{Turns}
use Rattle.protocol_guard.specs.Searches.{IsClosed}
use Rattle.protocol_guard.specs.Cycles.{IsFirstAnswer}
use Rattle.protocol_guard.proofs.Tables.{graph_closed}
use Rattle.protocol_guard.proofs.cycles.find_cycle.Goals as goal

pub first_cycle-requires : goal.first_cycle-requires
first_cycle-requires c = subst IsClosed (sym (c.as_slice.ensures.value ∙ c.in_ok-graph.ensures)) (graph_closed c.args.protos.now)

pub returns : goal.returns
returns c = subst (λ (g : List Turns). IsFirstAnswer g c.in_ok-cycle.cycle) (c.as_slice.ensures.value ∙ c.in_ok-graph.ensures) c.in_ok-cycle.ensures
