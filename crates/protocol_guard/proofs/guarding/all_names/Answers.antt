use Rattle.std.proofs.Common.{Some}
use Rattle.protocol_guard.specs.Guards.{names_on}
use Rattle.protocol_guard.proofs.Tables.{names_more}
use Rattle.protocol_guard.proofs.guarding.all_names.Goals as goal

pub loop-turn-preserved : goal.loop-turn-preserved
loop-turn-preserved c =
    names_more c.args.protos.now c.args.graph.now c.loop-turn.at c.next-at.result c.args.way.now c.loop-turn.turn-index _ c.loop-turn.names c.add_name.new.names (names_on c.args.protos.now (Some c.args.start) c.args.way.now)
    c.requires c.loop-turn-test.true c.in_ok-add_name.ensures c.next-at.ensures c.loop-turn.invariant
