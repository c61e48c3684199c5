use Rattle.std.proofs.Common.{get_or, ap, arith}
use Rattle.protocol_guard.proofs.Tables.{places_more, places_all}
use Rattle.protocol_guard.proofs.graphs.places_of.Goals as goal

pub protos-preserved : goal.protos-preserved
protos-preserved c = (
  omega arith,
  places_more c.args.protos.now c.protos.index (get_or c.args.protos.now c.protos.index c.index-protos-index.result) c.protos.places c.add_place.new.places c.protos-test.true
      (ap (get_or c.args.protos.now c.protos.index) c.index-protos-index.is) c.protos.invariant.1 c.in_ok-add_place.ensures,
)

pub returns : goal.returns
returns c = places_all c.args.protos.now c.protos.index c.protos.places c.protos-test.false c.protos.invariant.1
