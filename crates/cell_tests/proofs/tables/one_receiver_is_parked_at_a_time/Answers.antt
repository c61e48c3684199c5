use Rattle.std.proofs.Common.{[]}
use Rattle.cell_tests.proofs.tables.one_receiver_is_parked_at_a_time.Goals as goal

pub receive-parked-requires-clause-number : goal.receive-parked-requires-clause-number
receive-parked-requires-clause-number g c = (c.begun-one.ensures.number.0, c.taken-job.ensures.more (c.begun-one.result.0, []) c.begun-one.ensures.number.1)
