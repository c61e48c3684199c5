use Rattle.std.proofs.Common.{[]}
use Rattle.cell_tests.proofs.tables.a_value_waits_for_its_receiver.Goals as goal

pub send_to-sent-requires-clause-number : goal.send_to-sent-requires-clause-number
send_to-sent-requires-clause-number g c = (c.begun-one.ensures.number.0, c.taken-job.ensures.more (c.begun-one.result.0, []) c.begun-one.ensures.number.1)
