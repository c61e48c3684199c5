use Rattle.std.proofs.Common.{[]}
use Rattle.cell_tests.proofs.tables.a_second_receive_is_misused.Goals as goal

pub send_to-requires-clause-number : goal.send_to-requires-clause-number
send_to-requires-clause-number g c = (c.begun-one.ensures.number.0, c.taken-job.ensures.more (c.begun-one.result.0, []) c.begun-one.ensures.number.1)
