use Rattle.std.proofs.Common.{[]}
use Rattle.cell_tests.proofs.tables.the_end_frees_a_cell_that_was_received.Goals as goal

pub send_to-sent-requires-clause-number : goal.send_to-sent-requires-clause-number
send_to-sent-requires-clause-number g c = (c.begun-one.ensures.number.0, c.taken-parent.ensures.more (c.begun-one.result.0, []) c.begun-one.ensures.number.1)
