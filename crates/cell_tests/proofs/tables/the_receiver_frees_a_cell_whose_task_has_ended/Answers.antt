use Rattle.std.proofs.Common.{[]}
use Rattle.cell_tests.proofs.tables.the_receiver_frees_a_cell_whose_task_has_ended.Goals as goal

pub receive-requires-clause-number : goal.receive-requires-clause-number
receive-requires-clause-number g c = (c.begun-one.ensures.number.0, c.taken-job-2.ensures.more (c.begun-one.result.0, []) c.begun-one.ensures.number.1)
