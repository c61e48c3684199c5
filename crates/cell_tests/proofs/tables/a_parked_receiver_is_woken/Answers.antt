use Rattle.std.proofs.Common.{ℕ, List, []}
use Rattle.cell_tests.proofs.tables.a_parked_receiver_is_woken.Goals as goal

pub receive-requires-clause-number : goal.receive-requires-clause-number
receive-requires-clause-number g c = (c.begun-one.ensures.number.0, c.taken-job.ensures.more (c.begun-one.result.0, []) c.begun-one.ensures.number.1)

pub receive-got-requires-clause-number : goal.receive-got-requires-clause-number
receive-got-requires-clause-number g c =
    let e : ℕ × List ℕ = (c.begun-one.result.0, []) in
    (c.begun-one.ensures.number.0, c.taken-job-3.ensures.more e (c.receive.ensures.more e (c.taken-job.ensures.more e c.begun-one.ensures.number.1)))
