use Rattle.std.proofs.Common.{subst}
use Rattle.std.proofs.lemmas.Result.{on_ok_weaker}
use Rattle.machine_values.specs.Ends.{MadePasses}
use Rattle.machine_tasks.proofs.attempts.try_return.Goals as goal

pub returns-in-Ok-clause-ends : goal.returns-in-Ok-clause-ends
returns-in-Ok-clause-ends c = on_ok_weaker c.give_back.result (λ keeps test all. keeps test (subst (MadePasses test) c.in-Ok.is all)) c.give_back.ensures.ends
