use Rattle.std.proofs.Common.{ℕ, Option, subst}
use Rattle.std.specs.Prelude.{IfSome}
use Rattle.std.proofs.lemmas.Result.{on_ok_weaker}
use Rattle.machine_values.specs.declared.values.Value.{Value}
use Rattle.machine_values.specs.Ends.{ValuePasses}
use Rattle.machine_tasks.proofs.attempts.try_pick.Goals as goal

pub returns-in-Some-clause-ends : goal.returns-in-Some-clause-ends
returns-in-Some-clause-ends c =
    on_ok_weaker c.pick.result (λ keeps test all. keeps test (subst (λ (o : Option (ℕ × Value)). IfSome o (λ p. ValuePasses test p.1)) c.in-Some.is all)) c.pick.ensures.ends
