use Rattle.std.proofs.Common.{Result, IfOk, subst}
use Rattle.std.specs.Global.{Vec}
use Rattle.machine_values.specs.declared.computing.Trouble.{Trouble}
use Rattle.machine_values.specs.declared.values.Value.{Value}
use Rattle.machine_values.specs.Ends.{ValuesPass}
use Rattle.machine_tasks.proofs.attempts.try_call.Goals as goal

pub returns-in_ok-call-in-Ok-clause-ends : goal.returns-in_ok-call-in-Ok-clause-ends
returns-in_ok-call-in-Ok-clause-ends c = λ test all.
    c.in_ok-call-in-Ok.ensures.ends test (subst (λ (r : Result (Vec Value) Trouble). IfOk r (λ vs. ValuesPass test vs.items)) c.in-Ok.is all)
