use Rattle.std.proofs.Common.{Option, subst}
use Rattle.std.specs.Prelude.{IfSome}
use Rattle.machine_values.specs.declared.values.Value.{Value}
use Rattle.machine_values.specs.Ends.{ValuePasses}
use Rattle.machine_tasks.proofs.attempts.try_split.Goals as goal

pub returns-in_ok-split-in-Some-clause-ends : goal.returns-in_ok-split-in-Some-clause-ends
returns-in_ok-split-in-Some-clause-ends c = λ test all passes.
    let both = subst (λ (o : Option (Value × Value)). IfSome o (λ p. ValuePasses test p.0 × ValuePasses test p.1)) c.in-Some.is all in
    c.in_ok-split-in-Some.ensures.ends test both.0 both.1 passes
