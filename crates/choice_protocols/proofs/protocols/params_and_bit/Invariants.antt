use Rattle.std.proofs.Common.{◌≡◌, ◌++◌, ◌-◌, length, drop}
use Rattle.session_lowering.specs.Choices.{params_and_bit}
use Rattle.choice_protocols.proofs.protocols.params_and_bit.Given as goal

abbrev pub invariant-params : goal.invariant-params
invariant-params l = l.args ++ params_and_bit l.span (drop l.index l.params) (drop l.index l.spans) ≡ params_and_bit l.span l.params l.spans

abbrev pub decreases-params : goal.decreases-params
decreases-params l = length l.params - l.index
