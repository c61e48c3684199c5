use Rattle.std.proofs.Common.{sym, ap, ◌∙◌}
use Rattle.std.proofs.lemmas.Result.{IfOk-weaker}
use Rattle.core_language.specs.Values.{Pair, Arm}
use Rattle.core_language.specs.Computing.{machine, and_then, shallow, supplied}
use Rattle.chan_syntax.specs.declared.operands.Supply.{Supply}
use Rattle.chan_syntax.specs.Reading.{supply_of}
use Rattle.machine_values.specs.Reading.{env_of}
use Rattle.machine_values.specs.Troubles.{made_of}
use Rattle.chan_syntax.proofs.Rows.{supply_pair, supply_arm}
use Rattle.machine_values.proofs.supplying.+make.Goals as goal

pub returns-in_ok-second-in-Pair-clause-value : goal.returns-in_ok-second-in-Pair-clause-value
returns-in_ok-second-in-Pair-clause-value t c =
    let env = env_of c.args.binds.now in
    let first = c.in_ok-first-in-Pair.ensures.value ∙ ap (λ (s : Supply). supplied machine env (supply_of s)) c.get.ensures in
    let second = c.in_ok-second-in-Pair.ensures.value ∙ ap (λ (s : Supply). supplied machine env (supply_of s)) c.get-in-Pair.ensures in
    IfOk-weaker c.make_pair.result _ _ (λ made is.
    is ∙ ap (λ m. and_then m (λ a. and_then (made_of c.in_ok-second-in-Pair.second) (λ b. shallow (Pair a b)))) first
    ∙ ap (λ u. and_then (supplied machine env (supply_of c.in-Pair.first)) (λ a. and_then u (λ b. shallow (Pair a b)))) second
    ∙ ap (supplied machine env) (sym (ap supply_of c.in-Pair.is ∙ supply_pair _ _))) c.make_pair.ensures.value

pub returns-in_ok-value-in-Arm-clause-value : goal.returns-in_ok-value-in-Arm-clause-value
returns-in_ok-value-in-Arm-clause-value t c =
    let env = env_of c.args.binds.now in
    let one = c.in_ok-value-in-Arm.ensures.value ∙ ap (λ (s : Supply). supplied machine env (supply_of s)) c.get-in-Arm.ensures in
    IfOk-weaker c.make_arm.result _ _ (λ made is.
    is ∙ ap (λ m. and_then m (λ a. shallow (Arm c.in-Arm.number a))) one ∙ ap (supplied machine env) (sym (ap supply_of c.in-Arm.is ∙ supply_arm _ _))) c.make_arm.ensures.value
