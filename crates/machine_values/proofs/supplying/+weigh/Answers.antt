use Rattle.std.proofs.Common.{ℕ, max, sym, ap, ◌∙◌}
use Rattle.core_language.specs.Computing.{machine, Computed, Done, and_then, supplied}
use Rattle.chan_syntax.specs.declared.operands.Supply.{Supply}
use Rattle.chan_syntax.specs.Reading.{supply_of}
use Rattle.machine_values.specs.Reading.{env_of}
use Rattle.machine_values.specs.Troubles.{computed_of, depth_of, nested_of}
use Rattle.chan_syntax.proofs.Rows.{supply_pair, supply_arm}
use Rattle.machine_values.proofs.Weighing.{weighs_pair, weighs_arm}
use Rattle.machine_values.proofs.supplying.+weigh.Goals as goal

pub returns-in-Pair : goal.returns-in-Pair
returns-in-Pair t c =
    let env = env_of c.args.binds.now in
    let weighed : Supply → Computed ℕ = λ s. depth_of (supplied machine env (supply_of s)) in
    c.nested_in.ensures ∙ ap (λ m. and_then m nested_of)
    (c.deepest_of.ensures
    ∙ ap (λ m. and_then m (λ x. and_then (computed_of c.weigh-second.result) (λ y. Done (max x y)))) (c.weigh-first.ensures ∙ ap weighed c.get.ensures)
    ∙ ap (λ u. and_then (weighed c.in-Pair.first) (λ x. and_then u (λ y. Done (max x y)))) (c.weigh-second.ensures ∙ ap weighed c.get-in-Pair.ensures))
    ∙ weighs_pair (supplied machine env (supply_of c.in-Pair.first)) (supplied machine env (supply_of c.in-Pair.second))
    ∙ ap (λ s. depth_of (supplied machine env s)) (sym (ap supply_of c.in-Pair.is ∙ supply_pair _ _))

pub returns-in-Arm : goal.returns-in-Arm
returns-in-Arm t c =
    let env = env_of c.args.binds.now in
    let weighed : Supply → Computed ℕ = λ s. depth_of (supplied machine env (supply_of s)) in
    c.nested_in-in-Arm.ensures ∙ ap (λ m. and_then m nested_of) (c.weigh.ensures ∙ ap weighed c.get-in-Arm.ensures)
    ∙ weighs_arm c.in-Arm.field-0 (supplied machine env (supply_of c.in-Arm.value)) ∙ ap (λ s. depth_of (supplied machine env s)) (sym (ap supply_of c.in-Arm.is ∙ supply_arm _ _))
