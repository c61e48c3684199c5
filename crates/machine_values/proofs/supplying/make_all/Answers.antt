use Rattle.std.proofs.Common.{◌+◌, List, drop, map, [], ◌∷◌, ◌++◌, sym, ap, subst, ◌∙◌}
use Rattle.std.specs.List.{All}
use Rattle.std.proofs.lemmas.List.{map-append}
use Rattle.std.proofs.lemmas.List.Elements.{All-push}
use Rattle.core_language.specs.Values as core
use Rattle.core_language.specs.Computing.{machine, Done, and_then, supplied, all_supplied}
use Rattle.chan_syntax.specs.declared.operands.Supply.{Supply}
use Rattle.chan_syntax.specs.Reading.{supply_of}
use Rattle.machine_values.specs.declared.values.Value.{Value}
use Rattle.machine_values.specs.Ends.{MadePasses, ValuePasses}
use Rattle.machine_values.specs.Reading.{env_of, value_as}
use Rattle.machine_values.specs.Troubles.{made_of}
use Rattle.machine_values.proofs.Weighing.{makes_more, next_is}
use Rattle.machine_values.proofs.supplying.make_all.Goals as goal

pub supplies-preserved : goal.supplies-preserved
supplies-preserved c =
    let env = env_of c.args.binds.now in
    let items = c.in_ok-push-in-Ok.ensures.items in
    let after = map supply_of (drop (c.supplies.supply-index + 1) c.args.supplies.now) in
    let rest = next_is c.args.supplies.now c.supplies.supply-index c.supply-item.result c.supplies-test.true c.supply-item.is in
    let made = sym c.in_ok-value.ensures.value ∙ ap made_of c.in-Ok.is in
    let vs = map value_as c.supplies.values.items in (
      ap (λ (ws : List Value). and_then (all_supplied machine env after) (λ us. Done (map value_as ws ++ us))) items
          ∙ ap (λ ws. and_then (all_supplied machine env after) (λ us. Done (ws ++ us))) (map-append value_as c.supplies.values.items (c.in-Ok.value ∷ []))
          ∙ sym (makes_more (supplied machine env (supply_of c.supply-item.result)) (all_supplied machine env after) (value_as c.in-Ok.value) vs made)
          ∙ ap (λ (ss : List Supply). and_then (all_supplied machine env (map supply_of ss)) (λ us. Done (vs ++ us))) (sym rest) ∙ c.supplies.invariant.0,
      λ test passes. subst (All (ValuePasses test)) (sym items)
          (All-push (ValuePasses test) _ _ (c.supplies.invariant.1 test passes) (subst (MadePasses test) c.in-Ok.is (c.in_ok-value.ensures.ends test passes))),
    )
