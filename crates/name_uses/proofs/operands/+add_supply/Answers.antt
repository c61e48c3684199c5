use Rattle.std.proofs.Common.{◌++◌, sym, ap, ◌∙◌, append_assoc}
use Rattle.std.proofs.lemmas.Result.{on_ok_weaker}
use Rattle.chan_syntax.specs.Reading.{supply_of}
use Rattle.name_uses.specs.Uses.{supply_names}
use Rattle.chan_syntax.proofs.Rows.{supply_pair, supply_arm}
use Rattle.name_uses.proofs.operands.+add_supply.Goals as goal

pub returns-in_ok-add_supply-in-Pair : goal.returns-in_ok-add_supply-in-Pair
returns-in_ok-add_supply-in-Pair t c =
    let names = c.args.names.now.items in
    let second = supply_names (supply_of c.get-in-Pair.result.now) in
    on_ok_weaker c.add_supply-in-Pair.result
    (λ e. e ∙ ap (λ ns. ns ++ second) c.in_ok-add_supply-in-Pair.ensures ∙ append_assoc names (supply_names (supply_of c.get.result.now)) second
    ∙ ap (λ s. names ++ (supply_names (supply_of s) ++ second)) c.get.ensures
    ∙ ap (λ s. names ++ (supply_names (supply_of c.in-Pair.first) ++ supply_names (supply_of s))) c.get-in-Pair.ensures
    ∙ ap (λ s. names ++ supply_names s) (sym (ap supply_of c.in-Pair.is ∙ supply_pair _ _)))
    c.add_supply-in-Pair.ensures

pub returns-in-Arm : goal.returns-in-Arm
returns-in-Arm t c =
    on_ok_weaker c.add_supply-in-Arm.result
    (λ e. e ∙ ap (λ s. c.args.names.now.items ++ supply_names (supply_of s)) c.get-in-Arm.ensures
    ∙ ap (λ s. c.args.names.now.items ++ supply_names s) (sym (ap supply_of c.in-Arm.is ∙ supply_arm _ _)))
    c.add_supply-in-Arm.ensures
