use Rattle.std.proofs.Common.{◌+◌, List, drop, map, sym, ap, ◌∙◌}
use Rattle.core_language.specs.Computing.{machine, supplied, all_supplied}
use Rattle.chan_syntax.specs.declared.operands.Supply.{Supply}
use Rattle.chan_syntax.specs.Reading.{supply_of}
use Rattle.machine_values.specs.Reading.{env_of}
use Rattle.machine_values.specs.Troubles.{computed_of, done_of}
use Rattle.machine_values.proofs.Weighing.{next_is, stops, passes}
use Rattle.machine_values.proofs.supplying.weigh_all.Goals as goal

pub returns-in-Err : goal.returns-in-Err
returns-in-Err c =
    let env = env_of c.args.binds.now in
    let rest = next_is c.args.supplies.now c.supplies.supply-index c.supply-item.result c.supplies-test.true c.supply-item.is in
    stops c.in-Err.trouble (supplied machine env (supply_of c.supply-item.result)) (all_supplied machine env (map supply_of (drop (c.supplies.supply-index + 1) c.args.supplies.now)))
    (ap computed_of (sym c.in-Err.is) ∙ c.weighed.ensures)
    ∙ ap (λ (ss : List Supply). done_of (all_supplied machine env (map supply_of ss))) (sym rest) ∙ c.supplies.invariant

pub supplies-preserved : goal.supplies-preserved
supplies-preserved c =
    let env = env_of c.args.binds.now in
    let rest = next_is c.args.supplies.now c.supplies.supply-index c.supply-item.result c.supplies-test.true c.supply-item.is in
    sym (passes (supplied machine env (supply_of c.supply-item.result)) (all_supplied machine env (map supply_of (drop (c.supplies.supply-index + 1) c.args.supplies.now)))
    (ap computed_of (sym c.in_default.is) ∙ c.weighed.ensures))
    ∙ ap (λ (ss : List Supply). done_of (all_supplied machine env (map supply_of ss))) (sym rest) ∙ c.supplies.invariant
