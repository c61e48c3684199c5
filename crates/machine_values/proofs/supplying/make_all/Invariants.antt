use Rattle.std.proofs.Common.{◌≡◌, ◌++◌, drop, map}
use Rattle.core_language.specs.Computing.{machine, Done, and_then, all_supplied}
use Rattle.chan_syntax.specs.Reading.{supply_of}
use Rattle.machine_values.specs.Cells.{EndTest}
use Rattle.machine_values.specs.Ends.{BindsPass, ValuesPass}
use Rattle.machine_values.specs.Reading.{env_of, value_as}
use Rattle.machine_values.proofs.supplying.make_all.Given as goal

abbrev pub invariant-supplies : goal.invariant-supplies
invariant-supplies l =
    (and_then (all_supplied machine (env_of l.binds) (map supply_of (drop l.supply-index l.fn.supplies))) (λ vs. Done (map value_as l.values.items ++ vs))
    ≡ all_supplied machine (env_of l.binds) (map supply_of l.fn.supplies))
    × ((test : EndTest) → BindsPass test l.binds → ValuesPass test l.values.items)
