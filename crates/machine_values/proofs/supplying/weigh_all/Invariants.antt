use Rattle.std.proofs.Common.{◌≡◌, drop, map}
use Rattle.core_language.specs.Computing.{machine, all_supplied}
use Rattle.chan_syntax.specs.Reading.{supply_of}
use Rattle.machine_values.specs.Reading.{env_of}
use Rattle.machine_values.specs.Troubles.{done_of}
use Rattle.machine_values.proofs.supplying.weigh_all.Given as goal

abbrev pub invariant-supplies : goal.invariant-supplies
invariant-supplies l =
    done_of (all_supplied machine (env_of l.binds) (map supply_of (drop l.supply-index l.fn.supplies)))
    ≡ done_of (all_supplied machine (env_of l.binds) (map supply_of l.fn.supplies))
