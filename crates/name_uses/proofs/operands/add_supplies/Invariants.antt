use Rattle.std.proofs.Common.{◌≡◌, ◌++◌, drop, map}
use Rattle.chan_syntax.specs.Reading.{supply_of}
use Rattle.name_uses.specs.Uses.{supplies_names}
use Rattle.name_uses.proofs.operands.add_supplies.Given as goal

abbrev pub invariant-supplies : goal.invariant-supplies
invariant-supplies l = l.names.items ++ supplies_names (map supply_of (drop l.supply-index l.fn.supplies)) ≡ l.initial.names.items ++ supplies_names (map supply_of l.fn.supplies)
