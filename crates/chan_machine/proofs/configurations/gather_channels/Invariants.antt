use Rattle.std.proofs.Common.{◌≡◌, ◌++◌, List, length}
use Rattle.std.specs.Option.{option_map}
use Rattle.machine_values.specs.Reading.{value_as}
use Rattle.chan_machine.specs.declared.configurations.Store.{Store}
use Rattle.chan_machine.specs.Reading.{channels_named, map_of}
use Rattle.chan_machine.proofs.configurations.gather_channels.Given as goal

abbrev pub invariant-stores : goal.invariant-stores
invariant-stores l = (done : List Store) × (l.fn.stores ≡ l.left ++ done) × (map_of (option_map value_as) l.gathered ≡ channels_named done)

abbrev pub decreases-stores : goal.decreases-stores
decreases-stores l = length l.left
