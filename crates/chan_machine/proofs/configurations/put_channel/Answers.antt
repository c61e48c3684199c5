use Rattle.std.specs.Option.{option_map}
use Rattle.machine_values.specs.Reading.{value_as}
use Rattle.chan_machine.proofs.Maps.{put-map_of}
use Rattle.chan_machine.proofs.configurations.put_channel.Goals as goal

pub returns : goal.returns
returns c = put-map_of (option_map value_as) c.args.channels.now c.insert.new.self c.args.store.name c.args.store.value c.in_ok-insert.ensures.updates
