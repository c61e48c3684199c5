use Rattle.std.proofs.Common.{ap, ◌∙◌}
use Rattle.std.specs.Option.{option_map}
use Rattle.chan_syntax.specs.Reading.{proto_of}
use Rattle.protocols.proofs.Forming.{found_named}
use Rattle.protocols.proofs.paths.proto_named.Goals as goal

pub returns-clause-read : goal.returns-clause-read
returns-clause-read c = ap (option_map proto_of) c.first_named.ensures ∙ found_named c.args.protos.now c.args.name.now
