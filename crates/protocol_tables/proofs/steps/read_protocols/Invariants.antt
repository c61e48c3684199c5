use Rattle.std.proofs.Common.{◌≡◌, ◌++◌, false, map, drop}
use Rattle.std.specs.List.{list_all}
use Rattle.chan_syntax.specs.Reading.{proto_of}
use Rattle.protocol_tables.specs.Protocols.{protocol_read, protocol_fits}
use Rattle.protocol_tables.specs.Reading.{protocol_of}
use Rattle.protocol_tables.proofs.steps.read_protocols.Given as goal

abbrev pub invariant-loop-proto : goal.invariant-loop-proto
invariant-loop-proto l =
    (map protocol_of l.protocols ++ map protocol_read (map proto_of (drop l.proto-index l.protos)) ≡ map protocol_read (map proto_of l.protos))
    × (list_all protocol_fits (map protocol_read (map proto_of (drop l.proto-index l.protos))) ≡ false → list_all protocol_fits (map protocol_read (map proto_of l.protos)) ≡ false)
