use Rattle.std.proofs.Common.{◌≡◌, ◌++◌, drop}
use Rattle.core_programs.specs.Passes.{proto_signatures}
use Rattle.core_programs.proofs.tables.proto_table.Given as goal

abbrev pub invariant-loop-proto : goal.invariant-loop-proto
invariant-loop-proto l = l.table ++ proto_signatures (drop l.proto-index l.protos) ≡ proto_signatures l.protos
