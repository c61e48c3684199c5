use Rattle.std.proofs.Common.{◌≡◌, ◌++◌, map, drop}
use Rattle.protocol_guard.specs.Guards.{turns_of}
use Rattle.protocol_guard.specs.Places.{placed}
use Rattle.protocol_guard.proofs.graphs.all_turns.Given as goal

abbrev pub invariant-loop-proto : goal.invariant-loop-proto
invariant-loop-proto l = l.graph.items ++ map (turns_of (placed l.places)) (drop l.proto-index l.protos) ≡ map (turns_of (placed l.places)) l.protos
