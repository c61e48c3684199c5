use Rattle.std.proofs.Common.{◌≤◌, length, map}
use Rattle.protocol_tables.specs.Reading.{protocol_of}
use Rattle.protocol_tables.proofs.FirstNamed.{LeadsFrom}
use Rattle.protocol_tables.proofs.indexes.index_protocols.Given as goal

abbrev pub invariant-loop-left : goal.invariant-loop-left
invariant-loop-left l = (l.left ≤ length l.protocols) × LeadsFrom (map protocol_of l.protocols) l.left l.index

abbrev pub decreases-loop-left : goal.decreases-loop-left
decreases-loop-left l = l.left
