use Rattle.std.proofs.Common.{◌≤◌, length, map}
use Rattle.function_headers.specs.Reading.{header_of}
use Rattle.function_headers.proofs.FirstNamed.{LeadsFrom}
use Rattle.function_headers.proofs.indexes.index_headers.Given as goal

abbrev pub invariant-loop-left : goal.invariant-loop-left
invariant-loop-left l = (l.left ≤ length l.headers) × LeadsFrom (map header_of l.headers) l.left l.index

abbrev pub decreases-loop-left : goal.decreases-loop-left
decreases-loop-left l = l.left
