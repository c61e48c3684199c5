use Rattle.std.proofs.Common.{◌-◌}
use Rattle.operand_parser.proofs.NamePairs.{Found}
use Rattle.operand_parser.proofs.name_lists.names.Given as goal

abbrev pub invariant-loop-turn : goal.invariant-loop-turn
invariant-loop-turn l = Found l.depth l.fn.cursor (l._turn-end - l._turn) l.found.names l.found.spans l.cursor
