use Rattle.std.proofs.Common.{◌+◌, ◌*◌}
use Rattle.operand_parser.proofs.values.+value.Given as goal

abbrev pub decreases-value : goal.decreases-value
decreases-value l = 3 * l.depth

abbrev pub decreases-pair : goal.decreases-pair
decreases-pair l = 3 * l.depth + 1

abbrev pub decreases-parenthesized : goal.decreases-parenthesized
decreases-parenthesized l = 3 * l.depth + 2

abbrev pub decreases-numbered_value : goal.decreases-numbered_value
decreases-numbered_value l = 3 * l.depth + 1

abbrev pub decreases-arm : goal.decreases-arm
decreases-arm l = 3 * l.depth + 1
