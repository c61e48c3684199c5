use Rattle.std.proofs.Common.{◌∙◌, arith}
use Rattle.narrow_terms.proofs.Rows.{at_most, below, equal}
use Rattle.narrow_terms.proofs.narrowness.are_rows_narrow.Goals as goal

pub returns-in-AtMost : goal.returns-in-AtMost
returns-in-AtMost c = c.is_row_narrow.ensures ∙ at_most c.args.limit.now c.in-AtMost.is

pub returns-in-Less : goal.returns-in-Less
returns-in-Less c = c.is_strict_row_narrow.ensures ∙ below c.args.limit.now c.in-Less.is

pub returns-then-is_row_narrow : goal.returns-then-is_row_narrow
returns-then-is_row_narrow c = let whole = equal c.args.limit.now c.in-Same.is in grind (arith, whole)

pub returns-else-is_row_narrow : goal.returns-else-is_row_narrow
returns-else-is_row_narrow c = let whole = equal c.args.limit.now c.in-Same.is in grind (arith, whole)
