use Rattle.outline_obligations.proofs.Rows.{formed_narrow}
use Rattle.outline_contexts.proofs.trail.Context.assume.Goals as goal

pub assume_row-requires : goal.assume_row-requires
assume_row-requires c = formed_narrow c.variables.result c.args.sum.now c.in_ok-row.row c.in_ok-row.ensures.ok c.variables.ensures.few
