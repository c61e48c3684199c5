use Rattle.outline_language.specs.LinearForms.{minus}
use Rattle.outline_obligations.proofs.Rows.{formed_narrow}
use Rattle.outline_contexts.proofs.trail.Context.assume_at_most.Goals as goal

pub assume_row-requires : goal.assume_row-requires
assume_row-requires c = formed_narrow c.variables.result (minus c.args.left.now c.args.right.now) c.in_ok-row.row c.in_ok-row.ensures.ok c.variables.ensures.few
