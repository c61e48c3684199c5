use Rattle.outline_language.specs.LinearForms.{plus_one}
use Rattle.nameless_forms.specs.Differences.{difference_at}
use Rattle.outline_obligations.proofs.Rows.{formed_narrow}
use Rattle.outline_instances.proofs.limits.oblige_less.Goals as goal

pub oblige_row-requires-clause-row : goal.oblige_row-requires-clause-row
oblige_row-requires-clause-row c = formed_narrow c.variables.result (plus_one (difference_at c.args.forms.now c.args.left.now c.args.right.now)) c.in_ok-row.row c.in_ok-row.ensures.ok c.variables.ensures.few
