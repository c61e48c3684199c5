use Rattle.outline_language.specs.LinearForms.{minus, plus_one}
use Rattle.outline_obligations.proofs.Rows.{formed_narrow}
use Rattle.outline_obligations.proofs.forms.oblige_less.Goals as goal

pub show_row-requires-clause-row : goal.show_row-requires-clause-row
show_row-requires-clause-row c =
    formed_narrow c.args.variables (plus_one (minus c.args.left.now c.args.right.now)) c.in_ok-row.row c.in_ok-row.ensures.ok c.requires.variables
