use Rattle.std.proofs.Common.{◌≡◌, ◌++◌, drop}
use Rattle.nameless_shapes.proofs.making.copy_forms.Given as goal

abbrev pub invariant-loop-form : goal.invariant-loop-form
invariant-loop-form l = l.copy ++ drop l.form-index l.forms ≡ l.forms
