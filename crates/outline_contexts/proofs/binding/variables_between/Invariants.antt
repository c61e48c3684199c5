use Rattle.std.proofs.Common.{◌≡◌, ◌-◌}
use Rattle.outline_language.specs.Contexts.{variables_from}
use Rattle.outline_contexts.proofs.binding.variables_between.Given as goal

abbrev pub invariant-loop-place : goal.invariant-loop-place
invariant-loop-place l = l.forms ≡ variables_from l.first (l.place - l.first)
