use Rattle.std.proofs.Common.{◌≡◌, drop}
use Rattle.std.specs.Cmp.Lexicographic.{pointwise}
use Rattle.outline_language.specs.LinearForms.{same_form}
use Rattle.nameless_shapes.proofs.comparing.same_forms.Given as goal

abbrev pub invariant-loop-index : goal.invariant-loop-index
invariant-loop-index l = pointwise same_form (drop l.index l.left) (drop l.index l.right) ≡ pointwise same_form l.left l.right
