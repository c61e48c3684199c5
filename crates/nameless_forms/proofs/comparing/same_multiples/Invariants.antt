use Rattle.std.proofs.Common.{◌≡◌, drop}
use Rattle.std.specs.Cmp.Lexicographic.{pointwise}
use Rattle.outline_language.specs.LinearForms.{same_multiple}
use Rattle.nameless_forms.proofs.comparing.same_multiples.Given as goal

abbrev pub invariant-loop-index : goal.invariant-loop-index
invariant-loop-index l = pointwise same_multiple (drop l.index l.left) (drop l.index l.right) ≡ pointwise same_multiple l.left l.right
