use Rattle.std.proofs.Common.{◌≡◌, drop, map}
use Rattle.std.specs.Cmp.Lexicographic.{pointwise}
use Rattle.outline_language.specs.Nameless.{same_limit}
use Rattle.nameless_forms.specs.Limits.{limit_of}
use Rattle.nameless_shapes.proofs.comparing.same_limits.Given as goal

abbrev pub invariant-loop-index : goal.invariant-loop-index
invariant-loop-index l =
    pointwise same_limit (map limit_of (drop l.index l.left)) (map limit_of (drop l.index l.right)) ≡ pointwise same_limit (map limit_of l.left) (map limit_of l.right)
