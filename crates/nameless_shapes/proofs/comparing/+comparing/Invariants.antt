use Rattle.std.proofs.Common.{◌≡◌, ◌+◌, ◌*◌, drop}
use Rattle.std.specs.Cmp.Lexicographic.{pointwise}
use Rattle.outline_language.specs.Nameless as nameless
use Rattle.nameless_shapes.specs.Reading.{resources_from}
use Rattle.nameless_shapes.specs.Sizes.{shape_size, res_size, resources_size}
use Rattle.nameless_shapes.proofs.comparing.+comparing.Given as goal

abbrev pub decreases-same_shape : goal.decreases-same_shape
decreases-same_shape l = 2 * shape_size l.left.now

abbrev pub decreases-same_resources : goal.decreases-same_resources
decreases-same_resources l = 2 * resources_size (resources_from l.left.now) + 1

abbrev pub decreases-same_res : goal.decreases-same_res
decreases-same_res l = 2 * res_size l.left.now

abbrev pub invariant-same_resources-loop-index : goal.invariant-same_resources-loop-index
invariant-same_resources-loop-index l = pointwise nameless.same_res (drop l.index l.left) (drop l.index l.right) ≡ pointwise nameless.same_res l.left l.right
