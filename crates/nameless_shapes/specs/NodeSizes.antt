-- A node is larger than each resource in it.
use Rattle.std.specs.Prelude.{◌+◌, ◌≤◌, max, List, [], ◌∷◌}
use Rattle.std.proofs.Common.{arith}
use denote.Param.Weighed.{most}
use Rattle.outline_language.specs.Nameless.{Res}
use Rattle.nameless_shapes.specs.declared.shapes.Node.{Node}
use Rattle.nameless_shapes.specs.declared.shapes.Node.TheVariants as node
use Rattle.nameless_shapes.specs.declared.shapes.Resource.TheDeep.{deep-Node}
use Rattle.nameless_shapes.specs.Reading.{resources_from, shape_at}
use Rattle.nameless_shapes.specs.Sizes.{shape_size, res_size, resources_size}

-- no resource of a list is as large as all of them together, and one more
pub most_le-resources : (rs : List Res) → most (λ r. res_size r + 1) rs ≤ resources_size (resources_from rs) + 1
most_le-resources [] = omega arith
most_le-resources (r ∷ rs) = omega (arith, most_le-resources rs)

-- no resource of a node is as large as its shape
pub node_is_larger : (n : Node) → max (deep-Node n) 0 ≤ shape_size (shape_at n)
node_is_larger node.Unit = omega arith
node_is_larger (node.Int form) = omega arith
node_is_larger (node.End ref) = omega arith
node_is_larger (node.Pair first second) = omega arith
node_is_larger (node.Sum arms) = omega (arith, most_le-resources arms)
