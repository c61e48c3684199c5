use Rattle.std.proofs.Common.{◌≡◌, ◌+◌, ◌*◌, ◌++◌, map, drop}
use Rattle.std.specs.List.{list_all}
use Rattle.outline_language.specs.Nameless.{res_with, res_fits}
use Rattle.nameless_shapes.specs.Reading.{resources_from}
use Rattle.nameless_shapes.specs.Sizes.{shape_size, res_size, resources_size}
use Rattle.shape_instances.proofs.putting.+putting.Given as goal

abbrev pub decreases-put_node : goal.decreases-put_node
decreases-put_node l = 3 * shape_size l.shape.now

abbrev pub decreases-put_shape : goal.decreases-put_shape
decreases-put_shape l = 3 * shape_size l.shape.now + 1

abbrev pub decreases-put_resources : goal.decreases-put_resources
decreases-put_resources l = 3 * resources_size (resources_from l.resources.now) + 1

abbrev pub decreases-put_res : goal.decreases-put_res
decreases-put_res l = 3 * res_size l.res.now

abbrev pub invariant-put_resources-loop-resource : goal.invariant-put_resources-loop-resource
invariant-put_resources-loop-resource l =
    (l.put ++ map (res_with l.instances l.depth) (drop l.resource-index l.resources) ≡ map (res_with l.instances l.depth) l.resources)
    × (list_all res_fits (map (res_with l.instances l.depth) (drop l.resource-index l.resources)) ≡ list_all res_fits (map (res_with l.instances l.depth) l.resources))
