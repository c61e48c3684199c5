-- Shapes and resources as the definitions have them.
use Rattle.std.specs.Prelude.{List, [], ◌∷◌, map}
use Rattle.outline_language.specs.Nameless as nameless
use Rattle.outline_language.specs.Nameless.{Shape, Res, Resources}
use Rattle.nameless_forms.specs.Limits.{limit_of}
use Rattle.nameless_shapes.specs.declared.shapes.Bound.{Bound}
use Rattle.nameless_shapes.specs.declared.shapes.Node.{Node}
use Rattle.nameless_shapes.specs.declared.shapes.Node.TheVariants as node
use Rattle.nameless_shapes.specs.Parts.{ref_of}

-- the resources of a sum
abbrev pub resources_from : List Res → Resources
resources_from [] = nameless.NoMore
resources_from (r ∷ rs) = nameless.More r (resources_from rs)

-- the shape whose outermost part this is
abbrev pub shape_at : Node → Shape
shape_at node.Unit = nameless.Unit
shape_at (node.Int form) = nameless.Int form
shape_at (node.End ref) = nameless.End (ref_of ref)
shape_at (node.Pair first second) = nameless.Pair first second
shape_at (node.Sum arms) = nameless.Sum (resources_from arms)

-- the shape under these binders and limits
abbrev pub res_at : Bound → Shape → Res
res_at bound shape = nameless.Binds bound.binders (map limit_of bound.limits) shape
