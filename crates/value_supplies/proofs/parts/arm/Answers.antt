use Rattle.std.proofs.Common.{slice_get, sym, ap, ◌∙◌}
use Rattle.nameless_shapes.specs.Reading.{shape_at}
use Rattle.value_supplies.proofs.OfParts.{got, arm_is}
use Rattle.value_supplies.proofs.parts.arm.Goals as goal

pub returns-in-Sum : goal.returns-in-Sum
returns-in-Sum c =
    let found = c.get-in-Sum.ensures.lookup in
    got c.get-in-Sum.result c.as_slice.result.now c.args.number found.0 found.1
    ∙ ap (λ rs. slice_get rs c.args.number) c.as_slice.ensures
    ∙ arm_is c.args.shape.now c.in-Sum.arms c.args.number (sym c.get.ensures ∙ ap shape_at c.in-Sum.is)
