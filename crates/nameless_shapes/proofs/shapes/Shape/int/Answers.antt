use Rattle.nameless_shapes.proofs.Closing.{int_kept}
use Rattle.nameless_shapes.proofs.shapes.Shape.int.Goals as goal

pub keep-requires : goal.keep-requires
keep-requires c = int_kept c.reach-reach.result c.args.form c.reach-reach.ensures.closed c.reach-reach.ensures.fits
