use Rattle.std.proofs.Common.{sym, ◌∙◌}
use Rattle.shape_readings.specs.Names.{names_in}
use Rattle.shape_readings.proofs.Places.{looks_first}
use Rattle.shape_readings.proofs.scope.place_of.Goals as goal

pub loop-index-init : goal.loop-index-init
loop-index-init c = looks_first c.args.names.now c.args.name.now
