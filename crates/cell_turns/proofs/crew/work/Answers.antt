use Rattle.cell_turns.proofs.Telling.{spare_idle}
use Rattle.cell_turns.proofs.crew.work.Goals as goal

pub returns : goal.returns
returns c = spare_idle c.args.cells.now c.loop-i.hand c.loop-i.spare c.loop-i.invariant
