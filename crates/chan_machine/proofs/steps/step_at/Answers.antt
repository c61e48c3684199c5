use Rattle.std.proofs.lemmas.Result.{on_ok_weaker}
use Rattle.chan_machine.proofs.steps.step_at.Goals as goal

pub returns-in_err-make_room-clause-fits : goal.returns-in_err-make_room-clause-fits
returns-in_err-make_room-clause-fits c = c.make_room.ensures.fits c.args.program.now c.requires.fits

pub make_step-requires-clause-fits : goal.make_step-requires-clause-fits
make_step-requires-clause-fits c = c.make_room.ensures.fits c.args.program.now c.requires.fits

pub returns-clause-ends : goal.returns-clause-ends
returns-clause-ends c = on_ok_weaker c.make_step.result (λ keeps test zero passes. keeps test zero (c.make_room.ensures.ends test passes.0, passes.1)) c.make_step.ensures.ends
