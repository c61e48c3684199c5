use Rattle.std.proofs.Common.{rules, refl}
use Rattle.machine_tasks.proofs.Places.{written, goes_to, fits_at}
use Rattle.machine_tasks.proofs.Ends.{passes_written}
use Rattle.machine_tasks.proofs.tasks.Task.go_on.Goals as goal

pub returns-in-Some-clause-goes : goal.returns-in-Some-clause-goes
returns-in-Some-clause-goes c =
    let frames = c.args.self.now.frames in
    let w = written frames.items _ c.in-Some.frame.now c.settle.new.frame (search rules) (search rules) (search rules) in
    record {
      name_is = refl;
      forks_are = refl;
      place_is = goes_to c.args.program.now.nodes frames.items _ c.in-Some.frame.now c.settle.new.frame c.args.node w c.settle.ensures.node c.settle.ensures.binds;
      fits = fits_at c.args.program.now.nodes frames.items _ c.in-Some.frame.now c.settle.new.frame c.args.node w c.settle.ensures.node c.requires.node c.requires.fits;
    }

pub returns-in-Some-clause-ends : goal.returns-in-Some-clause-ends
returns-in-Some-clause-ends c = λ test.
    let frames = c.args.self.now.frames in
    passes_written test frames.items _ c.in-Some.frame.now c.settle.new.frame
    (written frames.items _ c.in-Some.frame.now c.settle.new.frame (search rules) (search rules) (search rules)) (c.settle.ensures.ends test)
