use Rattle.std.proofs.Common.{ap, ◌∙◌}
use Rattle.machine_tasks.specs.Moving.{at_node}
use Rattle.machine_tasks.proofs.tasks.Task.accept.Goals as goal

pub go_on-requires-clause-fits : goal.go_on-requires-clause-fits
go_on-requires-clause-fits c = c.bind.ensures.fits _ c.requires.fits

pub returns-clause-goes : goal.returns-clause-goes
returns-clause-goes c =
    let goes = c.go_on.ensures.goes in
    record {
      name_is = goes.name_is ∙ c.bind.ensures.name;
      forks_are = goes.forks_are ∙ c.bind.ensures.forks;
      place_is = goes.place_is ∙ ap (at_node c.args.program.now.nodes c.args.next) (c.bind.ensures.place c.args.program.now.nodes);
      fits = goes.fits;
    }

pub returns-clause-ends : goal.returns-clause-ends
returns-clause-ends c = λ test value passes. c.go_on.ensures.ends test (c.bind.ensures.ends test value passes)
