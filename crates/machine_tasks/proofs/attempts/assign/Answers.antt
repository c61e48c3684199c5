use Rattle.std.proofs.Common.{ap, ◌∙◌}
use Rattle.core_language.specs.Names.{Ident}
use Rattle.machine_values.specs.Reading.{value_as}
use Rattle.machine_tasks.specs.Moving.{at_node, bound_in}
use Rattle.machine_tasks.specs.Steps.{place_in}
use Rattle.machine_tasks.proofs.Unmoved.{unmoved_fits, unmoved_passes, unmoved_place}
use Rattle.machine_tasks.proofs.attempts.assign.Goals as goal

pub go_on-requires-clause-fits : goal.go_on-requires-clause-fits
go_on-requires-clause-fits c = c.bind.ensures.fits _ (unmoved_fits c.args.program.now c.args.task.now c.make_room.new.self c.make_room.ensures.same c.requires.fits)

pub returns-clause-ok : goal.returns-clause-ok
returns-clause-ok c =
    let program = c.args.program.now in
    let old = c.args.task.now in
    let same = c.make_room.ensures.same in
    let goes = c.go_on.ensures.goes in
    let v = value_as c.args.value in
    record {
      name_is = goes.name_is ∙ c.bind.ensures.name ∙ same.name_is;
      forks_are = goes.forks_are ∙ c.bind.ensures.forks ∙ same.forks_are;
      place_is = goes.place_is
          ∙ ap (at_node program.nodes c.args.next)
          (c.bind.ensures.place program.nodes ∙ ap (bound_in c.in_ok-name.name v) (unmoved_place program old c.make_room.new.self same) ∙ ap (λ (x : Ident). bound_in x v (place_in program old)) c.in_ok-name.ensures);
      fits = goes.fits;
    }

pub returns-clause-ends : goal.returns-clause-ends
returns-clause-ends c = λ test value passes. c.go_on.ensures.ends test (c.bind.ensures.ends test value (unmoved_passes test c.args.task.now c.make_room.new.self c.make_room.ensures.same passes))
