use Rattle.std.proofs.Common.{ap, ◌∙◌}
use Rattle.core_language.specs.Names.{Ident}
use Rattle.machine_values.specs.Reading.{value_as}
use Rattle.machine_tasks.specs.Moving.{at_node, bound_in}
use Rattle.machine_tasks.specs.Steps.{place_in}
use Rattle.machine_tasks.proofs.Places.{less_room}
use Rattle.machine_tasks.proofs.Unmoved.{unmoved_fits, unmoved_passes, unmoved_place}
use Rattle.machine_tasks.proofs.attempts.split.Goals as goal

pub bind-requires : goal.bind-requires
bind-requires c = less_room c.make_room.new.self.frames.items 1 c.in_ok-make_room.ensures.room

pub bind-requires-2 : goal.bind-requires-2
bind-requires-2 c = c.bind.ensures.room 1 c.in_ok-make_room.ensures.room

pub go_on-requires-clause-fits : goal.go_on-requires-clause-fits
go_on-requires-clause-fits c =
    c.bind-2.ensures.fits _ (c.bind.ensures.fits _ (unmoved_fits c.args.program.now c.args.task.now c.make_room.new.self c.make_room.ensures.same c.requires.fits))

pub returns-clause-ok : goal.returns-clause-ok
returns-clause-ok c =
    let program = c.args.program.now in
    let nodes = program.nodes in
    let old = c.args.task.now in
    let same = c.make_room.ensures.same in
    let goes = c.go_on.ensures.goes in
    let a = value_as c.args.parts.0 in
    let b = value_as c.args.parts.1 in
    record {
      name_is = goes.name_is ∙ c.bind-2.ensures.name ∙ c.bind.ensures.name ∙ same.name_is;
      forks_are = goes.forks_are ∙ c.bind-2.ensures.forks ∙ c.bind.ensures.forks ∙ same.forks_are;
      place_is = goes.place_is
          ∙ ap (at_node nodes c.args.next)
          (c.bind-2.ensures.place nodes ∙ ap (bound_in c.in_ok-second.second b) (c.bind.ensures.place nodes ∙ ap (bound_in c.in_ok-first.first a) (unmoved_place program old c.make_room.new.self same))
          ∙ ap (λ (x : Ident). bound_in x b (bound_in c.in_ok-first.first a (place_in program old))) c.in_ok-second.ensures
          ∙ ap (λ (x : Ident). bound_in c.args.second.now b (bound_in x a (place_in program old))) c.in_ok-first.ensures);
      fits = goes.fits;
    }

pub returns-clause-ends : goal.returns-clause-ends
returns-clause-ends c = λ test first second passes.
    c.go_on.ensures.ends test (c.bind-2.ensures.ends test second (c.bind.ensures.ends test first (unmoved_passes test c.args.task.now c.make_room.new.self c.make_room.ensures.same passes)))
