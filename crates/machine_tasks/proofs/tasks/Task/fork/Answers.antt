use Rattle.std.proofs.Common.{◌≡◌, suc, true, refl, sym, ap, subst, ◌∙◌}
use Rattle.core_language.specs.Names.{Name, child}
use Rattle.core_language.specs.Acts as act
use Rattle.machine_values.specs.Cells.{EndTest, Passes}
use Rattle.machine_tasks.specs.Sharing.{IsFork}
use Rattle.machine_tasks.specs.Steps.{place_in}
use Rattle.machine_tasks.proofs.Places.{act_same}
use Rattle.machine_tasks.proofs.Unmoved.{unmoved_fits, unmoved_passes, unmoved_place}
use Rattle.machine_tasks.proofs.tasks.Task.fork.Goals as goal

pub offspring-requires : goal.offspring-requires
offspring-requires c =
    let program = c.args.program.now in
    let same = c.make_room.ensures.same in
    record {
      fits = unmoved_fits program c.args.self c.make_room.new.self same c.requires.fits;
      act = subst IsFork (sym (act_same program c.args.self c.make_room.new.self same.name_is same.forks_are (unmoved_place program c.args.self c.make_room.new.self same))) c.requires.act;
    }

pub returns-in-Ok-clause-ok : goal.returns-in-Ok-clause-ok
returns-in-Ok-clause-ok c =
    let program = c.args.program.now in
    let old = c.args.self in
    let room = c.make_room.new.self in
    let same = c.make_room.ensures.same in
    let made = c.in-Ok.made in
    let got = c.in-Ok.ensures in
    let goes = c.branch-self.ensures.goes in
    let named : child room.name room.forks ≡ child old.name old.forks = ap (λ p. child p room.forks) same.name_is ∙ ap (child old.name) same.forks_are in
    let its = place_in program made.child in
    record {
      act_is = sym (act_same program old room same.name_is same.forks_are (unmoved_place program old room same)) ∙ got.act_is
          ∙ ap (λ place. act.Fork (child room.name room.forks) place its) (sym goes.place_is) ∙ ap (λ n. act.Fork n (place_in program c.branch-self.new.self) its) named;
      parent_is = record { name_is = goes.name_is ∙ same.name_is; forks_are = goes.forks_are ∙ ap suc same.forks_are; place_is = refl; fits = goes.fits };
      child_is = record { name_is = got.child_is.name_is ∙ named; forks_are = got.child_is.forks_are; place_is = refl; fits = got.child_is.fits };
      ends = λ test new passes.
          let there = unmoved_passes test old room same passes in
          let its : test (child room.name room.forks) c.args.cell.0 ≡ true = ap (λ (n : Name). test n c.args.cell.0) named ∙ new in
          (c.branch-self.ensures.ends test (subst (Passes test) (sym got.end_is) its) there, got.child_ends test its there);
    }

pub branch-self-requires-clause-fits : goal.branch-self-requires-clause-fits
branch-self-requires-clause-fits c = unmoved_fits c.args.program.now c.args.self c.make_room.new.self c.make_room.ensures.same c.requires.fits
