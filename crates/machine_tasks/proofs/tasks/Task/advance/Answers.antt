use Rattle.std.proofs.Common.{◌≡◌, ℤ, refl, sym, ap, subst, ◌∙◌}
use Rattle.core_language.specs.Configurations.{Place}
use Rattle.core_language.specs.Acts as act
use Rattle.machine_tasks.specs.declared.acts.Act.{Act}
use Rattle.machine_tasks.specs.declared.acts.Act.TheVariants as variant
use Rattle.machine_tasks.specs.Kinds.{Print, kind_as, kind_of}
use Rattle.machine_tasks.specs.Moving.{IsPrint, IsQuiet, place_after, place_by}
use Rattle.machine_tasks.specs.Reading.{act_in}
use Rattle.machine_tasks.specs.Steps.{place_in}
use Rattle.machine_tasks.proofs.ByKind.{printing}
use Rattle.machine_tasks.proofs.Places.{act_same}
use Rattle.machine_tasks.proofs.tasks.Task.advance.Goals as goal

-- a print that was told wasn't made
print_stays : (a : act.Act) (here : Place) → IsPrint a → place_by a here ≡ here
print_stays (act.Print z place) here p = refl
print_stays (act.Silent place) here p = absurd p
print_stays (act.Fork child parent its) here p = absurd p
print_stays (act.Send channel v place) here p = absurd p
print_stays (act.Recv channel place) here p = absurd p
print_stays act.End here p = absurd p
print_stays act.IsEnded here p = absurd p
print_stays (act.IsHalted why) here p = absurd p
print_stays (act.IsStuck why) here p = absurd p

told_print : (told : Act) (z : ℤ) → kind_as told ≡ Print z → ((y : ℤ) → told ≡ variant.Print y → ⊥) → ⊥
told_print (variant.Print y) z e not = not y refl
told_print variant.Silent z e not = cc
told_print variant.Fork z e not = cc
told_print variant.Send z e not = cc
told_print variant.Recv z e not = cc
told_print variant.End z e not = cc
told_print variant.Ended z e not = cc
told_print (variant.Halts why) z e not = cc
told_print (variant.Stuck why) z e not = cc

-- another quiet act was made
quiet_made : (a : act.Act) (told : Act) (here : Place) → kind_as told ≡ kind_of a → ((y : ℤ) → told ≡ variant.Print y → ⊥) → IsQuiet a → place_by a here ≡ place_after a
quiet_made (act.Silent place) told here e not quiet = refl
quiet_made act.End told here e not quiet = refl
quiet_made (act.Print z place) told here e not quiet = absurd (told_print told z e not)
quiet_made (act.Fork child parent its) told here e not quiet = absurd quiet
quiet_made (act.Send channel v place) told here e not quiet = absurd quiet
quiet_made (act.Recv channel place) told here e not quiet = absurd quiet
quiet_made act.IsEnded told here e not quiet = absurd quiet
quiet_made (act.IsHalted why) told here e not quiet = absurd quiet
quiet_made (act.IsStuck why) told here e not quiet = absurd quiet

pub print-requires-clause-act : goal.print-requires-clause-act
print-requires-clause-act c =
    let program = c.args.program.now in
    let old = c.args.self.now in
    let told = c.in_ok-try_step.ensures in
    let prints = printing (act_in program old) c.in-Print.field-0 (sym told.kind ∙ ap kind_as c.in-Print.is) in
    subst IsPrint (sym (act_same program old c.try_step.new.self told.goes.name_is told.goes.forks_are (told.goes.place_is ∙ print_stays (act_in program old) (place_in program old) prints))) prints

pub returns-in-Print-clause-ok : goal.returns-in-Print-clause-ok
returns-in-Print-clause-ok c =
    let program = c.args.program.now in
    let old = c.args.self.now in
    let told = c.in_ok-try_step.ensures in
    let prints = printing (act_in program old) c.in-Print.field-0 (sym told.kind ∙ ap kind_as c.in-Print.is) in
    let same = act_same program old c.try_step.new.self told.goes.name_is told.goes.forks_are (told.goes.place_is ∙ print_stays (act_in program old) (place_in program old) prints) in
    let goes = c.print.ensures.goes in
    record {
      name_is = goes.name_is ∙ told.goes.name_is;
      forks_are = goes.forks_are ∙ told.goes.forks_are;
      place_is = goes.place_is ∙ ap place_after same;
      fits = goes.fits;
    }

pub returns-in-Print-clause-ends : goal.returns-in-Print-clause-ends
returns-in-Print-clause-ends c = λ test passes. c.print.ensures.ends test (c.in_ok-try_step.ensures.ends test passes)

pub returns-in_default : goal.returns-in_default
returns-in_default c =
    let program = c.args.program.now in
    let old = c.args.self.now in
    let told = c.in_ok-try_step.ensures in
    let goes = told.goes in
    record {
      ok = record {
        name_is = goes.name_is;
        forks_are = goes.forks_are;
        place_is = goes.place_is ∙ quiet_made (act_in program old) c.in_ok-try_step.field-0 (place_in program old) told.kind c.in_default.not-Print c.requires.act;
        fits = goes.fits;
      };
      ends = told.ends;
      err = tt;
    }
