use Rattle.std.proofs.Common.{◌≡◌, Some, None, rules, refl, sym, ap, ◌∙◌}
use Rattle.machine_tasks.specs.Kinds.{kind_as, kind_of}
use Rattle.machine_tasks.specs.Reading.{act_in}
use Rattle.known_loads.specs.Following.{print_in}
use Rattle.known_loads.proofs.Acts.{print_made, print_ready, silent_made}
use Rattle.known_loads.proofs.states.State.try_silent.Goals as goal

pub print-requires-clause-act : goal.print-requires-clause-act
print-requires-clause-act c =
    let program = c.args.program.now in
    let old = c.args.self.now in
    let told : print_in (kind_as c.in_ok-act.act) ≡ Some c.in-Some.number = search rules in
    print_ready program old.task c.try_step.new.self c.in-Some.number c.in_ok-act.ensures.goes (ap print_in (sym c.in_ok-act.ensures.kind) ∙ told)

pub returns-in-Some-clause-ok : goal.returns-in-Some-clause-ok
returns-in-Some-clause-ok c =
    let program = c.args.program.now in
    let old = c.args.self.now in
    let told : print_in (kind_as c.in_ok-act.act) ≡ Some c.in-Some.number = search rules in
    print_made program old _ c.requires.holds refl refl refl c.try_step.new.self c.in-Some.number c.requires.next c.in_ok-act.ensures.goes c.in_ok-act.ensures.ends (ap print_in (sym c.in_ok-act.ensures.kind) ∙ told)
    c.print.ensures.goes c.print.ensures.ends (search rules) (search rules)

pub returns-in-None-clause-ok : goal.returns-in-None-clause-ok
returns-in-None-clause-ok c =
    let program = c.args.program.now in
    let old = c.args.self.now in
    let told : print_in (kind_as c.in_ok-act.act) ≡ None = search rules in
    silent_made program old _ c.requires.holds refl refl refl c.requires.next c.in_ok-act.ensures.goes c.in_ok-act.ensures.ends (ap print_in (sym c.in_ok-act.ensures.kind) ∙ told) refl (search rules)
