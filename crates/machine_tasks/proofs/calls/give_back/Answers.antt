use Rattle.std.proofs.Common.{◌≡◌, List, [], ◌<◌, ◌≤◌, length, map, rules, refl, sym, ap, subst, ◌∙◌}
use Rattle.core_language.specs.Configurations.{Place}
use Rattle.core_language.specs.Acts.{returned}
use Rattle.machine_values.specs.Reading.{value_as}
use Rattle.machine_tasks.specs.declared.tasks.Frame.{Frame}
use Rattle.machine_tasks.specs.Fits.{FramesFit}
use Rattle.machine_tasks.specs.Kinds.{kind_of}
use Rattle.machine_tasks.specs.Moving.{place_by}
use Rattle.machine_tasks.specs.Reading.{caller_of, place_of}
use Rattle.machine_tasks.specs.Steps.{GoesTo, callers_of, place_in}
use Rattle.machine_tasks.proofs.Below.{alone, last_two, reversed_front}
use Rattle.machine_tasks.proofs.Results.{gives_back}
use Rattle.machine_tasks.proofs.calls.give_back.Goals as goal

pub returns-then-len-lt2-clause-kind : goal.returns-then-len-lt2-clause-kind
returns-then-len-lt2-clause-kind c = λ front f is.
    let nodes = c.args.program.now.nodes in
    let short : length c.args.task.now.frames.items < 2 = search rules in
    ap (λ (fs : List Frame). kind_of (returned (callers_of nodes fs) (value_as c.args.value))) (sym (alone c.args.task.now.frames.items front f is short))

pub returns-then-len-lt2-clause-goes : goal.returns-then-len-lt2-clause-goes
returns-then-len-lt2-clause-goes c = λ front f is.
    let nodes = c.args.program.now.nodes in
    let short : length c.args.task.now.frames.items < 2 = search rules in
    let none : c.clear.new.self.items ≡ [] = search rules in
    record {
      name_is = refl;
      forks_are = refl;
      place_is = ap (place_of nodes) none
          ∙ ap (λ (fs : List Frame). place_by (returned (callers_of nodes fs) (value_as c.args.value)) (place_in c.args.program.now c.args.task.now)) (sym (alone c.args.task.now.frames.items front f is short));
      fits = subst (FramesFit nodes) (sym none) tt;
    }

pub returns-in_ok-return_to-clause-kind : goal.returns-in_ok-return_to-clause-kind
returns-in_ok-return_to-clause-kind c = λ front f is.
    let nodes = c.args.program.now.nodes in
    let frames = c.args.task.now.frames.items in
    let long : 2 ≤ length frames = search rules in
    let (below, caller, top, two) = last_two frames long in
    ap (λ (fs : List Frame). kind_of (returned (map (caller_of nodes) fs) (value_as c.args.value))) (sym (reversed_front nodes frames below front caller top f two is))

pub returns-in_ok-return_to-clause-goes : goal.returns-in_ok-return_to-clause-goes
returns-in_ok-return_to-clause-goes c = λ front f is.
    let nodes = c.args.program.now.nodes in
    let old = c.args.task.now in
    subst (GoesTo c.args.program.now old c.return_to.new.task) (sym (gives_back (callers_of nodes front) (value_as c.args.value) (place_in c.args.program.now old))) (c.in_ok-return_to.ensures.ok front f is)
