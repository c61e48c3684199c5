use Rattle.std.proofs.Common.{◌≡◌, suc, Some, None, rules, refl, sym, subst, ap, ◌∙◌}
use Rattle.std.specs.Option.{option_map}
use Rattle.std.specs.FinMap.{get, insert}
use Rattle.core_language.specs.Names.{NameMap, child}
use Rattle.core_language.specs.Configurations as core
use Rattle.core_language.specs.Acts as act
use Rattle.core_language.specs.Steps.{effect}
use Rattle.machine_values.specs.Cells.{Passes}
use Rattle.machine_values.specs.Reading.{value_as}
use Rattle.machine_tasks.specs.declared.tasks.Task.{Task}
use Rattle.machine_tasks.specs.Reading.{act_in, place_of}
use Rattle.machine_tasks.specs.Moving.{place_with}
use Rattle.task_tables.specs.Fits.{TasksFit}
use Rattle.task_tables.specs.Tables.{tasks_of}
use Rattle.task_tables.proofs.Putting.{fits_put, one_task, passes_put, placed}
use Rattle.chan_machine.specs.Reading.{config_of, map_of}
use Rattle.chan_machine.proofs.Maps.{put-map_of}
use Rattle.chan_machine.proofs.Keeping.{channels_put, child_other, other_kept}
use Rattle.chan_machine.proofs.Effects.{forks_now}
use Rattle.chan_machine.proofs.channels.fork.Goals as goal

pub branch-config-requires-clause-room : goal.branch-config-requires-clause-room
branch-config-requires-clause-room c = λ t found.
    let tasks = c.args.config.now.tasks in
    let p = c.args.name.now in
    let old = c.in-Some.task.now in
    let born = c.in_ok-made.made.child in
    let here : get tasks p ≡ Some old = search rules in
    let named = c.in_ok-made.ensures.child_is.name_is ∙ ap (λ q. child q old.forks) (c.requires.fits p old here).0 in
    c.requires.room t (sym (other_kept tasks c.put_child.new.tasks born.name p born c.in_ok-put_child.ensures.tasks (child_other p born.name old.forks named)) ∙ found)

pub branch-config-requires-clause-forks : goal.branch-config-requires-clause-forks
branch-config-requires-clause-forks c = λ t found.
    let tasks = c.args.config.now.tasks in
    let p = c.args.name.now in
    let old = c.in-Some.task.now in
    let born = c.in_ok-made.made.child in
    let here : get tasks p ≡ Some old = search rules in
    let named = c.in_ok-made.ensures.child_is.name_is ∙ ap (λ q. child q old.forks) (c.requires.fits p old here).0 in
    c.requires.forks t (sym (other_kept tasks c.put_child.new.tasks born.name p born c.in_ok-put_child.ensures.tasks (child_other p born.name old.forks named)) ∙ found)

pub branch-config-requires-clause-fits : goal.branch-config-requires-clause-fits
branch-config-requires-clause-fits c =
    let born = c.in_ok-made.made.child in
    fits_put c.args.config.now.tasks c.put_child.new.tasks born.name born c.in_ok-put_child.ensures.tasks c.args.program.now c.requires.fits refl c.in_ok-made.ensures.child_is.fits

pub returns-clause-value : goal.returns-clause-value
returns-clause-value c = λ t found is.
    let program = c.args.program.now in
    let config = c.args.config.now in
    let C = config_of program config in
    let p = c.args.name.now in
    let old = c.in-Some.task.now in
    let here : get config.tasks p ≡ Some old = search rules in
    let same : t ≡ old = one_task config.tasks p t old found here in
    let made = c.in_ok-made.made in
    let branches = c.in_ok-made.ensures in
    let born = made.child in
    let after = c.put_child.new.tasks in
    let named = branches.child_is.name_is in
    let off = child_other p born.name old.forks (named ∙ ap (λ q. child q old.forks) (c.requires.fits p old here).0) in
    let parent = place_with program.nodes made.end.name (value_as made.end.value) made.next (place_of program.nodes old.frames.items) in
    let its = place_of program.nodes born.frames.items in
    let whole : NameMap core.Task → NameMap core.Task = λ ts. insert ts p (record { place = parent; forks = suc old.forks }) in
    let ts = c.branch-config.ensures.moves old (other_kept config.tasks after born.name p born c.in_ok-put_child.ensures.tasks off ∙ here)
    ∙ ap whole (placed config.tasks after born.name born c.in_ok-put_child.ensures.tasks program its 0 refl branches.child_is.forks_are) in
    let cs = put-map_of (option_map value_as) config.channels c.put_child.new.channels born.name None c.in_ok-put_child.ensures.channels in
    ap (λ (x : Task). effect C p x.forks (act_in program x)) same
    ∙ forks_now C p old.forks (act_in program old) (tasks_of program c.branch-config.new.self) (map_of (option_map value_as) c.put_child.new.channels) born.name c.in_ok-event.event parent its
    (branches.act_is ∙ ap (λ n. act.Fork n parent its) (sym named)) off ts cs (c.in_ok-event.ensures ∙ c.name-3.ensures)

pub returns-in_err-put_child-clause-fits : goal.returns-in_err-put_child-clause-fits
returns-in_err-put_child-clause-fits c = subst (TasksFit c.args.program.now) (sym c.in_err-put_child.ensures.err_tasks) c.requires.fits

pub offspring-requires : goal.offspring-requires
offspring-requires c = record {
  fits = (c.requires.fits c.args.name.now c.in-Some.task.now (search rules)).1;
  act = c.requires.act c.in-Some.task.now (search rules);
}

pub returns-clause-ends : goal.returns-clause-ends
returns-clause-ends c = λ test zero passes.
    let config = c.args.config.now in
    let old = c.in-Some.task.now in
    let here : get config.tasks c.args.name.now ≡ Some old = search rules in
    let born = c.in_ok-made.made.child in
    let branches = c.in_ok-made.ensures in
    let new = zero (child old.name old.forks) in
    let both = passes_put config.tasks c.put_child.new.tasks born.name born c.in_ok-put_child.ensures.tasks test passes.0 (branches.child_ends test new (passes.0 c.args.name.now old here)) in (
      c.branch-config.ensures.ends test (subst (Passes test) (sym branches.end_is) new) both,
      channels_put test config.channels c.put_child.new.channels born.name None passes.1 c.in_ok-put_child.ensures.channels tt,
    )
