use Rattle.std.proofs.Common.{◌≡◌, Some, None, rules, refl, sym, ap, ◌∙◌}
use Rattle.std.specs.Option.{option_map}
use Rattle.std.specs.FinMap.{get}
use Rattle.core_language.specs.Acts.{channel_in}
use Rattle.core_language.specs.Steps.{effect}
use Rattle.machine_values.specs.Reading.{value_as}
use Rattle.machine_tasks.specs.declared.tasks.Task.{Task}
use Rattle.machine_tasks.specs.Reading.{act_in}
use Rattle.task_tables.specs.Tables.{tasks_of}
use Rattle.chan_machine.specs.Reading.{config_of, map_of}
use Rattle.chan_machine.proofs.Maps.{take-map_of}
use Rattle.chan_machine.proofs.Keeping.{channels_taken}
use Rattle.chan_machine.proofs.Effects.{waits_at, no_receive, channel_has, receives_now}
use Rattle.task_tables.proofs.Putting.{one_task}
use Rattle.chan_machine.proofs.channels.receive.Goals as goal

pub returns-in-None-clause-value : goal.returns-in-None-clause-value
returns-in-None-clause-value c = λ t found is at.
    let C = config_of c.args.program.now c.args.config.now in
    no_receive C c.args.name.now t.forks (act_in c.args.program.now t) c.args.channel is at (channel_has C c.args.config.now.channels c.args.channel None refl (sym c.in-None.ensures.value))

pub returns-in-Some-None-clause-value : goal.returns-in-Some-None-clause-value
returns-in-Some-None-clause-value c = λ t found is at.
    let C = config_of c.args.program.now c.args.config.now in
    waits_at C c.args.name.now t.forks (act_in c.args.program.now t) c.args.channel c.args.channel is at
    (channel_has C c.args.config.now.channels c.args.channel (Some None) refl (sym c.in-Some-None.ensures.value ∙ ap Some c.in-Some-None.field-0-is)) refl

pub returns-in-Some-Some-remove-clause-value : goal.returns-in-Some-Some-remove-clause-value
returns-in-Some-Some-remove-clause-value c = λ t found is at.
    let program = c.args.program.now in
    let config = c.args.config.now in
    let C = config_of program config in
    let p = c.args.name.now in
    let channel = c.args.channel in
    let old = c.in-Some.task.now in
    let here : get config.tasks p ≡ Some old = search rules in
    let same : t ≡ old = one_task config.tasks p t old found here in
    let slot = c.in_ok-variable.field-0 in
    let value = c.in-Some-Some-remove.value in
    let receives = c.in_ok-variable.ensures in
    let ends : Some channel ≡ channel_in (act_in program old) = at ∙ ap (λ (x : Task). channel_in (act_in program x)) same in
    let ts = c.accept.ensures.moves old here in
    let cs = take-map_of (option_map value_as) config.channels c.remove.new.self channel c.remove.ensures.updates in
    ap (λ (x : Task). effect C p x.forks (act_in program x)) same
    ∙ receives_now C p old.forks (act_in program old) (tasks_of program c.accept.new.self) (map_of (option_map value_as) c.remove.new.self) channel receives.channel (value_as value) _
    receives.act_is ends (channel_has C config.channels channel (Some (Some value)) refl (sym c.in-Some-Some-remove.ensures.value ∙ ap Some c.in-Some-Some-remove.field-0-is)) ts cs

pub slot-requires : goal.slot-requires
slot-requires c = record {
  fits = (c.requires.fits c.args.name.now c.in-Some.task.now (search rules)).1;
  act = c.requires.act c.in-Some.task.now (search rules);
}

pub returns-in-Some-Some-remove-clause-ends : goal.returns-in-Some-Some-remove-clause-ends
returns-in-Some-Some-remove-clause-ends c = λ test passes.
    let config = c.args.config.now in
    let stored = passes.1 c.args.channel c.in-Some-Some-remove.value (sym c.in-Some-Some-remove.ensures.value ∙ ap Some c.in-Some-Some-remove.field-0-is) in
    (c.accept.ensures.ends test stored passes.0, channels_taken test config.channels c.remove.new.self c.args.channel passes.1 c.remove.ensures.updates)
