use Rattle.std.proofs.Common.{◌≡◌, Some, None, rules, refl, sym, ap, ◌∙◌}
use Rattle.std.specs.Option.{option_map}
use Rattle.std.specs.FinMap.{get}
use Rattle.core_language.specs.Acts.{channel_in}
use Rattle.core_language.specs.Steps.{effect}
use Rattle.machine_values.specs.Reading.{value_as}
use Rattle.machine_tasks.specs.declared.tasks.Task.{Task}
use Rattle.machine_tasks.specs.Reading.{act_in}
use Rattle.task_tables.specs.Tables.{tasks_of}
use Rattle.chan_machine.specs.Reading.{config_of, map_of}
use Rattle.chan_machine.proofs.Maps.{put-map_of}
use Rattle.chan_machine.proofs.Keeping.{channels_put}
use Rattle.chan_machine.proofs.Effects.{stuck_send, no_send, channel_has, sends_now}
use Rattle.task_tables.proofs.Putting.{one_task}
use Rattle.chan_machine.proofs.channels.send.Goals as goal

pub returns-in-None-clause-value : goal.returns-in-None-clause-value
returns-in-None-clause-value c = λ t found is at.
    let C = config_of c.args.program.now c.args.config.now in
    no_send C c.args.name.now t.forks (act_in c.args.program.now t) c.args.channel is at (channel_has C c.args.config.now.channels c.args.channel None refl (sym c.in-None.ensures.value))

pub returns-in-Some-Some-clause-value : goal.returns-in-Some-Some-clause-value
returns-in-Some-Some-clause-value c = λ t found is at.
    let C = config_of c.args.program.now c.args.config.now in
    stuck_send C c.args.name.now t.forks (act_in c.args.program.now t) c.args.channel (value_as c.in-Some-Some.field-0-0) is at
    (channel_has C c.args.config.now.channels c.args.channel (Some (Some c.in-Some-Some.field-0-0)) refl (sym c.in-Some-Some.ensures.value ∙ ap Some c.in-Some-Some.field-0-is))

pub returns-in-Some-None-clause-value : goal.returns-in-Some-None-clause-value
returns-in-Some-None-clause-value c = λ t found is at.
    let program = c.args.program.now in
    let config = c.args.config.now in
    let C = config_of program config in
    let p = c.args.name.now in
    let channel = c.args.channel in
    let old = c.in-Some.task.now in
    let here : get config.tasks p ≡ Some old = search rules in
    let same : t ≡ old = one_task config.tasks p t old found here in
    let parcel = c.in_ok-value.field-0 in
    let sends = c.in_ok-value.ensures in
    let ends : Some channel ≡ channel_in (act_in program old) = at ∙ ap (λ (x : Task). channel_in (act_in program x)) same in
    let ts = c.move_on.ensures.moves old here in
    let cs = put-map_of (option_map value_as) config.channels c.fill.new.channels channel (Some parcel.value) c.fill.ensures in
    ap (λ (x : Task). effect C p x.forks (act_in program x)) same
    ∙ sends_now C p old.forks (act_in program old) (tasks_of program c.move_on.new.self) (map_of (option_map value_as) c.fill.new.channels) channel sends.channel (value_as parcel.value) _
    sends.act_is ends (channel_has C config.channels channel (Some None) refl (sym c.in-Some-None.ensures.value ∙ ap Some c.in-Some-None.field-0-is)) ts cs

pub parcel-requires : goal.parcel-requires
parcel-requires c = record {
  fits = (c.requires.fits c.args.name.now c.in-Some.task.now (search rules)).1;
  act = c.requires.act c.in-Some.task.now (search rules);
}

pub returns-in-Some-None-clause-ends : goal.returns-in-Some-None-clause-ends
returns-in-Some-None-clause-ends c = λ test passes.
    let config = c.args.config.now in
    let old = c.in-Some.task.now in
    let here : get config.tasks c.args.name.now ≡ Some old = search rules in (
      c.move_on.ensures.ends test passes.0,
      channels_put test config.channels c.fill.new.channels c.args.channel (Some c.in_ok-value.field-0.value) passes.1 c.fill.ensures (c.in_ok-value.ensures.ends test (passes.0 c.args.name.now old here)),
    )
