use Rattle.std.proofs.Common.{Some, None, sym, ap, ◌∙◌}
use Rattle.machine_values.specs.Reading.{value_as}
use Rattle.chan_machine.proofs.Effects.{receives_from, waits_at, no_receive, channel_has}
use Rattle.chan_machine.proofs.looks.look_receive.Goals as goal

pub returns-in-Some-Some : goal.returns-in-Some-Some
returns-in-Some-Some c = λ C p k a read is at.
    let found = sym c.in-Some-Some.ensures.value ∙ ap Some c.in-Some-Some.field-0-is in
    receives_from C p k a c.args.channel.now.name c.in_ok-name.name (value_as c.in-Some-Some.field-0-0) is at
    (channel_has C c.args.channels.now c.args.channel.now.name (Some (Some c.in-Some-Some.field-0-0)) read found) c.in_ok-name.ensures

pub returns-in-Some-None : goal.returns-in-Some-None
returns-in-Some-None c = λ C p k a read is at.
    let found = sym c.in-Some-None.ensures.value ∙ ap Some c.in-Some-None.field-0-is in
    (C, waits_at C p k a c.args.channel.now.name c.in_ok-name.name is at (channel_has C c.args.channels.now c.args.channel.now.name (Some None) read found) c.in_ok-name.ensures)

pub returns-in-None : goal.returns-in-None
returns-in-None c = λ C p k a read is at.
    (C, no_receive C p k a c.args.channel.now.name is at (channel_has C c.args.channels.now c.args.channel.now.name None read (sym c.in-None.ensures.value)))
