use Rattle.std.proofs.Common.{Some, None, sym, ap, ◌∙◌}
use Rattle.machine_values.specs.Reading.{value_as}
use Rattle.chan_machine.proofs.Effects.{sends_to, stuck_send, no_send, channel_has}
use Rattle.chan_machine.proofs.looks.look_send.Goals as goal

pub returns-in_ok-name-in-Some-None : goal.returns-in_ok-name-in-Some-None
returns-in_ok-name-in-Some-None c = λ C p k a read is at.
    let found = sym c.in-Some-None.ensures.value ∙ ap Some c.in-Some-None.field-0-is in
    sends_to C p k a c.args.channel.now.name c.in_ok-name-in-Some-None.name is at (channel_has C c.args.channels.now c.args.channel.now.name (Some None) read found) c.in_ok-name-in-Some-None.ensures

pub returns-in-Some-Some : goal.returns-in-Some-Some
returns-in-Some-Some c = λ C p k a read is at.
    let found = sym c.in-Some-Some.ensures.value ∙ ap Some c.in-Some-Some.field-0-is in
    (C, stuck_send C p k a c.args.channel.now.name (value_as c.in-Some-Some.field-0-0) is at (channel_has C c.args.channels.now c.args.channel.now.name (Some (Some c.in-Some-Some.field-0-0)) read found))

pub returns-in-None : goal.returns-in-None
returns-in-None c = λ C p k a read is at.
    (C, no_send C p k a c.args.channel.now.name is at (channel_has C c.args.channels.now c.args.channel.now.name None read (sym c.in-None.ensures.value)))
