use Rattle.std.proofs.Common.{◌≡◌, Some, rules, ◌∙◌}
use Rattle.std.specs.FinMap.{get}
use Rattle.chan_machine.proofs.Sifted.{looks_absent, looks_here}
use Rattle.chan_machine.proofs.looks.awaited.Goals as goal

pub returns-in_default : goal.returns-in_default
returns-in_default c = looks_absent c.args.program.now c.args.config.now c.args.name.now (search rules)

pub returns-in-Some-channel : goal.returns-in-Some-channel
returns-in-Some-channel c =
    let config = c.args.config.now in
    let p = c.args.name.now in
    let t = c.in-Some.task.now in
    let here : get config.tasks p ≡ Some t = search rules in
    c.in-Some-channel.ensures.name ∙ looks_here c.args.program.now config p t here (c.requires.fits p t here).0

pub returns-in-None : goal.returns-in-None
returns-in-None c =
    let config = c.args.config.now in
    let p = c.args.name.now in
    let t = c.in-Some.task.now in
    let here : get config.tasks p ≡ Some t = search rules in
    c.in-None.ensures.name ∙ looks_here c.args.program.now config p t here (c.requires.fits p t here).0
