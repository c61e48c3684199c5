use Rattle.std.proofs.Common.{◌≡◌, Some, rules, ap, ◌∙◌}
use Rattle.std.specs.Option.{option_map}
use Rattle.std.specs.FinMap.{get}
use Rattle.chan_machine.specs.Turning.{moves_with}
use Rattle.chan_machine.proofs.Sifted.{moves_absent, moves_here}
use Rattle.chan_machine.proofs.looks.can_move.Goals as goal

pub returns-in_default : goal.returns-in_default
returns-in_default c = moves_absent c.args.program.now c.args.config.now c.args.name.now (search rules)

pub returns : goal.returns
returns c =
    let config = c.args.config.now in
    let p = c.args.name.now in
    let t = c.in-Some.task.now in
    let here : get config.tasks p ≡ Some t = search rules in
    let found = option_map (λ stored. stored.now) c.found.result in
    c.passes.ensures ∙ ap (λ kind. moves_with kind found) c.act.ensures ∙ moves_here c.args.program.now config p t found here (c.requires.fits p t here).0 c.found.ensures
