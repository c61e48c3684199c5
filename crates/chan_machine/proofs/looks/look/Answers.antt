use Rattle.std.proofs.Common.{◌≡◌, Some, rules, refl, sym, ◌∙◌}
use Rattle.std.specs.Option.{option_map}
use Rattle.std.specs.FinMap.{get}
use Rattle.std.proofs.lemmas.Result.{IfOk-weaker}
use Rattle.std.proofs.lemmas.Int.{ints}
use Rattle.machine_values.specs.Reading.{value_as, why_of, halt_of}
use Rattle.machine_tasks.specs.Reading.{act_in}
use Rattle.machine_tasks.proofs.ByKind.{forks}
use Rattle.chan_machine.specs.Reading.{config_of, map_of, prints_of}
use Rattle.chan_machine.proofs.Effects.{silent_effect, print_answer, end_effect, ended_effect, halted_effect, stuck_effect, forks_child, receives_somewhere, sends_somewhere, steps_here, steps_absent}
use Rattle.chan_machine.proofs.looks.look.Goals as goal

pub returns-in_default : goal.returns-in_default
returns-in_default c =
    let config = c.args.config.now in
    (config_of c.args.program.now config, steps_absent c.args.program.now config.tasks (map_of (option_map value_as) config.channels) (prints_of config.prints) c.args.name.now (search rules))

pub returns-in-Silent : goal.returns-in-Silent
returns-in-Silent c =
    let program = c.args.program.now in
    let config = c.args.config.now in
    let C = config_of program config in
    let p = c.args.name.now in
    let t = c.in-Some.task.now in
    let a = act_in program t in
    let found : get config.tasks p ≡ Some t = search rules in
    let here = steps_here program config.tasks (map_of (option_map value_as) config.channels) (prints_of config.prints) p t found (c.requires.fits p t found).0 in
    (_, here ∙ silent_effect C p t.forks a c.in-Silent.ensures)

pub returns-in-Print : goal.returns-in-Print
returns-in-Print c =
    let program = c.args.program.now in
    let config = c.args.config.now in
    let C = config_of program config in
    let p = c.args.name.now in
    let t = c.in-Some.task.now in
    let a = act_in program t in
    let found : get config.tasks p ≡ Some t = search rules in
    let here = steps_here program config.tasks (map_of (option_map value_as) config.channels) (prints_of config.prints) p t found (c.requires.fits p t found).0 in
    let (after, e) = print_answer C p t.forks a c.in-Print.number _ c.printed.result c.in-Print.ensures c.printed.ensures.shows (search (rules, ints)) in
    (after, here ∙ e)

pub returns-in-End : goal.returns-in-End
returns-in-End c =
    let program = c.args.program.now in
    let config = c.args.config.now in
    let C = config_of program config in
    let p = c.args.name.now in
    let t = c.in-Some.task.now in
    let a = act_in program t in
    let found : get config.tasks p ≡ Some t = search rules in
    let here = steps_here program config.tasks (map_of (option_map value_as) config.channels) (prints_of config.prints) p t found (c.requires.fits p t found).0 in
    (_, here ∙ end_effect C p t.forks a c.in-End.ensures)

pub returns-in-Ended : goal.returns-in-Ended
returns-in-Ended c =
    let program = c.args.program.now in
    let config = c.args.config.now in
    let C = config_of program config in
    let p = c.args.name.now in
    let t = c.in-Some.task.now in
    let a = act_in program t in
    let found : get config.tasks p ≡ Some t = search rules in
    let here = steps_here program config.tasks (map_of (option_map value_as) config.channels) (prints_of config.prints) p t found (c.requires.fits p t found).0 in
    (C, here ∙ ended_effect C p t.forks a c.in-Ended.ensures)

pub returns-in-Halts : goal.returns-in-Halts
returns-in-Halts c =
    let program = c.args.program.now in
    let config = c.args.config.now in
    let C = config_of program config in
    let p = c.args.name.now in
    let t = c.in-Some.task.now in
    let a = act_in program t in
    let found : get config.tasks p ≡ Some t = search rules in
    let here = steps_here program config.tasks (map_of (option_map value_as) config.channels) (prints_of config.prints) p t found (c.requires.fits p t found).0 in
    (C, here ∙ halted_effect C p t.forks a (halt_of c.in-Halts.why) c.in-Halts.ensures)

pub returns-in-Stuck : goal.returns-in-Stuck
returns-in-Stuck c =
    let program = c.args.program.now in
    let config = c.args.config.now in
    let C = config_of program config in
    let p = c.args.name.now in
    let t = c.in-Some.task.now in
    let a = act_in program t in
    let found : get config.tasks p ≡ Some t = search rules in
    let here = steps_here program config.tasks (map_of (option_map value_as) config.channels) (prints_of config.prints) p t found (c.requires.fits p t found).0 in
    (C, here ∙ stuck_effect C p t.forks a (why_of c.in-Stuck.why) c.in-Stuck.ensures)

pub returns-in_ok-child-in-Fork : goal.returns-in_ok-child-in-Fork
returns-in_ok-child-in-Fork c =
    let program = c.args.program.now in
    let config = c.args.config.now in
    let C = config_of program config in
    let p = c.args.name.now in
    let t = c.in-Some.task.now in
    let a = act_in program t in
    let found : get config.tasks p ≡ Some t = search rules in
    let here = steps_here program config.tasks (map_of (option_map value_as) config.channels) (prints_of config.prints) p t found (c.requires.fits p t found).0 in
    let made = c.in_ok-made-in-Fork.ensures in
    let (after, e) = forks_child C p t.forks a _ c.in_ok-child-in-Fork.child _ _ made.act_is (c.in_ok-child-in-Fork.ensures ∙ c.name.ensures ∙ made.child_is.name_is) in
    (after, here ∙ e)

pub returns-in-Some-channel : goal.returns-in-Some-channel
returns-in-Some-channel c =
    let program = c.args.program.now in
    let config = c.args.config.now in
    let C = config_of program config in
    let p = c.args.name.now in
    let t = c.in-Some.task.now in
    let a = act_in program t in
    let found : get config.tasks p ≡ Some t = search rules in
    let here = steps_here program config.tasks (map_of (option_map value_as) config.channels) (prints_of config.prints) p t found (c.requires.fits p t found).0 in
    IfOk-weaker c.look_send.result _ _ (λ s answers. let (after, e) = answers C p t.forks a refl c.in-Send.ensures c.in-Some-channel.ensures.name in (after, here ∙ e)) c.look_send.ensures

pub returns-in-Some-channel-2 : goal.returns-in-Some-channel-2
returns-in-Some-channel-2 c =
    let program = c.args.program.now in
    let config = c.args.config.now in
    let C = config_of program config in
    let p = c.args.name.now in
    let t = c.in-Some.task.now in
    let a = act_in program t in
    let found : get config.tasks p ≡ Some t = search rules in
    let here = steps_here program config.tasks (map_of (option_map value_as) config.channels) (prints_of config.prints) p t found (c.requires.fits p t found).0 in
    IfOk-weaker c.look_receive.result _ _ (λ s answers. let (after, e) = answers C p t.forks a refl c.in-Recv.ensures c.in-Some-channel-2.ensures.name in (after, here ∙ e)) c.look_receive.ensures

pub offspring-requires-clause-act : goal.offspring-requires-clause-act
offspring-requires-clause-act c = forks (act_in c.args.program.now c.in-Some.task.now) (sym c.in-Fork.ensures)

pub unreachable-requires : goal.unreachable-requires
unreachable-requires c = sends_somewhere (act_in c.args.program.now c.in-Some.task.now) c.in-Send.ensures c.in-None.ensures.name

pub unreachable-requires-in-None-channel : goal.unreachable-requires-in-None-channel
unreachable-requires-in-None-channel c = receives_somewhere (act_in c.args.program.now c.in-Some.task.now) c.in-Recv.ensures c.in-None-channel.ensures.name
