use Rattle.std.proofs.Common.{◌≡◌, true, false, Some, rules, sym, ap, ◌∙◌}
use Rattle.std.specs.Option.{option_map}
use Rattle.std.specs.FinMap.{get}
use Rattle.std.proofs.lemmas.Int.{ints}
use Rattle.std.proofs.lemmas.Result.{IfOk-weaker, on_ok_weaker}
use Rattle.core_language.specs.Names.{NameMap}
use Rattle.core_language.specs.Configurations as core
use Rattle.core_language.specs.Steps.{Moves, Silent, End}
use Rattle.machine_values.specs.Reading.{value_as, why_of, halt_of}
use Rattle.machine_tasks.specs.Moving.{IsQuiet}
use Rattle.machine_tasks.specs.Reading.{act_in}
use Rattle.machine_tasks.specs.Sharing.{IsFork, IsRecv, IsSend}
use Rattle.machine_tasks.proofs.ByKind.{ends, forks, is_silent, prints, receives, sends}
use Rattle.task_tables.specs.Tables.{tasks_of}
use Rattle.chan_machine.specs.Reading.{config_of, map_of, prints_of}
use Rattle.chan_machine.proofs.Effects.{silent_effect, end_effect, ended_effect, halted_effect, stuck_effect, prints_now, acts_here, receives_somewhere, sends_somewhere, steps_here, steps_absent}
use Rattle.chan_machine.proofs.steps.make_step.Goals as goal

pub returns-in_default-clause-value : goal.returns-in_default-clause-value
returns-in_default-clause-value c =
    let config = c.args.config.now in
    steps_absent c.args.program.now config.tasks (map_of (option_map value_as) config.channels) (prints_of config.prints) c.args.name.now (search rules)

pub returns-in_ok-advance-in-Silent-clause-value : goal.returns-in_ok-advance-in-Silent-clause-value
returns-in_ok-advance-in-Silent-clause-value c =
    let program = c.args.program.now in
    let config = c.args.config.now in
    let C = config_of program config in
    let p = c.args.name.now in
    let t = c.in-Some.task.now in
    let a = act_in program t in
    let found : get config.tasks p ≡ Some t = search rules in
    let here = steps_here program config.tasks (map_of (option_map value_as) config.channels) (prints_of config.prints) p t found (c.requires.fits p t found).0 in
    here ∙ silent_effect C p t.forks a c.in-Silent.ensures ∙ ap (λ (ts : NameMap core.Task). Moves (record C { tasks = ts }) Silent) (sym (c.in_ok-advance-in-Silent.ensures.ok t found))

pub returns-in_ok-advance-in-End-clause-value : goal.returns-in_ok-advance-in-End-clause-value
returns-in_ok-advance-in-End-clause-value c =
    let program = c.args.program.now in
    let config = c.args.config.now in
    let C = config_of program config in
    let p = c.args.name.now in
    let t = c.in-Some.task.now in
    let a = act_in program t in
    let found : get config.tasks p ≡ Some t = search rules in
    let here = steps_here program config.tasks (map_of (option_map value_as) config.channels) (prints_of config.prints) p t found (c.requires.fits p t found).0 in
    here ∙ end_effect C p t.forks a c.in-End.ensures ∙ ap (λ (ts : NameMap core.Task). Moves (record C { tasks = ts }) End) (sym (c.in_ok-advance-in-End.ensures.ok t found))

pub returns-in_ok-print-in-Print-clause-value : goal.returns-in_ok-print-in-Print-clause-value
returns-in_ok-print-in-Print-clause-value c =
    let program = c.args.program.now in
    let config = c.args.config.now in
    let C = config_of program config in
    let p = c.args.name.now in
    let t = c.in-Some.task.now in
    let a = act_in program t in
    let found : get config.tasks p ≡ Some t = search rules in
    let here = steps_here program config.tasks (map_of (option_map value_as) config.channels) (prints_of config.prints) p t found (c.requires.fits p t found).0 in
    here ∙ prints_now C p t.forks a (tasks_of program c.print.new.tasks) (prints_of c.print.new.prints) c.in-Print.number _ _ c.printed.result c.in-Print.ensures (c.in_ok-print-in-Print.ensures.ok t found)
    c.in_ok-print-in-Print.ensures.prints c.printed.ensures.shows (search (rules, ints)) (search (rules, ints))

pub returns-in_ok-print-in-Print-clause-still : goal.returns-in_ok-print-in-Print-clause-still
returns-in_ok-print-in-Print-clause-still c = λ not. let both : true ≡ false = sym c.printed.ensures.moved ∙ not in cc

pub returns-in-Ended-clause-value : goal.returns-in-Ended-clause-value
returns-in-Ended-clause-value c =
    let program = c.args.program.now in
    let config = c.args.config.now in
    let C = config_of program config in
    let p = c.args.name.now in
    let t = c.in-Some.task.now in
    let a = act_in program t in
    let found : get config.tasks p ≡ Some t = search rules in
    let here = steps_here program config.tasks (map_of (option_map value_as) config.channels) (prints_of config.prints) p t found (c.requires.fits p t found).0 in
    here ∙ ended_effect C p t.forks a c.in-Ended.ensures

pub returns-in-Halts-clause-value : goal.returns-in-Halts-clause-value
returns-in-Halts-clause-value c =
    let program = c.args.program.now in
    let config = c.args.config.now in
    let C = config_of program config in
    let p = c.args.name.now in
    let t = c.in-Some.task.now in
    let a = act_in program t in
    let found : get config.tasks p ≡ Some t = search rules in
    let here = steps_here program config.tasks (map_of (option_map value_as) config.channels) (prints_of config.prints) p t found (c.requires.fits p t found).0 in
    here ∙ halted_effect C p t.forks a (halt_of c.in-Halts.why) c.in-Halts.ensures

pub returns-in-Stuck-clause-value : goal.returns-in-Stuck-clause-value
returns-in-Stuck-clause-value c =
    let program = c.args.program.now in
    let config = c.args.config.now in
    let C = config_of program config in
    let p = c.args.name.now in
    let t = c.in-Some.task.now in
    let a = act_in program t in
    let found : get config.tasks p ≡ Some t = search rules in
    let here = steps_here program config.tasks (map_of (option_map value_as) config.channels) (prints_of config.prints) p t found (c.requires.fits p t found).0 in
    here ∙ stuck_effect C p t.forks a (why_of c.in-Stuck.why) c.in-Stuck.ensures

pub returns-in-Fork-clause-value : goal.returns-in-Fork-clause-value
returns-in-Fork-clause-value c =
    let program = c.args.program.now in
    let config = c.args.config.now in
    let C = config_of program config in
    let p = c.args.name.now in
    let t = c.in-Some.task.now in
    let a = act_in program t in
    let found : get config.tasks p ≡ Some t = search rules in
    let here = steps_here program config.tasks (map_of (option_map value_as) config.channels) (prints_of config.prints) p t found (c.requires.fits p t found).0 in
    IfOk-weaker c.fork.result _ _ (λ s made. here ∙ made t found c.in-Fork.ensures) c.fork.ensures.value

pub returns-in_ok-channel-in-Some-channel-clause-value : goal.returns-in_ok-channel-in-Some-channel-clause-value
returns-in_ok-channel-in-Some-channel-clause-value c =
    let program = c.args.program.now in
    let config = c.args.config.now in
    let C = config_of program config in
    let p = c.args.name.now in
    let t = c.in-Some.task.now in
    let a = act_in program t in
    let found : get config.tasks p ≡ Some t = search rules in
    let here = steps_here program config.tasks (map_of (option_map value_as) config.channels) (prints_of config.prints) p t found (c.requires.fits p t found).0 in
    IfOk-weaker c.send.result _ _ (λ s made. here ∙ made t found c.in-Send.ensures (ap Some c.in_ok-channel-in-Some-channel.ensures ∙ c.in-Some-channel.ensures.name)) c.send.ensures.value

pub returns-in_ok-channel-in-Some-channel-2-clause-value : goal.returns-in_ok-channel-in-Some-channel-2-clause-value
returns-in_ok-channel-in-Some-channel-2-clause-value c =
    let program = c.args.program.now in
    let config = c.args.config.now in
    let C = config_of program config in
    let p = c.args.name.now in
    let t = c.in-Some.task.now in
    let a = act_in program t in
    let found : get config.tasks p ≡ Some t = search rules in
    let here = steps_here program config.tasks (map_of (option_map value_as) config.channels) (prints_of config.prints) p t found (c.requires.fits p t found).0 in
    IfOk-weaker c.receive.result _ _ (λ s made. here ∙ made t found c.in-Recv.ensures (ap Some c.in_ok-channel-in-Some-channel-2.ensures ∙ c.in-Some-channel-2.ensures.name)) c.receive.ensures.value

pub advance-requires-clause-act : goal.advance-requires-clause-act
advance-requires-clause-act c =
    let found : get c.args.config.now.tasks c.args.name.now ≡ Some c.in-Some.task.now = search rules in
    acts_here IsQuiet c.args.program.now c.args.config.now.tasks c.args.name.now c.in-Some.task.now found (is_silent (act_in c.args.program.now c.in-Some.task.now) (sym c.in-Silent.ensures))

pub advance-requires-in-End-clause-act : goal.advance-requires-in-End-clause-act
advance-requires-in-End-clause-act c =
    let found : get c.args.config.now.tasks c.args.name.now ≡ Some c.in-Some.task.now = search rules in
    acts_here IsQuiet c.args.program.now c.args.config.now.tasks c.args.name.now c.in-Some.task.now found (ends (act_in c.args.program.now c.in-Some.task.now) (sym c.in-End.ensures))

pub print-requires-clause-act : goal.print-requires-clause-act
print-requires-clause-act c =
    let found : get c.args.config.now.tasks c.args.name.now ≡ Some c.in-Some.task.now = search rules in
    acts_here IsQuiet c.args.program.now c.args.config.now.tasks c.args.name.now c.in-Some.task.now found (prints (act_in c.args.program.now c.in-Some.task.now) c.in-Print.number (sym c.in-Print.ensures))

pub fork-requires-clause-act : goal.fork-requires-clause-act
fork-requires-clause-act c =
    let found : get c.args.config.now.tasks c.args.name.now ≡ Some c.in-Some.task.now = search rules in
    acts_here IsFork c.args.program.now c.args.config.now.tasks c.args.name.now c.in-Some.task.now found (forks (act_in c.args.program.now c.in-Some.task.now) (sym c.in-Fork.ensures))

pub send-requires-clause-act : goal.send-requires-clause-act
send-requires-clause-act c =
    let found : get c.args.config.now.tasks c.args.name.now ≡ Some c.in-Some.task.now = search rules in
    acts_here IsSend c.args.program.now c.args.config.now.tasks c.args.name.now c.in-Some.task.now found (sends (act_in c.args.program.now c.in-Some.task.now) (sym c.in-Send.ensures))

pub receive-requires-clause-act : goal.receive-requires-clause-act
receive-requires-clause-act c =
    let found : get c.args.config.now.tasks c.args.name.now ≡ Some c.in-Some.task.now = search rules in
    acts_here IsRecv c.args.program.now c.args.config.now.tasks c.args.name.now c.in-Some.task.now found (receives (act_in c.args.program.now c.in-Some.task.now) (sym c.in-Recv.ensures))

pub unreachable-requires : goal.unreachable-requires
unreachable-requires c = sends_somewhere (act_in c.args.program.now c.in-Some.task.now) c.in-Send.ensures c.in-None.ensures.name

pub unreachable-requires-in-None-channel : goal.unreachable-requires-in-None-channel
unreachable-requires-in-None-channel c = receives_somewhere (act_in c.args.program.now c.in-Some.task.now) c.in-Recv.ensures c.in-None-channel.ensures.name

pub returns-in_ok-channel-in-Some-channel-clause-ends : goal.returns-in_ok-channel-in-Some-channel-clause-ends
returns-in_ok-channel-in-Some-channel-clause-ends c = on_ok_weaker c.send.result (λ keeps test zero. keeps test) c.send.ensures.ends

pub returns-in_ok-channel-in-Some-channel-2-clause-ends : goal.returns-in_ok-channel-in-Some-channel-2-clause-ends
returns-in_ok-channel-in-Some-channel-2-clause-ends c = on_ok_weaker c.receive.result (λ keeps test zero. keeps test) c.receive.ensures.ends

pub returns-in_ok-advance-in-Silent-clause-ends : goal.returns-in_ok-advance-in-Silent-clause-ends
returns-in_ok-advance-in-Silent-clause-ends c = λ test zero passes. (c.advance.ensures.ends test passes.0, passes.1)

pub returns-in_ok-advance-in-End-clause-ends : goal.returns-in_ok-advance-in-End-clause-ends
returns-in_ok-advance-in-End-clause-ends c = λ test zero passes. (c.advance-in-End.ensures.ends test passes.0, passes.1)

pub returns-in_ok-print-in-Print-clause-ends : goal.returns-in_ok-print-in-Print-clause-ends
returns-in_ok-print-in-Print-clause-ends c = λ test zero passes. (c.print.ensures.ends test passes.0, passes.1)
