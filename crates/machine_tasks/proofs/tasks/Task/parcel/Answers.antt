use Rattle.std.proofs.Common.{◌≡◌, List, slice_get, refl, sym, ap, subst, ◌∙◌}
use Rattle.core_language.specs.Computing.{Done, machine, value_of, supplied}
use Rattle.core_language.specs.Configurations.{Place}
use Rattle.core_language.specs.Acts.{Act, at, on_end, with_result}
use Rattle.core_language.specs.Acts as act
use Rattle.chan_syntax.specs.Reading.{supply_of}
use Rattle.core_programs.specs.Formed.{nexts}
use Rattle.core_programs.specs.Bodies.{program_of, rest}
use Rattle.machine_values.specs.declared.binds.Bind.{Bind}
use Rattle.machine_values.specs.Ends.{BindsPass, MadePasses}
use Rattle.machine_values.specs.Reading.{env_of, value_as}
use Rattle.machine_values.specs.Troubles.{made_of}
use Rattle.machine_tasks.specs.Moving.{at_node}
use Rattle.machine_tasks.specs.Sharing.{IsSend}
use Rattle.machine_tasks.specs.Steps.{callers_of}
use Rattle.machine_tasks.proofs.Ends.{top_passes}
use Rattle.machine_tasks.proofs.Forms.{act_there, at_send, sends_end}
use Rattle.machine_tasks.proofs.Places.{place_last}
use Rattle.machine_tasks.proofs.tasks.Task.parcel.Goals as goal

pub unreachable-requires-in_default-node : goal.unreachable-requires-in_default-node
unreachable-requires-in_default-node c =
    let program = c.args.program.now in
    let task = c.args.self.now in
    let f = c.in-Some.frame.now in
    let top = c.in-Some.ensures.top in
    at_send (program_of program) task.name task.forks (rest program.nodes) (env_of f.binds.items) (callers_of program.nodes top.0) c.node.result.now
    (subst IsSend (act_there program task f c.node.result.now c.node.result.now top c.node.ensures.opens refl) c.requires.act) c.in_default-node.not-Send1

pub returns : goal.returns
returns c =
    let program = c.args.program.now in
    let nodes = program.nodes in
    let task = c.args.self.now in
    let f = c.in-Some.frame.now in
    let top = c.in-Some.ensures.top in
    let env = env_of f.binds.items in
    let callers = callers_of nodes top.0 in
    let next = c.in-Send1.next in
    let v = value_as c.unwrap-value.result in
    let made : supplied machine env (supply_of c.in-Send1.value) ≡ Done v =
    ap (λ (bs : List Bind). supplied machine (env_of bs) (supply_of c.in-Send1.value)) (sym c.as_slice.ensures.value) ∙ sym c.in_ok-make.ensures.value ∙ ap made_of c.unwrap-value.ensures in
    let acts = act_there program task f c.node.result.now _ top c.node.ensures.opens c.in-Send1.is
    ∙ ap (λ m. with_result m (λ w. on_end (value_of env c.in-Send1.channel) (λ d. act.Send d w (at (rest nodes next) env callers)))) made in
    let (channel, ends) = sends_end (value_of env c.in-Send1.channel) _ (subst IsSend acts c.requires.act) in
    let goes : Place → Act = λ place. act.Send channel v (at_node nodes next place) in
    record {
      channel = channel;
      act_is = acts
          ∙ ap (λ o. on_end o (λ d. act.Send d v (at (rest nodes next) env callers))) ends
          ∙ ap goes (sym (place_last nodes task.frames.items top.0 f top.1));
      ends = λ test passes.
          subst (MadePasses test) c.unwrap-value.ensures
          (c.in_ok-make.ensures.ends test (subst (BindsPass test) (sym c.as_slice.ensures.value) (top_passes test task f top passes)));
      leads = c.node.ensures.leads 0 next (ap (λ x. slice_get (nexts x) 0) c.in-Send1.is);
    }
