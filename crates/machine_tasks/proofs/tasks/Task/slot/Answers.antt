use Rattle.std.proofs.Common.{List, slice_get, map, reverse, refl, sym, ap, subst, ◌∙◌}
use Rattle.core_language.specs.Names.{Ident}
use Rattle.core_language.specs.Computing.{machine, value_of}
use Rattle.core_language.specs.Configurations.{Place, Running}
use Rattle.core_language.specs.Acts.{Act, at, bound, on_end}
use Rattle.core_language.specs.Acts as act
use Rattle.core_programs.specs.Formed.{nexts}
use Rattle.core_programs.specs.Bodies.{program_of, rest}
use Rattle.machine_values.specs.Reading.{env_of}
use Rattle.machine_tasks.specs.Moving.{place_with}
use Rattle.machine_tasks.specs.Sharing.{IsRecv}
use Rattle.machine_tasks.specs.Steps.{callers_of}
use Rattle.machine_tasks.proofs.Forms.{act_there, at_receive, receives_end}
use Rattle.machine_tasks.proofs.Places.{place_last}
use Rattle.machine_tasks.proofs.tasks.Task.slot.Goals as goal

pub unreachable-requires-in_default-node : goal.unreachable-requires-in_default-node
unreachable-requires-in_default-node c =
    let program = c.args.program.now in
    let task = c.args.self.now in
    let f = c.in-Some.frame.now in
    let top = c.in-Some.ensures.top in
    at_receive (program_of program) task.name task.forks (rest program.nodes) (env_of f.binds.items) (callers_of program.nodes top.0) c.node.result.now
    (subst IsRecv (act_there program task f c.node.result.now c.node.result.now top c.node.ensures.opens refl) c.requires.act) c.in_default-node.not-Recv1

pub returns : goal.returns
returns c =
    let program = c.args.program.now in
    let nodes = program.nodes in
    let task = c.args.self.now in
    let f = c.in-Some.frame.now in
    let top = c.in-Some.ensures.top in
    let env = env_of f.binds.items in
    let callers = callers_of nodes top.0 in
    let next = c.in-Recv1.next in
    let acts = act_there program task f c.node.result.now _ top c.node.ensures.opens c.in-Recv1.is in
    let (channel, ends) = receives_end (value_of env c.in-Recv1.channel) _ (subst IsRecv acts c.requires.act) in
    let goes : Ident → Place → Act = λ x place. act.Recv channel (λ v. place_with nodes x v next place) in
    record {
      channel = channel;
      act_is = acts
          ∙ ap (λ o. on_end o (λ d. act.Recv d (λ v. at (rest nodes next) (bound env c.in-Recv1.pat.name v) callers))) ends
          ∙ ap (λ x. goes x (Running (rest nodes f.node) env callers)) (sym c.in_ok-name.ensures) ∙ ap (goes c.in_ok-name.name) (sym (place_last nodes task.frames.items top.0 f top.1));
      leads = c.node.ensures.leads 0 next (ap (λ x. slice_get (nexts x) 0) c.in-Recv1.is);
    }
