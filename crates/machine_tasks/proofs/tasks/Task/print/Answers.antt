use Rattle.std.proofs.Common.{◌≡◌, slice_get, refl, sym, ap, subst, ◌∙◌}
use Rattle.core_language.specs.Computing.{machine, sum_of}
use Rattle.core_language.specs.Configurations.{Place}
use Rattle.core_language.specs.Acts.{at, with_result}
use Rattle.core_language.specs.Acts as act
use Rattle.chan_syntax.specs.Reading.{term_of}
use Rattle.core_programs.specs.Formed.{nexts}
use Rattle.core_programs.specs.Bodies.{program_of, rest}
use Rattle.machine_values.specs.Reading.{env_of}
use Rattle.machine_tasks.specs.Moving.{IsPrint, at_node, place_after}
use Rattle.machine_tasks.specs.Reading.{act_in}
use Rattle.machine_tasks.specs.Steps.{GoesTo, callers_of, place_in}
use Rattle.machine_tasks.proofs.Forms.{act_there, at_print}
use Rattle.machine_tasks.proofs.Places.{place_last}
use Rattle.machine_tasks.proofs.Results.{printed}
use Rattle.machine_tasks.proofs.tasks.Task.print.Goals as goal

pub unreachable-requires-in_default-node : goal.unreachable-requires-in_default-node
unreachable-requires-in_default-node c =
    let program = c.args.program.now in
    let task = c.args.self.now in
    let f = c.in-Some.frame.now in
    let top = c.in-Some.ensures.top in
    at_print (program_of program) task.name task.forks (rest program.nodes) (env_of f.binds.items) (callers_of program.nodes top.0) c.node.result.now
    (subst IsPrint (act_there program task f c.node.result.now c.node.result.now top c.node.ensures.opens refl) c.requires.act) c.in_default-node.not-Print

pub go_on-requires-clause-node : goal.go_on-requires-clause-node
go_on-requires-clause-node c = c.node.ensures.leads 0 c.in-Print.next (ap (λ x. slice_get (nexts x) 0) c.in-Print.is)

pub returns-clause-goes : goal.returns-clause-goes
returns-clause-goes c =
    let program = c.args.program.now in
    let nodes = program.nodes in
    let task = c.args.self.now in
    let f = c.in-Some.frame.now in
    let top = c.in-Some.ensures.top in
    let env = env_of f.binds.items in
    let callers = callers_of nodes top.0 in
    let next = c.in-Print.next in
    let acts = act_there program task f c.node.result.now _ top c.node.ensures.opens c.in-Print.is in
    let leaves : place_after (act_in program task) ≡ at_node nodes next (place_in program task) =
    ap place_after acts ∙ printed (sum_of machine env (term_of c.in-Print.term)) (at (rest nodes next) env callers) (subst IsPrint acts c.requires.act)
    ∙ ap (at_node nodes next) (sym (place_last nodes task.frames.items top.0 f top.1)) in
    subst (GoesTo program task c.go_on.new.self) (sym leaves) c.go_on.ensures.goes
