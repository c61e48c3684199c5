use Rattle.std.proofs.Common.{◌≡◌, IfOk, List, [], ◌∷◌, slice_get, length, nat_lt, true, if◌then◌else◌, map, refl, sym, ap, subst, ◌∙◌}
use Rattle.core_language.specs.Names.{child}
use Rattle.core_language.specs.Values.{Value}
use Rattle.core_language.specs.Values as core
use Rattle.core_language.specs.Programs.{function_named}
use Rattle.core_language.specs.Computing.{Done, Depth, machine, all_supplied}
use Rattle.core_language.specs.Configurations.{Place, Running}
use Rattle.core_language.specs.Acts.{at, bound, entered, forked, with_result}
use Rattle.core_language.specs.Acts as act
use Rattle.chan_syntax.specs.declared.operands.Supply.{Supply}
use Rattle.chan_syntax.specs.Reading.{supply_of}
use Rattle.core_programs.specs.Formed.{nexts}
use Rattle.core_programs.specs.Bodies.{program_of, rest}
use Rattle.machine_values.specs.declared.binds.Bind.{Bind}
use Rattle.machine_values.specs.Cells.{Passes, uncelled}
use Rattle.machine_values.specs.Cells as cells
use Rattle.machine_values.specs.Ends.{BindsPass, ValuesPass}
use Rattle.machine_values.specs.Reading.{env_of, value_as}
use Rattle.machine_values.specs.Troubles.{all_made_of}
use Rattle.machine_tasks.specs.Moving.{place_with}
use Rattle.machine_tasks.specs.Reading.{place_of}
use Rattle.machine_tasks.specs.Sharing.{IsFork}
use Rattle.machine_tasks.specs.Steps.{callers_of}
use Rattle.machine_tasks.proofs.Ends.{top_passes}
use Rattle.machine_tasks.proofs.Forms.{act_there, at_fork, forked_short}
use Rattle.machine_tasks.proofs.Places.{place_last}
use Rattle.machine_tasks.proofs.tasks.Task.offspring.Goals as goal

pub unreachable-requires-in_default-node : goal.unreachable-requires-in_default-node
unreachable-requires-in_default-node c =
    let program = c.args.program.now in
    let task = c.args.self.now in
    let f = c.in-Some.frame.now in
    let top = c.in-Some.ensures.top in
    at_fork (program_of program) task.name task.forks (rest program.nodes) (env_of f.binds.items) (callers_of program.nodes top.0) c.node.result.now
    (subst IsFork (act_there program task f c.node.result.now c.node.result.now top c.node.ensures.opens refl) c.requires.act) c.in_default-node.not-Fork

pub returns : goal.returns
returns c =
    let nodes = c.args.program.now.nodes in
    let program = program_of c.args.program.now in
    let task = c.args.self.now in
    let frames = task.frames.items in
    let f = c.in-Some.frame.now in
    let top = c.in-Some.ensures.top in
    let env = env_of f.binds.items in
    let callers = callers_of nodes top.0 in
    let next = c.in-Fork.next in
    let func = c.in-Fork.func in
    let values = c.unwrap-values.result.items in
    let vs = map value_as values in
    let name = child task.name task.forks in
    let cell = c.args.cell.0 in
    let its : Value → Place = λ end. entered (function_named func program.funcs) (end ∷ vs) [] in
    let made : all_supplied machine env (map supply_of c.in-Fork.values) ≡ Done vs =
    ap (λ (bs : List Bind). all_supplied machine (env_of bs) (map supply_of c.in-Fork.values)) (sym c.as_slice.ensures.value)
    ∙ ap (λ (ss : List Supply). all_supplied machine (env_of c.as_slice.result.now) (map supply_of ss)) (sym c.as_slice-2.ensures) ∙ sym c.in_ok-make_all.ensures.values ∙ ap all_made_of c.unwrap-values.ensures in
    let first = c.in_ok-end.ensures ∙ ap (λ n. cells.End n cell) c.in_ok-child.ensures in
    let second = c.in_ok-value.ensures ∙ ap (λ n. cells.End n cell) c.in_ok-child.ensures in
    let begins : its (core.End name) ≡ place_of nodes c.in_ok-frames.frames.items = ap its (sym (ap uncelled first)) ∙ c.in_ok-frames.ensures.place in
    let acts = act_there c.args.program.now task f c.node.result.now _ top c.node.ensures.opens c.in-Fork.is
    ∙ ap (λ m. with_result m (forked machine program task.name task.forks c.in-Fork.name func (rest nodes next) env callers)) made in
    record {
      act_is = acts
          ∙ ap (λ b. if b then act.Fork name (at (rest nodes next) (bound env c.in-Fork.name (core.End name)) callers) (its (core.End name)) else act.IsHalted Depth)
          (forked_short (nat_lt (length task.name) 1024) _ _ _ (subst IsFork acts c.requires.act))
          ∙ ap (λ x. act.Fork name (place_with nodes x (core.End name) next (Running (rest nodes f.node) env callers)) (its (core.End name))) (sym c.in_ok-name.ensures)
          ∙ ap (λ v. act.Fork name (place_with nodes c.in_ok-name.name v next (Running (rest nodes f.node) env callers)) (its (core.End name))) (sym (ap uncelled second))
          ∙ ap (λ place. act.Fork name (place_with nodes c.in_ok-name.name (value_as c.in_ok-value.value) next place) (its (core.End name))) (sym (place_last nodes frames top.0 f top.1))
          ∙ ap (act.Fork name (place_with nodes c.in_ok-name.name (value_as c.in_ok-value.value) next (place_of nodes frames))) begins;
      child_is = record { name_is = c.in_ok-child.ensures; forks_are = refl; place_is = refl; fits = c.in_ok-frames.ensures.fits };
      end_is = second;
      child_ends = λ test new passes.
          c.in_ok-frames.ensures.ends test (subst (Passes test) (sym first) new)
          (subst (λ r. IfOk r (λ ws. ValuesPass test ws.items)) c.unwrap-values.ensures
          (c.in_ok-make_all.ensures.ends test (subst (BindsPass test) (sym c.as_slice.ensures.value) (top_passes test task f top passes))));
      leads = c.node.ensures.leads 0 next (ap (λ x. slice_get (nexts x) 0) c.in-Fork.is);
    }
