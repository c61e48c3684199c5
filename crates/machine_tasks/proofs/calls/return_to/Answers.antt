use Rattle.std.proofs.Common.{◌≡◌, ◌<◌, arith, length, slice_get, rules, refl, sym, ap, subst, ◌∙◌}
use Rattle.std.specs.Prelude.{vec_len}
use Rattle.std.proofs.lemmas.List.Elements.{All-pop}
use Rattle.machine_tasks.specs.Ends.{FramePasses}
use Rattle.machine_tasks.specs.Fits.{IsCall}
use Rattle.machine_tasks.proofs.Places.{on_err}
use Rattle.machine_tasks.proofs.Forms.{at_call}
use Rattle.core_programs.specs.Formed.{nexts}
use Rattle.core_programs.specs.Bodies.{opened, rest}
use Rattle.core_language.specs.Names.{Ident}
use Rattle.core_language.specs.Configurations.{Caller}
use Rattle.machine_values.specs.declared.binds.Bind.{Bind}
use Rattle.machine_values.specs.Reading.{env_of}
use Rattle.machine_tasks.specs.declared.tasks.Frame.{Frame}
use Rattle.machine_tasks.specs.Reading.{caller_at, caller_of}
use Rattle.machine_tasks.proofs.Below.{last_two, two_long, found_below, caller_calls, caller_within, goes_back, back_fits, taken}
use Rattle.machine_tasks.proofs.calls.return_to.Goals as goal

pub node-requires : goal.node-requires
node-requires c =
    let nodes = c.args.program.now.nodes in
    let frames = c.args.task.now.frames.items in
    let (front, f, top, is) = last_two frames c.requires.two in
    let got = c.index-caller.result.now in
    let found = found_below nodes frames front f top got got c.len-below.result is (search rules) (search rules) refl in
    subst (λ (g : Frame). g.node < length nodes) (sym found) (caller_within nodes frames front f top is c.requires.fits)

pub unreachable-requires : goal.unreachable-requires
unreachable-requires c =
    let nodes = c.args.program.now.nodes in
    let frames = c.args.task.now.frames.items in
    let (front, f, top, is) = last_two frames c.requires.two in
    let got = c.index-caller.result.now in
    let found = found_below nodes frames front f top got got c.len-below.result is (search rules) (search rules) refl in
    at_call c.node.result.now (rest nodes)
    (subst IsCall (ap (λ (g : Frame). rest nodes g.node) (sym found) ∙ c.node.ensures.opens) (caller_calls nodes frames front f top is c.requires.fits)) c.in_default.not-Call

pub returns-in_err-name-clause-err : goal.returns-in_err-name-clause-err
returns-in_err-name-clause-err c = on_err c.from_residual.result _ (record { name_is = refl; forks_are = refl; frames_are = refl })

pub go_on-requires-clause-node : goal.go_on-requires-clause-node
go_on-requires-clause-node c = c.node.ensures.leads 0 c.in-Call.next (ap (λ x. slice_get (nexts x) 0) c.in-Call.is)

pub returns-clause-ok : goal.returns-clause-ok
returns-clause-ok c = λ front1 f1 whole.
    let nodes = c.args.program.now.nodes in
    let frames = c.args.task.now.frames.items in
    let (front, f, top, is) = last_two frames c.requires.two in
    let got = c.index-caller.result.now in
    let found = found_below nodes frames front f top got got c.len-below.result is (search rules) (search rules) refl in
    let (g, wrote, same, more) = c.in_ok-bind_below.ensures.ok front f top is in
    let long : vec_len c.bind_below.new.task.frames ≡ length c.bind_below.new.task.frames.items = search rules in
    let some : 0 < vec_len c.bind_below.new.task.frames = (let all = ap length wrote ∙ two_long front g top in omega (arith, long, all)) in
    let (last, popped) = taken c.pop-top.result c.bind_below.new.task.frames.items c.pop-top.new.self.items (c.pop-top.ensures.variant.1 some) c.pop-top.ensures.items in
    let bind : Bind = record { name = c.in_ok-name.name; value = c.args.value } in
    let caller : Ident → Caller = λ x. record { name = x; rest = rest nodes c.in-Call.next; env = env_of f.binds.items } in
    let calls : caller_of nodes f ≡ caller bind.name =
    ap (λ (g : Frame). caller_at (rest nodes g.node) (env_of f.binds.items)) (sym found) ∙ ap (λ b. caller_at b (env_of f.binds.items)) c.node.ensures.opens
    ∙ ap (λ x. caller_at (opened x (rest nodes)) (env_of f.binds.items)) c.in-Call.is ∙ ap caller (sym c.in_ok-name.ensures) in
    record {
      name_is = c.go_on.ensures.goes.name_is ∙ c.bind_below.ensures.name;
      forks_are = c.go_on.ensures.goes.forks_are ∙ c.bind_below.ensures.forks;
      place_is = goes_back nodes frames c.bind_below.new.task.frames.items c.pop-top.new.self.items c.go_on.new.self.frames.items front1 front f1 f g top last bind c.in-Call.next whole is wrote popped more
          c.go_on.ensures.goes.place_is calls;
      fits = c.go_on.ensures.goes.fits;
    }

pub go_on-requires-clause-fits : goal.go_on-requires-clause-fits
go_on-requires-clause-fits c =
    let nodes = c.args.program.now.nodes in
    let frames = c.args.task.now.frames.items in
    let (front, f, top, is) = last_two frames c.requires.two in
    let (g, wrote, same, more) = c.in_ok-bind_below.ensures.ok front f top is in
    let long : vec_len c.bind_below.new.task.frames ≡ length c.bind_below.new.task.frames.items = search rules in
    let some : 0 < vec_len c.bind_below.new.task.frames = (let all = ap length wrote ∙ two_long front g top in omega (arith, long, all)) in
    let (last, popped) = taken c.pop-top.result c.bind_below.new.task.frames.items c.pop-top.new.self.items (c.pop-top.ensures.variant.1 some) c.pop-top.ensures.items in
    back_fits nodes c.bind_below.new.task.frames.items c.pop-top.new.self.items front g top last wrote popped (c.bind_below.ensures.fits nodes c.requires.fits)

pub returns-clause-ends : goal.returns-clause-ends
returns-clause-ends c = λ test value passes.
    c.go_on.ensures.ends test
    (All-pop (FramePasses test) c.bind_below.new.task.frames.items c.pop-top.new.self.items c.pop-top.result c.pop-top.ensures.items (c.in_ok-bind_below.ensures.ends test value passes)).0
