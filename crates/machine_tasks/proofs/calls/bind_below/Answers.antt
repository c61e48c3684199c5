use Rattle.std.proofs.Common.{◌≡◌, get_or, ◌-◌, ◌<◌, length, rules, refl, sym, ap, subst, ◌++◌, ◌∷◌, [], ◌∙◌}
use Rattle.std.proofs.lemmas.List.Elements.{All-get_or, All-push, All-set}
use Rattle.machine_values.specs.Ends.{BindsPass, ValuePasses}
use Rattle.machine_tasks.specs.Ends.{FramePasses}
use Rattle.machine_tasks.specs.declared.tasks.Frame.{Frame}
use Rattle.machine_tasks.proofs.Places.{on_err}
use Rattle.machine_tasks.proofs.Below.{last_two, found_below, wrote_below, below_fits, below_reads}
use Rattle.machine_tasks.proofs.calls.bind_below.Goals as goal

pub returns-in_err-push-clause-err : goal.returns-in_err-push-clause-err
returns-in_err-push-clause-err c =
    let frames = c.args.task.now.frames.items in
    let got = c.in-Some.frame.now in
    let h : Frame = record { node = got.node; binds = c.push.new.self } in
    let (front, f, top, is) = last_two frames c.requires in
    on_err c.from_residual.result _ (record {
      name_is = refl;
      forks_are = refl;
      frames_are = below_reads [] frames front f top got h c.len-below.result is (search rules) (search rules) refl c.in_err-push.ensures.items;
    })

pub returns-in_ok-push-clause-ends : goal.returns-in_ok-push-clause-ends
returns-in_ok-push-clause-ends c = λ test value passes.
    let frames = c.args.task.now.frames.items in
    let got = c.in-Some.frame.now in
    let h : Frame = record { node = got.node; binds = c.push.new.self } in
    let at : c.len-below.result - 2 < length frames = search rules in
    let is : got ≡ get_or frames (c.len-below.result - 2) got = search rules in
    let read = subst (FramePasses test) (sym is) (All-get_or (FramePasses test) frames (c.len-below.result - 2) got at passes) in
    All-set (FramePasses test) frames (c.len-below.result - 2) h
    (subst (BindsPass test) (sym c.in_ok-push.ensures.items) (All-push (λ b. ValuePasses test b.value) got.binds.items c.args.bind read value)) passes

pub returns-in_err-push-clause-fits : goal.returns-in_err-push-clause-fits
returns-in_err-push-clause-fits c = λ nodes.
    let frames = c.args.task.now.frames.items in
    let got = c.in-Some.frame.now in
    let h : Frame = record { node = got.node; binds = c.push.new.self } in
    let (front, f, top, is) = last_two frames c.requires in
    below_fits nodes frames front f top got h c.len-below.result is (search rules) (search rules) refl

pub returns-in_ok-push-clause-ok : goal.returns-in_ok-push-clause-ok
returns-in_ok-push-clause-ok c = λ front f top is.
    let frames = c.args.task.now.frames.items in
    let got = c.in-Some.frame.now in
    let h : Frame = record { node = got.node; binds = c.push.new.self } in
    let found = found_below [] frames front f top got h c.len-below.result is (search rules) (search rules) refl in (
      h,
      wrote_below [] frames front f top got h c.len-below.result is (search rules) (search rules) refl,
      ap (λ (x : Frame). x.node) found,
      c.in_ok-push.ensures.items ∙ ap (λ (x : Frame). x.binds.items ++ c.args.bind ∷ []) found,
    )

pub returns-in_ok-push-clause-fits : goal.returns-in_ok-push-clause-fits
returns-in_ok-push-clause-fits c = λ nodes.
    let frames = c.args.task.now.frames.items in
    let got = c.in-Some.frame.now in
    let h : Frame = record { node = got.node; binds = c.push.new.self } in
    let (front, f, top, is) = last_two frames c.requires in
    below_fits nodes frames front f top got h c.len-below.result is (search rules) (search rules) refl
