use Rattle.std.proofs.Common.{◌≡◌, ℤ, List, Some, nat_lt, OnOk, IfOk, Result, Option, length, slice_get, map, refl, ap, sym, subst, ◌∙◌}
use Rattle.std.specs.Global.{Vec}
use Rattle.std.proofs.lemmas.Result.{on_ok_weaker}
use Rattle.core_language.specs.Values as core
use Rattle.core_language.specs.Computing.{machine, sum_of, multiplied, divided, left_over, supplied, all_supplied, value_of}
use Rattle.core_language.specs.Acts.{Act, on_pair, on_sum}
use Rattle.chan_syntax.specs.declared.operands.Supply.{Supply}
use Rattle.chan_syntax.specs.Reading.{supply_of, term_of}
use Rattle.core_programs.specs.declared.nodes.Arm.{Arm}
use Rattle.core_programs.specs.Formed.{nexts}
use Rattle.machine_values.specs.declared.binds.Bind.{Bind}
use Rattle.machine_values.specs.Ends.{BindsPass}
use Rattle.machine_values.specs.Reading.{env_of, value_as}
use Rattle.machine_values.specs.Troubles.{computed_of}
use Rattle.machine_tasks.specs.Attempts.{Attempts, compared, picks}
use Rattle.machine_tasks.specs.Kinds.{kind_as, kind_of}
use Rattle.machine_tasks.proofs.Arms.{arm_next}
use Rattle.machine_tasks.proofs.Ends.{top_passes}
use Rattle.machine_tasks.proofs.Forms.{act_there}
use Rattle.machine_tasks.specs.Moving.{place_by}
use Rattle.machine_tasks.specs.Steps.{place_in}
use Rattle.machine_tasks.proofs.Results.{assigned, chosen_one, parted, picked, stays_end, stays_forked, stays_result}
use Rattle.machine_tasks.proofs.tasks.Task.try_step.Goals as goal

pub try_assign-requires-clause-next : goal.try_assign-requires-clause-next
try_assign-requires-clause-next c = c.node.ensures.leads 0 c.in-Let.next (ap (λ x. slice_get (nexts x) 0) c.in-Let.is)

pub try_assign-requires-in-Mul-clause-next : goal.try_assign-requires-in-Mul-clause-next
try_assign-requires-in-Mul-clause-next c = c.node.ensures.leads 0 c.in-Mul.next (ap (λ x. slice_get (nexts x) 0) c.in-Mul.is)

pub try_assign-requires-in-Div-clause-next : goal.try_assign-requires-in-Div-clause-next
try_assign-requires-in-Div-clause-next c = c.node.ensures.leads 0 c.in-Div.next (ap (λ x. slice_get (nexts x) 0) c.in-Div.is)

pub try_assign-requires-in-Rem-clause-next : goal.try_assign-requires-in-Rem-clause-next
try_assign-requires-in-Rem-clause-next c = c.node.ensures.leads 0 c.in-Rem.next (ap (λ x. slice_get (nexts x) 0) c.in-Rem.is)

pub try_choose-requires-clause-yes : goal.try_choose-requires-clause-yes
try_choose-requires-clause-yes c = c.node.ensures.leads 0 c.in-If.yes (ap (λ x. slice_get (nexts x) 0) c.in-If.is)

pub try_choose-requires-clause-no : goal.try_choose-requires-clause-no
try_choose-requires-clause-no c = c.node.ensures.leads 1 c.in-If.no (ap (λ x. slice_get (nexts x) 1) c.in-If.is)

pub try_call-requires-clause-next : goal.try_call-requires-clause-next
try_call-requires-clause-next c = c.node.ensures.leads 0 c.in-Call.next (ap (λ x. slice_get (nexts x) 0) c.in-Call.is)

pub try_split-requires-clause-next : goal.try_split-requires-clause-next
try_split-requires-clause-next c = c.node.ensures.leads 0 c.in-Split.next (ap (λ x. slice_get (nexts x) 0) c.in-Split.is)

pub returns-in-Let-clause-kind : goal.returns-in-Let-clause-kind
returns-in-Let-clause-kind c =
    let program = c.args.program.now in
    let task = c.args.self.now in
    let f = c.in-Some.frame.now in
    let top = c.in-Some.ensures.top in
    let is = assigned program task f top c.in-Let.name c.in-Let.next (computed_of c.sum-number.result) _ (act_there program task f c.node.result.now _ top c.node.ensures.opens c.in-Let.is)
    (c.sum-number.ensures ∙ ap (λ (bs : List Bind). sum_of machine (env_of bs) (term_of c.in-Let.term)) c.as_slice-binds.ensures.value) in
    subst (λ (a : Act). IfOk c.try_assign.result (λ told. kind_as told ≡ kind_of a)) (sym is) c.try_assign.ensures.kind

pub returns-in-Let-clause-goes : goal.returns-in-Let-clause-goes
returns-in-Let-clause-goes c =
    let program = c.args.program.now in
    let task = c.args.self.now in
    let f = c.in-Some.frame.now in
    let top = c.in-Some.ensures.top in
    let is = assigned program task f top c.in-Let.name c.in-Let.next (computed_of c.sum-number.result) _ (act_there program task f c.node.result.now _ top c.node.ensures.opens c.in-Let.is)
    (c.sum-number.ensures ∙ ap (λ (bs : List Bind). sum_of machine (env_of bs) (term_of c.in-Let.term)) c.as_slice-binds.ensures.value) in
    subst (λ (a : Act). OnOk c.try_assign.result (Attempts program task c.try_assign.new.task a)) (sym is) c.try_assign.ensures.goes

pub returns-in-Mul-clause-kind : goal.returns-in-Mul-clause-kind
returns-in-Mul-clause-kind c =
    let program = c.args.program.now in
    let task = c.args.self.now in
    let f = c.in-Some.frame.now in
    let top = c.in-Some.ensures.top in
    let is = assigned program task f top c.in-Mul.name c.in-Mul.next (computed_of c.product_of_sums-number.result) _ (act_there program task f c.node.result.now _ top c.node.ensures.opens c.in-Mul.is)
    (c.product_of_sums-number.ensures ∙ ap (λ (bs : List Bind). multiplied machine (env_of bs) (term_of c.in-Mul.left) (term_of c.in-Mul.right)) c.as_slice-binds.ensures.value) in
    subst (λ (a : Act). IfOk c.try_assign-in-Mul.result (λ told. kind_as told ≡ kind_of a)) (sym is) c.try_assign-in-Mul.ensures.kind

pub returns-in-Mul-clause-goes : goal.returns-in-Mul-clause-goes
returns-in-Mul-clause-goes c =
    let program = c.args.program.now in
    let task = c.args.self.now in
    let f = c.in-Some.frame.now in
    let top = c.in-Some.ensures.top in
    let is = assigned program task f top c.in-Mul.name c.in-Mul.next (computed_of c.product_of_sums-number.result) _ (act_there program task f c.node.result.now _ top c.node.ensures.opens c.in-Mul.is)
    (c.product_of_sums-number.ensures ∙ ap (λ (bs : List Bind). multiplied machine (env_of bs) (term_of c.in-Mul.left) (term_of c.in-Mul.right)) c.as_slice-binds.ensures.value) in
    subst (λ (a : Act). OnOk c.try_assign-in-Mul.result (Attempts program task c.try_assign-in-Mul.new.task a)) (sym is) c.try_assign-in-Mul.ensures.goes

pub returns-in-Div-clause-kind : goal.returns-in-Div-clause-kind
returns-in-Div-clause-kind c =
    let program = c.args.program.now in
    let task = c.args.self.now in
    let f = c.in-Some.frame.now in
    let top = c.in-Some.ensures.top in
    let is = assigned program task f top c.in-Div.name c.in-Div.next (computed_of c.quotient-number.result) _ (act_there program task f c.node.result.now _ top c.node.ensures.opens c.in-Div.is)
    (c.quotient-number.ensures ∙ ap (λ (bs : List Bind). divided machine (env_of bs) (term_of c.in-Div.term) c.in-Div.divisor) c.as_slice-binds.ensures.value) in
    subst (λ (a : Act). IfOk c.try_assign-in-Div.result (λ told. kind_as told ≡ kind_of a)) (sym is) c.try_assign-in-Div.ensures.kind

pub returns-in-Div-clause-goes : goal.returns-in-Div-clause-goes
returns-in-Div-clause-goes c =
    let program = c.args.program.now in
    let task = c.args.self.now in
    let f = c.in-Some.frame.now in
    let top = c.in-Some.ensures.top in
    let is = assigned program task f top c.in-Div.name c.in-Div.next (computed_of c.quotient-number.result) _ (act_there program task f c.node.result.now _ top c.node.ensures.opens c.in-Div.is)
    (c.quotient-number.ensures ∙ ap (λ (bs : List Bind). divided machine (env_of bs) (term_of c.in-Div.term) c.in-Div.divisor) c.as_slice-binds.ensures.value) in
    subst (λ (a : Act). OnOk c.try_assign-in-Div.result (Attempts program task c.try_assign-in-Div.new.task a)) (sym is) c.try_assign-in-Div.ensures.goes

pub returns-in-Rem-clause-kind : goal.returns-in-Rem-clause-kind
returns-in-Rem-clause-kind c =
    let program = c.args.program.now in
    let task = c.args.self.now in
    let f = c.in-Some.frame.now in
    let top = c.in-Some.ensures.top in
    let is = assigned program task f top c.in-Rem.name c.in-Rem.next (computed_of c.remainder-number.result) _ (act_there program task f c.node.result.now _ top c.node.ensures.opens c.in-Rem.is)
    (c.remainder-number.ensures ∙ ap (λ (bs : List Bind). left_over machine (env_of bs) (term_of c.in-Rem.term) c.in-Rem.divisor) c.as_slice-binds.ensures.value) in
    subst (λ (a : Act). IfOk c.try_assign-in-Rem.result (λ told. kind_as told ≡ kind_of a)) (sym is) c.try_assign-in-Rem.ensures.kind

pub returns-in-Rem-clause-goes : goal.returns-in-Rem-clause-goes
returns-in-Rem-clause-goes c =
    let program = c.args.program.now in
    let task = c.args.self.now in
    let f = c.in-Some.frame.now in
    let top = c.in-Some.ensures.top in
    let is = assigned program task f top c.in-Rem.name c.in-Rem.next (computed_of c.remainder-number.result) _ (act_there program task f c.node.result.now _ top c.node.ensures.opens c.in-Rem.is)
    (c.remainder-number.ensures ∙ ap (λ (bs : List Bind). left_over machine (env_of bs) (term_of c.in-Rem.term) c.in-Rem.divisor) c.as_slice-binds.ensures.value) in
    subst (λ (a : Act). OnOk c.try_assign-in-Rem.result (Attempts program task c.try_assign-in-Rem.new.task a)) (sym is) c.try_assign-in-Rem.ensures.goes

pub returns-in-Print-clause-goes : goal.returns-in-Print-clause-goes
returns-in-Print-clause-goes c =
    let program = c.args.program.now in
    let task = c.args.self.now in
    let f = c.in-Some.frame.now in
    let top = c.in-Some.ensures.top in
    let env = env_of f.binds.items in
    let here = place_in program task in
    let acts = act_there program task f c.node.result.now _ top c.node.ensures.opens c.in-Print.is in
    record {
      name_is = refl;
      forks_are = refl;
      place_is = sym (ap (λ (a : Act). place_by a here) acts ∙ stays_result here {A = ℤ} (sum_of machine env (term_of c.in-Print.term)) _ (λ z. refl));
      fits = c.requires.fits;
    }

pub returns-in-Send1-clause-goes : goal.returns-in-Send1-clause-goes
returns-in-Send1-clause-goes c =
    let program = c.args.program.now in
    let task = c.args.self.now in
    let f = c.in-Some.frame.now in
    let top = c.in-Some.ensures.top in
    let env = env_of f.binds.items in
    let here = place_in program task in
    let acts = act_there program task f c.node.result.now _ top c.node.ensures.opens c.in-Send1.is in
    record {
      name_is = refl;
      forks_are = refl;
      place_is = sym (ap (λ (a : Act). place_by a here) acts ∙ stays_result here {A = core.Value} (supplied machine env (supply_of c.in-Send1.value)) _ (λ v. stays_end here (value_of env c.in-Send1.channel) _ (λ d. refl)));
      fits = c.requires.fits;
    }

pub returns-in-Recv1-clause-goes : goal.returns-in-Recv1-clause-goes
returns-in-Recv1-clause-goes c =
    let program = c.args.program.now in
    let task = c.args.self.now in
    let f = c.in-Some.frame.now in
    let top = c.in-Some.ensures.top in
    let env = env_of f.binds.items in
    let here = place_in program task in
    let acts = act_there program task f c.node.result.now _ top c.node.ensures.opens c.in-Recv1.is in
    record {
      name_is = refl;
      forks_are = refl;
      place_is = sym (ap (λ (a : Act). place_by a here) acts ∙ stays_end here (value_of env c.in-Recv1.channel) _ (λ d. refl));
      fits = c.requires.fits;
    }

pub returns-in-Fork-clause-goes : goal.returns-in-Fork-clause-goes
returns-in-Fork-clause-goes c =
    let program = c.args.program.now in
    let task = c.args.self.now in
    let f = c.in-Some.frame.now in
    let top = c.in-Some.ensures.top in
    let env = env_of f.binds.items in
    let here = place_in program task in
    let acts = act_there program task f c.node.result.now _ top c.node.ensures.opens c.in-Fork.is in
    record {
      name_is = refl;
      forks_are = refl;
      place_is = sym (ap (λ (a : Act). place_by a here) acts ∙ stays_result here {A = List core.Value} (all_supplied machine env (map supply_of c.in-Fork.values)) _ (λ vs. stays_forked here (nat_lt (length task.name) 1024) _ _ _));
      fits = c.requires.fits;
    }

pub returns-in-If-clause-kind : goal.returns-in-If-clause-kind
returns-in-If-clause-kind c =
    let program = c.args.program.now in
    let task = c.args.self.now in
    let f = c.in-Some.frame.now in
    let top = c.in-Some.ensures.top in
    let is = chosen_one program task f top c.in-If.yes c.in-If.no (computed_of c.at_most-less.result) _ _ (act_there program task f c.node.result.now _ top c.node.ensures.opens c.in-If.is)
    (c.at_most-less.ensures
    ∙ ap (λ (bs : List Bind). compared (sum_of machine (env_of bs) (term_of c.in-If.left)) (sum_of machine (env_of bs) (term_of c.in-If.right))) c.as_slice-binds.ensures.value) in
    subst (λ (a : Act). kind_as c.try_choose.result ≡ kind_of a) (sym is) c.try_choose.ensures.kind

pub returns-in-If-clause-goes : goal.returns-in-If-clause-goes
returns-in-If-clause-goes c =
    let program = c.args.program.now in
    let task = c.args.self.now in
    let f = c.in-Some.frame.now in
    let top = c.in-Some.ensures.top in
    let is = chosen_one program task f top c.in-If.yes c.in-If.no (computed_of c.at_most-less.result) _ _ (act_there program task f c.node.result.now _ top c.node.ensures.opens c.in-If.is)
    (c.at_most-less.ensures
    ∙ ap (λ (bs : List Bind). compared (sum_of machine (env_of bs) (term_of c.in-If.left)) (sum_of machine (env_of bs) (term_of c.in-If.right))) c.as_slice-binds.ensures.value) in
    subst (Attempts program task c.try_choose.new.task) (sym is) c.try_choose.ensures.goes

pub returns-in_ok-parts-in-Split-clause-kind : goal.returns-in_ok-parts-in-Split-clause-kind
returns-in_ok-parts-in-Split-clause-kind c =
    let program = c.args.program.now in
    let task = c.args.self.now in
    let f = c.in-Some.frame.now in
    let top = c.in-Some.ensures.top in
    let found = c.lookup.ensures.value ∙ ap (λ (bs : List Bind). value_of (env_of bs) c.in-Split.pair) c.as_slice-binds.ensures.value in
    let is = parted program task f top c.in-Split.first.name c.in-Split.second.name c.in-Split.next c.in_ok-parts-in-Split.parts _ (act_there program task f c.node.result.now _ top c.node.ensures.opens c.in-Split.is)
    (λ go. ap (λ o. on_pair o go) (sym found) ∙ c.in_ok-parts-in-Split.ensures.parts go) in
    subst (λ (a : Act). IfOk c.try_split.result (λ told. kind_as told ≡ kind_of a)) (sym is) c.try_split.ensures.kind

pub returns-in_ok-parts-in-Split-clause-goes : goal.returns-in_ok-parts-in-Split-clause-goes
returns-in_ok-parts-in-Split-clause-goes c =
    let program = c.args.program.now in
    let task = c.args.self.now in
    let f = c.in-Some.frame.now in
    let top = c.in-Some.ensures.top in
    let found = c.lookup.ensures.value ∙ ap (λ (bs : List Bind). value_of (env_of bs) c.in-Split.pair) c.as_slice-binds.ensures.value in
    let is = parted program task f top c.in-Split.first.name c.in-Split.second.name c.in-Split.next c.in_ok-parts-in-Split.parts _ (act_there program task f c.node.result.now _ top c.node.ensures.opens c.in-Split.is)
    (λ go. ap (λ o. on_pair o go) (sym found) ∙ c.in_ok-parts-in-Split.ensures.parts go) in
    subst (λ (a : Act). OnOk c.try_split.result (Attempts program task c.try_split.new.task a)) (sym is) c.try_split.ensures.goes

pub returns-in_ok-parts-in-Split-clause-ends : goal.returns-in_ok-parts-in-Split-clause-ends
returns-in_ok-parts-in-Split-clause-ends c =
    on_ok_weaker c.try_split.result (λ keeps test passes.
    let bound = subst (BindsPass test) (sym c.as_slice-binds.ensures.value) (top_passes test c.args.self.now c.in-Some.frame.now c.in-Some.ensures.top passes) in
    keeps test (c.in_ok-parts-in-Split.ensures.ends test (c.lookup.ensures.ends test bound)) passes) c.try_split.ensures.ends

pub returns-in_ok-found-in-Match-clause-kind : goal.returns-in_ok-found-in-Match-clause-kind
returns-in_ok-found-in-Match-clause-kind c =
    let program = c.args.program.now in
    let task = c.args.self.now in
    let f = c.in-Some.frame.now in
    let top = c.in-Some.ensures.top in
    let sums = c.lookup-in-Match.ensures.value ∙ ap (λ (bs : List Bind). value_of (env_of bs) c.in-Match.choice) c.as_slice-binds.ensures.value in
    let is = picked program task f top c.in-Match.arms c.in_ok-found-in-Match.found _ (act_there program task f c.node.result.now _ top c.node.ensures.opens c.in-Match.is)
    (λ go. ap (λ o. on_sum o go) (sym sums) ∙ c.in_ok-found-in-Match.ensures.arm go) in
    subst (λ (a : Act). IfOk c.try_pick.result (λ told. kind_as told ≡ kind_of a)) (ap (λ (arms : List Arm). picks program task arms c.in_ok-found-in-Match.found) c.as_slice-in-Match.ensures ∙ sym is) c.try_pick.ensures.kind

pub returns-in_ok-found-in-Match-clause-goes : goal.returns-in_ok-found-in-Match-clause-goes
returns-in_ok-found-in-Match-clause-goes c =
    let program = c.args.program.now in
    let task = c.args.self.now in
    let f = c.in-Some.frame.now in
    let top = c.in-Some.ensures.top in
    let sums = c.lookup-in-Match.ensures.value ∙ ap (λ (bs : List Bind). value_of (env_of bs) c.in-Match.choice) c.as_slice-binds.ensures.value in
    let is = picked program task f top c.in-Match.arms c.in_ok-found-in-Match.found _ (act_there program task f c.node.result.now _ top c.node.ensures.opens c.in-Match.is)
    (λ go. ap (λ o. on_sum o go) (sym sums) ∙ c.in_ok-found-in-Match.ensures.arm go) in
    subst (λ (a : Act). OnOk c.try_pick.result (Attempts program task c.try_pick.new.task a)) (ap (λ (arms : List Arm). picks program task arms c.in_ok-found-in-Match.found) c.as_slice-in-Match.ensures ∙ sym is) c.try_pick.ensures.goes

pub returns-in_ok-found-in-Match-clause-ends : goal.returns-in_ok-found-in-Match-clause-ends
returns-in_ok-found-in-Match-clause-ends c =
    on_ok_weaker c.try_pick.result (λ keeps test passes.
    let bound = subst (BindsPass test) (sym c.as_slice-binds.ensures.value) (top_passes test c.args.self.now c.in-Some.frame.now c.in-Some.ensures.top passes) in
    keeps test (c.in_ok-found-in-Match.ensures.ends test (c.lookup-in-Match.ensures.ends test bound)) passes) c.try_pick.ensures.ends

pub try_pick-requires-clause-leads : goal.try_pick-requires-clause-leads
try_pick-requires-clause-leads c = λ number arm found.
    let at : slice_get c.in-Match.arms number ≡ Some arm = ap (λ (arms : List Arm). slice_get arms number) (sym c.as_slice-in-Match.ensures) ∙ found in
    c.node.ensures.leads number arm.next (ap (λ x. slice_get (nexts x) number) c.in-Match.is ∙ arm_next c.in-Match.arms number arm at)

pub returns-in_ok-value-in-Ret-clause-ends : goal.returns-in_ok-value-in-Ret-clause-ends
returns-in_ok-value-in-Ret-clause-ends c =
    on_ok_weaker c.try_return.result (λ keeps test passes.
    let bound = subst (BindsPass test) (sym c.as_slice-binds.ensures.value) (top_passes test c.args.self.now c.in-Some.frame.now c.in-Some.ensures.top passes) in
    keeps test (c.in_ok-value-in-Ret.ensures.ends test bound) passes) c.try_return.ensures.ends

pub returns-in_ok-values-in-Call-clause-ends : goal.returns-in_ok-values-in-Call-clause-ends
returns-in_ok-values-in-Call-clause-ends c =
    on_ok_weaker c.try_call.result (λ keeps test passes.
    let bound = subst (BindsPass test) (sym c.as_slice-binds.ensures.value) (top_passes test c.args.self.now c.in-Some.frame.now c.in-Some.ensures.top passes) in
    keeps test (c.in_ok-values-in-Call.ensures.ends test bound) passes) c.try_call.ensures.ends

pub returns-in_ok-values-in-Tail-clause-ends : goal.returns-in_ok-values-in-Tail-clause-ends
returns-in_ok-values-in-Tail-clause-ends c =
    on_ok_weaker c.try_tail.result (λ keeps test passes.
    let bound = subst (BindsPass test) (sym c.as_slice-binds.ensures.value) (top_passes test c.args.self.now c.in-Some.frame.now c.in-Some.ensures.top passes) in
    keeps test (c.in_ok-values-in-Tail.ensures.ends test bound) passes) c.try_tail.ensures.ends
