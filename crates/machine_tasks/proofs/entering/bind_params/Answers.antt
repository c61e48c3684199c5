use Rattle.std.proofs.Common.{◌≡◌, ◌+◌, length, rules, List, [], ◌∷◌, ◌++◌, drop, map, sym, ap, subst, ◌∙◌}
use Rattle.std.specs.List.{All}
use Rattle.std.proofs.lemmas.List.Elements.{All-head, All-push, All-tail}
use Rattle.machine_values.specs.declared.binds.Bind.{Bind}
use Rattle.machine_values.specs.declared.values.Value.{Value}
use Rattle.machine_values.specs.Ends.{BindsPass, ValuePasses, ValuesPass}
use Rattle.machine_values.proofs.Weighing.{next_is}
use Rattle.machine_tasks.proofs.Params.{binds_all, binds_one, with_rest}
use Rattle.machine_tasks.proofs.entering.bind_params.Goals as goal

pub returns-clause-binds : goal.returns-clause-binds
returns-clause-binds c =
    binds_all c.args.params.now c.values.binds.items c.values.value-iterator.rest.items _ (sym c.values.value-iterator.rest.ok.0 ∙ c.in-None.ensures.steps.0) c.values.invariant.0

pub returns-clause-ends : goal.returns-clause-ends
returns-clause-ends c = λ test passes. (c.values.invariant.1 test passes).0

pub values-preserved : goal.values-preserved
values-preserved c =
    let params = c.args.params.now in
    let binds = c.values.binds.items in
    let later = c.next.new.self.rest.items in
    let param = c.in-Some-get.param.now in
    let lookup = c.in-Some-get.ensures.lookup in
    let bind : Bind = record { name = c.in_ok-name.name; value = c.in-Some.value } in
    let counted : c.len.result ≡ length binds = search rules in
    let next = ap (λ n. drop n params) (sym counted) ∙ next_is params c.len.result param lookup.3.0 (lookup.3.1 _) ∙ ap (λ n. param ∷ drop (n + 1) params) counted in (
      ap (λ (bs : List Bind). with_rest params bs later) c.in_ok-push.ensures.items ∙ binds_one params binds param bind later next c.in_ok-name.ensures
          ∙ ap (with_rest params binds) (sym c.in-Some.ensures.steps.0) ∙ c.values.invariant.0,
      λ test passes.
          let (bound, left) = c.values.invariant.1 test passes in
          let values = subst (ValuesPass test) c.in-Some.ensures.steps.0 left in (
            subst (BindsPass test) (sym c.in_ok-push.ensures.items) (All-push (λ b. ValuePasses test b.value) binds bind bound (All-head (ValuePasses test) _ _ values)),
            All-tail (ValuePasses test) c.in-Some.value later values,
          ),
    )
