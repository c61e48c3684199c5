use Rattle.std.proofs.Common.{refl, sym, ◌∙◌}
use Rattle.std.proofs.lemmas.Result.{err_from_is_err_and}
use Rattle.outline_language.specs.Contexts.{add_int, add_ints}
use Rattle.outline_obligations.proofs.Reasons.{reason_to}
use Rattle.outline_obligations.proofs.Steps.{step_ok, step_err}
use Rattle.outline_contexts.specs.Trails.{context_in}
use Rattle.outline_contexts.proofs.Trails.{after_trans}
use Rattle.outline_contexts.proofs.trail.Context.add_ints.Goals as goal

pub loop-name-preserved : goal.loop-name-preserved
loop-name-preserved c = record {
  rest = sym (step_ok add_ints add_int (λ s x xs. refl) (context_in c.loop-name.self) (context_in c.add_int.new.self) c.args.names.now c.loop-name.name-index c.name-item.result c.loop-name-test.true c.name-item.is c.in_ok-add_int.ensures.ok)
      ∙ c.loop-name.invariant.rest;
  after = after_trans _ _ _ c.loop-name.invariant.after c.add_int.ensures.after;
}

pub returns-in_err-add_int-clause-err : goal.returns-in_err-add_int-clause-err
returns-in_err-add_int-clause-err c =
    let p = err_from_is_err_and c.from_residual.result c.from_residual.ensures.1 in
    rw (p.1, p.2) (reason_to _ _ (λ w e. sym c.loop-name.invariant.rest
    ∙ step_err add_ints add_int (λ s x xs. refl) (context_in c.loop-name.self) w c.args.names.now c.loop-name.name-index c.name-item.result c.loop-name-test.true c.name-item.is e) _ c.in_err-add_int.ensures.err)
