use Rattle.std.proofs.Common.{ℕ, suc, ◌+◌, ◌-◌, List, [], ◌∷◌, ◌++◌, sym, ap, ◌∙◌, append-nil, arith}
use Rattle.std.proofs.lemmas.Result.{err_from_is_err_and}
use Rattle.chan_syntax.specs.Reading.{proof_of}
use Rattle.outline_language.specs.LinearForms.{LinearForm}
use Rattle.outline_language.specs.Contexts.{take_instances}
use Rattle.outline_obligations.specs.Cursors.{cursor_at}
use Rattle.outline_obligations.proofs.Reasons.{reason_to}
use Rattle.outline_contexts.specs.Trails.{context_in}
use Rattle.outline_instances.proofs.TakenInstances.{behind, supplied, one_taken, none_taken}
use Rattle.outline_instances.proofs.supplying.take_instances.Goals as goal

pub returns-in_err-form-clause-err : goal.returns-in_err-form-clause-err
returns-in_err-form-clause-err c =
    let p = err_from_is_err_and c.from_residual.result c.from_residual.ensures.1 in
    rw (p.1, p.2) (reason_to _ _ (λ w e. sym (c.loop-binder.invariant (suc (c.args.binders - (c.loop-binder._binder + 1))) (omega (arith, c.loop-binder-test.true)))
    ∙ none_taken (context_in c.args.ctx.now) (c.args.binders - (c.loop-binder._binder + 1)) (cursor_at c.args.proof.now c.loop-binder.now) c.loop-binder.forms w e) _ c.in_err-form.ensures.err)

pub loop-binder-preserved : goal.loop-binder-preserved
loop-binder-preserved c = λ rest eq.
    let ctx = context_in c.args.ctx.now in
    ap (λ (fs : List LinearForm). behind fs (take_instances ctx rest (record { proof = proof_of c.args.proof.now; instance = c.in_ok-one_more.field-0; cert = c.loop-binder.now.cert }))) c.in_ok-push.ensures.ok
    ∙ ap (λ (n : ℕ). behind (c.loop-binder.forms ++ c.in_ok-form.form ∷ []) (take_instances ctx rest (record { proof = proof_of c.args.proof.now; instance = n; cert = c.loop-binder.now.cert }))) c.in_ok-one_more.ensures
    ∙ sym (one_taken ctx rest (cursor_at c.args.proof.now c.loop-binder.now) c.loop-binder.forms c.in_ok-form.form c.in_ok-form.ensures.ok)
    ∙ c.loop-binder.invariant (suc rest) (omega (arith, eq))

pub returns-clause-ok : goal.returns-clause-ok
returns-clause-ok c =
    sym (c.loop-binder.invariant 0 (omega (arith, c.loop-binder-test.false, c.loop-binder.auto._binder-end)))
    ∙ ap (λ (fs : List LinearForm). supplied fs (cursor_at c.args.proof.now c.loop-binder.now)) (append-nil c.loop-binder.forms)
