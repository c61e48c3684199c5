use Rattle.std.proofs.Common.{map}
use Rattle.std.proofs.lemmas.Result.{err_from_is_err_and}
use Rattle.nameless_forms.specs.Limits.{limit_of}
use Rattle.outline_obligations.specs.Cursors.{cursor_at}
use Rattle.outline_obligations.proofs.Reasons.{reason_to}
use Rattle.outline_contexts.specs.Trails.{context_in}
use Rattle.outline_instances.specs.Reading.{supplied_of}
use Rattle.outline_instances.proofs.TakenInstances.{all_shown, not_all_shown}
use Rattle.outline_instances.proofs.supplying.instances.Goals as goal

pub returns-in_err-after-clause-err : goal.returns-in_err-after-clause-err
returns-in_err-after-clause-err c =
    let p = err_from_is_err_and c.from_residual-in_err-after.result c.from_residual-in_err-after.ensures.1 in
    rw (p.1, p.2) (reason_to _ _ (not_all_shown (context_in c.args.ctx.now) c.args.binders (map limit_of c.args.limits.now) (cursor_at c.args.proof.now c.args.taken) (supplied_of c.args.proof.now c.in_ok-supplied.supplied)
    c.in_ok-supplied.ensures.ok c.as_slice.result.now c.as_slice.ensures) _ c.in_err-after.ensures.err)

pub returns-clause-ok : goal.returns-clause-ok
returns-clause-ok c =
    all_shown (context_in c.args.ctx.now) c.args.binders (map limit_of c.args.limits.now) (cursor_at c.args.proof.now c.args.taken) (supplied_of c.args.proof.now c.in_ok-supplied.supplied)
    c.in_ok-supplied.ensures.ok c.as_slice.result.now c.as_slice.ensures (cursor_at c.args.proof.now c.in_ok-after.after) c.in_ok-after.ensures.ok
