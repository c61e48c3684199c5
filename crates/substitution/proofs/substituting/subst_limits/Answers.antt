use Rattle.std.proofs.Common.{map, sym}
use Rattle.std.proofs.lemmas.Result.{err_from_is_err_and}
use Rattle.chan_syntax.specs.Reading.{limit_of}
use Rattle.linear_forms.specs.Substitution.{IsNormalPut, IsLimitLike}
use Rattle.linear_forms.specs.Replacing.{IsReadyLimit, FitsLimit}
use Rattle.substitution.specs.Places.{IsPlaced, pieces_of_limit}
use Rattle.substitution.specs.Scopes.{put_in, before_of, after_of}
use Rattle.substitution.proofs.ReadyTerms.{all_at_map}
use Rattle.substitution.proofs.EachNext.{each_next}
use Rattle.substitution.proofs.Pieces.{each_flat_next}
use Rattle.substitution.proofs.substituting.subst_limits.Goals as goal

pub subst_limit-requires : goal.subst_limit-requires
subst_limit-requires c = all_at_map (IsReadyLimit (map put_in c.args.put.now) (before_of c.args.scope.now) (after_of c.args.scope.now)) limit_of c.args.limits.now c.loop-limit.limit-index c.limit-item.result c.requires c.loop-limit-test.true (sym c.limit-item.is)

pub returns-in_err-subst_limit-clause-err : goal.returns-in_err-subst_limit-clause-err
returns-in_err-subst_limit-clause-err c =
    let p = err_from_is_err_and c.from_residual.result c.from_residual.ensures.1 in
    rw (p.1, p.2) (λ e all. c.in_err-subst_limit.ensures.err e (all_at_map (FitsLimit (map put_in c.args.put.now) (before_of c.args.scope.now)) limit_of c.args.limits.now c.loop-limit.limit-index c.limit-item.result all c.loop-limit-test.true (sym c.limit-item.is)))

pub loop-limit-preserved : goal.loop-limit-preserved
loop-limit-preserved c = record {
  like = rw c.in_ok-push.ensures.ok (each_next (IsLimitLike (IsNormalPut (map put_in c.args.put.now)) (before_of c.args.scope.now) (after_of c.args.scope.now)) limit_of limit_of c.args.limits.now c.loop-limit.limit-index c.limit-item.result c.loop-limit.all _ c.loop-limit-test.true (sym c.limit-item.is) c.loop-limit.invariant.like c.in_ok-subst_limit.ensures.ok);
  places = rw c.in_ok-push.ensures.ok (each_flat_next (IsPlaced c.args.put.now) (pieces_of_limit (before_of c.args.scope.now)) (pieces_of_limit (after_of c.args.scope.now)) c.args.limits.now c.loop-limit.limit-index c.limit-item.result c.loop-limit.all _ c.loop-limit-test.true (sym c.limit-item.is) c.loop-limit.invariant.places c.in_ok-subst_limit.ensures.places);
}
