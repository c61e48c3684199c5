use Rattle.std.proofs.Common.{rules, length, take, map, refl, sym, ◌∙◌, ap}
use Rattle.std.proofs.lemmas.Result.{err_from_is_err_and}
use Rattle.chan_syntax.specs.Reading.{bound_of, ref_of, shape_of, res_of}
use Rattle.chan_syntax.specs.declared.resources.Shape.{the_lemmas}
use Rattle.chan_syntax.specs.declared.resources.Shape.TheVariants as shape
use Rattle.linear_forms.specs.Substitution.{IsRenamed, IsNormalPut, AllFit, IsResLike, terms_of_res}
use Rattle.linear_forms.specs.Replacing.{IsShortRes, AreSafe}
use Rattle.substitution.specs.Scopes.{put_in, before_of, after_of}
use Rattle.chan_syntax.proofs.Rows.{shape_pair as pair_of, shape_sum as sum_of}
use Rattle.substitution.proofs.Inside.{scope_safe, limits_ready, shape_safe, limits_too_large, shape_too_large, res_like, held_by_joined, made_of_group}
use Rattle.substitution.specs.Places.{IsPlaced, pieces_of_res}
use Rattle.substitution.proofs.Pieces.{placed_same, pair_placed, sum_placed, res_placed, each_flat_next}
use Rattle.substitution.proofs.Forms.{pair_of_two, first_safe, second_safe, first_too_large, second_too_large, end_ready, like_same, pair_like}
use Rattle.substitution.proofs.Listed.{sum_safe, sum_short, sum_too_large, sum_like}
use Rattle.substitution.proofs.ReadyTerms.{all_at_map}
use Rattle.substitution.proofs.EachNext.{each_next}
use Rattle.substitution.proofs.substituting.+substituting.Goals as goal

pub subst_res-subst_bound-requires-clause-held : goal.subst_res-subst_bound-requires-clause-held
subst_res-subst_bound-requires-clause-held t c = rw c.as_slice.ensures (held_by_joined c.args.scope.now c.in_ok-group.group c.in_ok-scope.scope (bound_of c.args.res.now.bound) c.in_ok-group.ensures.before c.in_ok-scope.ensures)

pub subst_res-subst_bound-requires-clause-ready : goal.subst_res-subst_bound-requires-clause-ready
subst_res-subst_bound-requires-clause-ready t c =
    let safe = scope_safe c.args.longest (map put_in c.args.put.now) c.args.scope.now c.in_ok-group.group c.in_ok-scope.scope (bound_of c.args.res.now.bound) (shape_of c.args.res.now.shape) c.in_ok-group.ensures.before c.in_ok-scope.ensures c.in_ok-group.ensures.safe c.requires.safe in
    rw c.as_slice.ensures (limits_ready c.args.longest (map put_in c.args.put.now) c.args.scope.now c.in_ok-group.group c.in_ok-scope.scope (bound_of c.args.res.now.bound) (shape_of c.args.res.now.shape) c.in_ok-group.ensures.before c.in_ok-scope.ensures safe c.requires.put_short c.requires.short.1)

pub subst_res-returns-in_err-bound-clause-err : goal.subst_res-returns-in_err-bound-clause-err
subst_res-returns-in_err-bound-clause-err t c =
    let p = err_from_is_err_and c.from_residual-in_err-bound.result c.from_residual-in_err-bound.ensures.1 in
    let none = rw c.as_slice.ensures at c.in_err-bound.ensures.err in
    rw (p.1, p.2) (λ e. limits_too_large c.args.longest (map put_in c.args.put.now) c.args.scope.now c.in_ok-group.group c.in_ok-scope.scope (bound_of c.args.res.now.bound) (shape_of c.args.res.now.shape) c.in_ok-group.ensures.before c.in_ok-scope.ensures (none e))

pub subst_res-subst_shape-requires : goal.subst_res-subst_shape-requires
subst_res-subst_shape-requires t c =
    let safe = scope_safe c.args.longest (map put_in c.args.put.now) c.args.scope.now c.in_ok-group.group c.in_ok-scope.scope (bound_of c.args.res.now.bound) (shape_of c.args.res.now.shape) c.in_ok-group.ensures.before c.in_ok-scope.ensures c.in_ok-group.ensures.safe c.requires.safe in
    (search (rules, the_lemmas), (shape_safe c.args.longest (map put_in c.args.put.now) c.args.scope.now c.in_ok-group.group c.in_ok-scope.scope (bound_of c.args.res.now.bound) (shape_of c.args.res.now.shape) c.in_ok-group.ensures.before c.in_ok-scope.ensures safe, (c.requires.short.2, c.requires.put_short)))

pub subst_res-returns-in_err-shape-clause-err : goal.subst_res-returns-in_err-shape-clause-err
subst_res-returns-in_err-shape-clause-err t c =
    let p = err_from_is_err_and c.from_residual-in_err-shape.result c.from_residual-in_err-shape.ensures.1 in
    rw (p.1, p.2) (λ e. shape_too_large c.args.longest (map put_in c.args.put.now) c.args.scope.now c.in_ok-group.group c.in_ok-scope.scope (bound_of c.args.res.now.bound) (shape_of c.args.res.now.shape) c.in_ok-group.ensures.before c.in_ok-scope.ensures (c.in_err-shape.ensures.err e))

pub subst_res-returns-clause-ok : goal.subst_res-returns-clause-ok
subst_res-returns-clause-ok t c =
    let made = c.in_ok-bound.ensures.names ∙ ap (λ l. after_of (take (length c.args.res.now.bound.names) l)) c.as_slice.ensures ∙ made_of_group c.args.scope.now c.in_ok-group.group c.in_ok-scope.scope (bound_of c.args.res.now.bound) c.in_ok-group.ensures.before c.in_ok-scope.ensures in
    let safe = scope_safe c.args.longest (map put_in c.args.put.now) c.args.scope.now c.in_ok-group.group c.in_ok-scope.scope (bound_of c.args.res.now.bound) (shape_of c.args.res.now.shape) c.in_ok-group.ensures.before c.in_ok-scope.ensures c.in_ok-group.ensures.safe c.requires.safe in
    let limits = rw c.as_slice.ensures at c.in_ok-bound.ensures.ok in
    res_like c.args.longest (map put_in c.args.put.now) c.args.scope.now c.in_ok-group.group c.in_ok-scope.scope (bound_of c.args.res.now.bound) (shape_of c.args.res.now.shape) c.in_ok-group.ensures.before c.in_ok-scope.ensures
    (bound_of c.in_ok-bound.bound) (shape_of c.in_ok-shape.shape) made safe c.requires.short c.requires.put_short c.in_ok-group.ensures.longer limits c.in_ok-shape.ensures.ok

pub subst_res-returns-clause-places : goal.subst_res-returns-clause-places
subst_res-returns-clause-places t c =
    let made = c.in_ok-bound.ensures.names ∙ ap (λ l. after_of (take (length c.args.res.now.bound.names) l)) c.as_slice.ensures ∙ made_of_group c.args.scope.now c.in_ok-group.group c.in_ok-scope.scope (bound_of c.args.res.now.bound) c.in_ok-group.ensures.before c.in_ok-scope.ensures in
    let limits = rw c.as_slice.ensures at c.in_ok-bound.ensures.places in
    res_placed c.args.put.now c.args.scope.now c.in_ok-group.group c.in_ok-scope.scope c.args.res.now.bound c.in_ok-bound.bound c.args.res.now.shape c.in_ok-shape.shape c.in_ok-group.ensures.before c.in_ok-scope.ensures made c.in_ok-bound.ensures.spans limits c.in_ok-shape.ensures.places

pub subst_shape-subst_end-requires : goal.subst_shape-subst_end-requires
subst_shape-subst_end-requires t c =
    rw c.as_slice-in-End.ensures (end_ready c.args.longest (map put_in c.args.put.now) (before_of c.args.scope.now) (after_of c.args.scope.now) (shape_of c.args.shape.now) (ref_of c.in-End.end) (ap shape_of c.in-End.is) c.requires.put_short c.requires.safe c.requires.short)

pub subst_shape-returns-in-End-clause-err : goal.subst_shape-returns-in-End-clause-err
subst_shape-returns-in-End-clause-err t c = rw (ap shape_of c.in-End.is) (rw c.as_slice-in-End.ensures at c.subst_end.ensures.err)

pub subst_shape-subst_boxed-requires : goal.subst_shape-subst_boxed-requires
subst_shape-subst_boxed-requires t c =
    let two = pair_of_two (shape_of c.args.shape.now) (res_of c.in-Pair.first) (res_of c.in-Pair.second) (ap shape_of c.in-Pair.is ∙ pair_of c.in-Pair.first c.in-Pair.second) in
    (search (rules, the_lemmas), (rw c.get.ensures (first_safe c.args.longest (map put_in c.args.put.now) (before_of c.args.scope.now) (after_of c.args.scope.now) (shape_of c.args.shape.now) (res_of c.in-Pair.first) (res_of c.in-Pair.second) two c.requires.safe), (rw c.get.ensures (two.first_short c.args.longest c.requires.short), c.requires.put_short)))

pub subst_shape-returns-in_err-first-in-Pair-clause-err : goal.subst_shape-returns-in_err-first-in-Pair-clause-err
subst_shape-returns-in_err-first-in-Pair-clause-err t c =
    let two = pair_of_two (shape_of c.args.shape.now) (res_of c.in-Pair.first) (res_of c.in-Pair.second) (ap shape_of c.in-Pair.is ∙ pair_of c.in-Pair.first c.in-Pair.second) in
    let p = err_from_is_err_and c.from_residual.result c.from_residual.ensures.1 in
    let none = rw c.get.ensures at c.in_err-first-in-Pair.ensures.err in
    rw (p.1, p.2) (λ e. first_too_large (map put_in c.args.put.now) (before_of c.args.scope.now) (shape_of c.args.shape.now) (res_of c.in-Pair.first) (res_of c.in-Pair.second) two (none e))

pub subst_shape-subst_boxed-requires-in-Pair : goal.subst_shape-subst_boxed-requires-in-Pair
subst_shape-subst_boxed-requires-in-Pair t c =
    let two = pair_of_two (shape_of c.args.shape.now) (res_of c.in-Pair.first) (res_of c.in-Pair.second) (ap shape_of c.in-Pair.is ∙ pair_of c.in-Pair.first c.in-Pair.second) in
    (search (rules, the_lemmas), (rw c.get-in-Pair.ensures (second_safe c.args.longest (map put_in c.args.put.now) (before_of c.args.scope.now) (after_of c.args.scope.now) (shape_of c.args.shape.now) (res_of c.in-Pair.first) (res_of c.in-Pair.second) two c.requires.safe), (rw c.get-in-Pair.ensures (two.second_short c.args.longest c.requires.short), c.requires.put_short)))

pub subst_shape-returns-in_err-second-in-Pair-clause-err : goal.subst_shape-returns-in_err-second-in-Pair-clause-err
subst_shape-returns-in_err-second-in-Pair-clause-err t c =
    let two = pair_of_two (shape_of c.args.shape.now) (res_of c.in-Pair.first) (res_of c.in-Pair.second) (ap shape_of c.in-Pair.is ∙ pair_of c.in-Pair.first c.in-Pair.second) in
    let p = err_from_is_err_and c.from_residual-in_err-second-in-Pair.result c.from_residual-in_err-second-in-Pair.ensures.1 in
    let none = rw c.get-in-Pair.ensures at c.in_err-second-in-Pair.ensures.err in
    rw (p.1, p.2) (λ e. second_too_large (map put_in c.args.put.now) (before_of c.args.scope.now) (shape_of c.args.shape.now) (res_of c.in-Pair.first) (res_of c.in-Pair.second) two (none e))

pub subst_shape-returns-in_ok-second-in-Pair-clause-ok : goal.subst_shape-returns-in_ok-second-in-Pair-clause-ok
subst_shape-returns-in_ok-second-in-Pair-clause-ok t c =
    let is = ap shape_of c.in-Pair.is ∙ pair_of c.in-Pair.first c.in-Pair.second in
    let first = like_same (IsRenamed (map put_in c.args.put.now)) (IsNormalPut (map put_in c.args.put.now)) (before_of c.args.scope.now) (after_of c.args.scope.now) c.get.result.now c.in-Pair.first c.in_ok-first-in-Pair.first c.in_ok-first-in-Pair.first c.get.ensures refl c.in_ok-first-in-Pair.ensures.ok in
    let second = like_same (IsRenamed (map put_in c.args.put.now)) (IsNormalPut (map put_in c.args.put.now)) (before_of c.args.scope.now) (after_of c.args.scope.now) c.get-in-Pair.result.now c.in-Pair.second c.in_ok-second-in-Pair.second c.in_ok-second-in-Pair.second c.get-in-Pair.ensures refl c.in_ok-second-in-Pair.ensures.ok in
    pair_like (IsRenamed (map put_in c.args.put.now)) (IsNormalPut (map put_in c.args.put.now)) (before_of c.args.scope.now) (after_of c.args.scope.now) (shape_of c.args.shape.now) (shape_of (shape.Pair c.in_ok-first-in-Pair.first c.in_ok-second-in-Pair.second)) (res_of c.in-Pair.first) (res_of c.in-Pair.second) (res_of c.in_ok-first-in-Pair.first) (res_of c.in_ok-second-in-Pair.second) is (pair_of c.in_ok-first-in-Pair.first c.in_ok-second-in-Pair.second) first second

pub subst_shape-returns-in_ok-second-in-Pair-clause-places : goal.subst_shape-returns-in_ok-second-in-Pair-clause-places
subst_shape-returns-in_ok-second-in-Pair-clause-places t c =
    let first = placed_same c.args.put.now (before_of c.args.scope.now) (after_of c.args.scope.now) c.get.result.now c.in-Pair.first c.in_ok-first-in-Pair.first c.in_ok-first-in-Pair.first c.get.ensures refl c.in_ok-first-in-Pair.ensures.places in
    let second = placed_same c.args.put.now (before_of c.args.scope.now) (after_of c.args.scope.now) c.get-in-Pair.result.now c.in-Pair.second c.in_ok-second-in-Pair.second c.in_ok-second-in-Pair.second c.get-in-Pair.ensures refl c.in_ok-second-in-Pair.ensures.places in
    pair_placed c.args.put.now (before_of c.args.scope.now) (after_of c.args.scope.now) c.args.shape.now _ c.in-Pair.first c.in-Pair.second c.in_ok-first-in-Pair.first c.in_ok-second-in-Pair.second c.in-Pair.is refl first second

pub subst_shape-subst_resources-requires : goal.subst_shape-subst_resources-requires
subst_shape-subst_resources-requires t c =
    let is = ap shape_of c.in-Sum.is ∙ sum_of c.in-Sum.arms in
    (search (rules, the_lemmas), (rw c.as_slice-in-Sum.ensures (sum_safe c.args.longest (map put_in c.args.put.now) (before_of c.args.scope.now) (after_of c.args.scope.now) (shape_of c.args.shape.now) (map res_of c.in-Sum.arms) is c.requires.safe), (rw c.as_slice-in-Sum.ensures (sum_short c.args.longest (shape_of c.args.shape.now) (map res_of c.in-Sum.arms) is c.requires.short), c.requires.put_short)))

pub subst_shape-returns-in_err-arms-in-Sum-clause-err : goal.subst_shape-returns-in_err-arms-in-Sum-clause-err
subst_shape-returns-in_err-arms-in-Sum-clause-err t c =
    let p = err_from_is_err_and c.from_residual-in_err-arms-in-Sum.result c.from_residual-in_err-arms-in-Sum.ensures.1 in
    let none = rw c.as_slice-in-Sum.ensures at c.in_err-arms-in-Sum.ensures.err in
    rw (p.1, p.2) (λ e. sum_too_large (map put_in c.args.put.now) (before_of c.args.scope.now) (shape_of c.args.shape.now) (map res_of c.in-Sum.arms) (ap shape_of c.in-Sum.is ∙ sum_of c.in-Sum.arms) (none e))

pub subst_shape-returns-in_ok-arms-in-Sum-clause-ok : goal.subst_shape-returns-in_ok-arms-in-Sum-clause-ok
subst_shape-returns-in_ok-arms-in-Sum-clause-ok t c =
    sum_like (IsRenamed (map put_in c.args.put.now)) (IsNormalPut (map put_in c.args.put.now)) (before_of c.args.scope.now) (after_of c.args.scope.now) (shape_of c.args.shape.now) (shape_of (shape.Sum c.in_ok-arms-in-Sum.arms)) (map res_of c.in-Sum.arms) (map res_of c.in_ok-arms-in-Sum.arms) (ap shape_of c.in-Sum.is ∙ sum_of c.in-Sum.arms) (sum_of c.in_ok-arms-in-Sum.arms) (rw c.as_slice-in-Sum.ensures at c.in_ok-arms-in-Sum.ensures.ok)

pub subst_shape-returns-in_ok-arms-in-Sum-clause-places : goal.subst_shape-returns-in_ok-arms-in-Sum-clause-places
subst_shape-returns-in_ok-arms-in-Sum-clause-places t c =
    sum_placed c.args.put.now (before_of c.args.scope.now) (after_of c.args.scope.now) c.args.shape.now _ c.in-Sum.arms c.in_ok-arms-in-Sum.arms c.in-Sum.is refl (rw c.as_slice-in-Sum.ensures at c.in_ok-arms-in-Sum.ensures.places)

pub subst_resources-subst_res-requires : goal.subst_resources-subst_res-requires
subst_resources-subst_res-requires t c = (
  search (rules, the_lemmas),
  (
    all_at_map (λ r. AreSafe c.args.longest (map put_in c.args.put.now) (terms_of_res (before_of c.args.scope.now) r) 0 (before_of c.args.scope.now) (after_of c.args.scope.now)) res_of c.args.resources.now c.loop-resource.resource-index c.resource-item.result c.requires.safe c.loop-resource-test.true (sym c.resource-item.is),
    (all_at_map (IsShortRes c.args.longest) res_of c.args.resources.now c.loop-resource.resource-index c.resource-item.result c.requires.short c.loop-resource-test.true (sym c.resource-item.is), c.requires.put_short),
  ),
)

pub subst_resources-returns-in_err-subst_res-clause-err : goal.subst_resources-returns-in_err-subst_res-clause-err
subst_resources-returns-in_err-subst_res-clause-err t c =
    let p = err_from_is_err_and c.from_residual.result c.from_residual.ensures.1 in
    rw (p.1, p.2) (λ e all. c.in_err-subst_res.ensures.err e (all_at_map (λ r. AllFit (map put_in c.args.put.now) (terms_of_res (before_of c.args.scope.now) r)) res_of c.args.resources.now c.loop-resource.resource-index c.resource-item.result all c.loop-resource-test.true (sym c.resource-item.is)))

pub subst_resources-loop-resource-preserved : goal.subst_resources-loop-resource-preserved
subst_resources-loop-resource-preserved t c = record {
  like = rw c.in_ok-push.ensures.ok (each_next (IsResLike (IsRenamed (map put_in c.args.put.now)) (IsNormalPut (map put_in c.args.put.now)) (before_of c.args.scope.now) (after_of c.args.scope.now)) res_of res_of c.args.resources.now c.loop-resource.resource-index c.resource-item.result c.loop-resource.all _ c.loop-resource-test.true (sym c.resource-item.is) c.loop-resource.invariant.like c.in_ok-subst_res.ensures.ok);
  places = rw c.in_ok-push.ensures.ok (each_flat_next (IsPlaced c.args.put.now) (pieces_of_res (before_of c.args.scope.now)) (pieces_of_res (after_of c.args.scope.now)) c.args.resources.now c.loop-resource.resource-index c.resource-item.result c.loop-resource.all _ c.loop-resource-test.true (sym c.resource-item.is) c.loop-resource.invariant.places c.in_ok-subst_res.ensures.places);
}
