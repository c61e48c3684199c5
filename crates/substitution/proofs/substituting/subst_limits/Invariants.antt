use Rattle.std.proofs.Common.{map, flat_map, take}
use Rattle.chan_syntax.specs.Reading.{limit_of}
use Rattle.linear_forms.specs.Substitution.{Each, IsNormalPut, IsLimitLike}
use Rattle.substitution.specs.Places.{IsPlaced, pieces_of_limit}
use Rattle.substitution.specs.Scopes.{put_in, before_of, after_of}
use Rattle.substitution.proofs.substituting.subst_limits.Given as goal

abbrev pub invariant-loop-limit : goal.invariant-loop-limit
invariant-loop-limit l = record {
  like : Each (IsLimitLike (IsNormalPut (map put_in l.put)) (before_of l.scope) (after_of l.scope)) (map limit_of (take l.limit-index l.limits)) (map limit_of l.all);
  places : Each (IsPlaced l.put) (flat_map (pieces_of_limit (before_of l.scope)) (take l.limit-index l.limits)) (flat_map (pieces_of_limit (after_of l.scope)) l.all);
}
