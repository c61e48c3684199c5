use Rattle.std.proofs.Common.{map, flat_map, take}
use Rattle.chan_syntax.specs.Reading.{res_of}
use Rattle.linear_forms.specs.Substitution.{Each, IsResLike, IsRenamed, IsNormalPut}
use Rattle.substitution.specs.Places.{IsPlaced, pieces_of_res}
use Rattle.substitution.specs.Scopes.{put_in, before_of, after_of}
use Rattle.substitution.proofs.substituting.+substituting.Given as goal

abbrev pub invariant-subst_resources-loop-resource : goal.invariant-subst_resources-loop-resource
invariant-subst_resources-loop-resource l = record {
  like : Each (IsResLike (IsRenamed (map put_in l.put)) (IsNormalPut (map put_in l.put)) (before_of l.scope) (after_of l.scope)) (map res_of (take l.resource-index l.resources)) (map res_of l.all);
  places : Each (IsPlaced l.put) (flat_map (pieces_of_res (before_of l.scope)) (take l.resource-index l.resources)) (flat_map (pieces_of_res (after_of l.scope)) l.all);
}
