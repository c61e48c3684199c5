use Rattle.std.proofs.Common.{◌+◌, ◌*◌, ◌^◌, map, sym, subst, arith}
use Rattle.chan_syntax.specs.Reading.{part_of}
use Rattle.linear_forms.specs.Replacing.{replaced_part}
use Rattle.substitution.specs.Scopes.{put_in, before_of, after_of}
use Rattle.substitution.specs.Places.{part_put}
use Rattle.substitution.specs.Sums.{HasSums, HasPlaces}
use Rattle.substitution.proofs.Added.{looser}
use Rattle.substitution.proofs.Lists.{flat_map_more, flat_taken}
use Rattle.substitution.proofs.putting.sums_of.Goals as goal

pub loop-part-preserved : goal.loop-part-preserved
loop-part-preserved c = record {
  sums = subst (HasSums c.add_replaced.new.sums) (sym (flat_map_more (replaced_part (before_of c.args.scope.now) (after_of c.args.scope.now) (map put_in c.args.put.now)) part_of c.args.parts.now c.loop-part.part-index c.part-item.result c.loop-part-test.true)) (rw (sym c.part-item.is) (c.in_ok-add_replaced.ensures.sums _ c.loop-part.invariant.sums));
  places = subst (HasPlaces c.add_replaced.new.sums) (sym (flat_taken (part_put (before_of c.args.scope.now) (after_of c.args.scope.now) c.args.put.now) c.args.parts.now c.loop-part.part-index c.part-item.result c.loop-part-test.true (sym c.part-item.is))) (c.in_ok-add_replaced.ensures.places _ c.loop-part.invariant.places);
  within = looser (c.loop-part.part-index * 2 ^ 185 + 2 ^ 185) _ c.add_replaced.new.sums (omega arith) (c.in_ok-add_replaced.ensures.within (c.loop-part.part-index * 2 ^ 185) c.loop-part.invariant.within);
}
