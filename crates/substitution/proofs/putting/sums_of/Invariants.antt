use Rattle.std.proofs.Common.{◌*◌, ◌^◌, map, flat_map, take}
use Rattle.chan_syntax.specs.Reading.{part_of}
use Rattle.linear_forms.specs.Replacing.{replaced}
use Rattle.substitution.specs.Scopes.{put_in, before_of, after_of}
use Rattle.substitution.specs.Places.{part_put}
use Rattle.substitution.specs.Sums.{HasSums, HasPlaces, IsWithin}
use Rattle.substitution.proofs.putting.sums_of.Given as goal

abbrev pub invariant-loop-part : goal.invariant-loop-part
invariant-loop-part l = record {
  sums : HasSums l.sums (replaced (before_of l.scope) (after_of l.scope) (map put_in l.put) (map part_of (take l.part-index l.parts)));
  within : IsWithin (l.part-index * 2 ^ 185) l.sums;
  places : HasPlaces l.sums (flat_map (part_put (before_of l.scope) (after_of l.scope) l.put) (take l.part-index l.parts));
}
