use Rattle.std.proofs.Common.{◌≡◌, drop, map}
use Rattle.chan_syntax.specs.Reading.{part_of}
use Rattle.narrow_terms.specs.Numbers.{are_narrow}
use Rattle.narrow_terms.specs.Sums.{count_in}
use Rattle.narrow_terms.proofs.narrowness.are_narrow.Given as goal

abbrev pub invariant-loop-part : goal.invariant-loop-part
invariant-loop-part l = are_narrow (count_in l.sums) (map part_of (drop l.part-index l.parts)) ≡ are_narrow (count_in l.sums) (map part_of l.parts)
