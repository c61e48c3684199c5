use Rattle.std.proofs.Common.{◌≡◌, ◌*◌, ◌^◌, ◌+ℤ◌, drop, map}
use Rattle.linear_forms.specs.NormalTerms.{count_of, bare_of}
use Rattle.core_language.specs.Names.{Ident}
use Rattle.chan_syntax.specs.Reading.{part_of}
use Rattle.narrow_terms.specs.Sums.{count_in, IsWithin}
use Rattle.narrow_terms.proofs.narrowness.sums_of.Given as goal

abbrev pub invariant-loop-part : goal.invariant-loop-part
invariant-loop-part l =
    ((x : Ident) → count_in l.sums x +ℤ count_of x (map part_of (drop l.part-index l.parts)) ≡ count_of x (map part_of l.parts))
    × (l.sums.constant +ℤ bare_of (map part_of (drop l.part-index l.parts)) ≡ bare_of (map part_of l.parts))
    × IsWithin (l.part-index * 2 ^ 63) l.sums
