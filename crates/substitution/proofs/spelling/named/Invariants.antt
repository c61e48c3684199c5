use Rattle.std.proofs.Common.{◌≡◌, ◌++◌, map, flat_map}
use Rattle.std.specs.List.{list_all}
use Rattle.chan_syntax.specs.Reading.{part_of}
use Rattle.linear_forms.specs.NormalTerms.{named_parts, nonzero}
use Rattle.substitution.specs.Sums.{sums_in, entry_fits, where_of, where_in}
use Rattle.substitution.proofs.spelling.named.Given as goal

abbrev pub invariant-loop-name : goal.invariant-loop-name
invariant-loop-name l =
    (map part_of l.parts ++ named_parts (nonzero (sums_in l.name-iterator)) ≡ named_parts (nonzero (sums_in l.sums.entries)))
    × (list_all entry_fits l.name-iterator ≡ list_all entry_fits l.sums.entries)
    × (map where_of l.parts ++ flat_map where_in l.name-iterator ≡ flat_map where_in l.sums.entries)
