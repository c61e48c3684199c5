use Rattle.std.proofs.Common.{◌≡◌, ◌*◌, ◌^◌, map, take, length}
use Rattle.chan_syntax.specs.Reading.{part_of}
use Rattle.linear_forms.specs.Terms.{normal_form}
use Rattle.outline_rules.specs.Naming.{int_names_of}
use Rattle.outline_rules.specs.Sums.{IsWithin, row_in}
use Rattle.outline_rules.proofs.sums.sums_of.Given as goal

abbrev pub invariant-loop-part : goal.invariant-loop-part
invariant-loop-part l = record {
  form : row_in l.sums ≡ normal_form (int_names_of l.names) (take l.part-index (map part_of l.parts));
  within : IsWithin (length l.names.ints) (l.part-index * 2 ^ 185) l.sums;
}
