use Rattle.std.proofs.Common.{◌≡◌, map, drop}
use Rattle.chan_syntax.specs.Reading.{part_of}
use Rattle.linear_forms.specs.Normal as form
use Rattle.outline_rules.specs.Naming.{int_names_of}
use Rattle.outline_rules.proofs.forms.first_unknown.Given as goal

abbrev pub invariant-loop-part : goal.invariant-loop-part
invariant-loop-part l = form.not_int (int_names_of l.names) (map part_of (drop l.part-index l.parts)) ≡ form.not_int (int_names_of l.names) (map part_of l.parts)
