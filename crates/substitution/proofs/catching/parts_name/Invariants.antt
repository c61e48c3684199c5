use Rattle.std.proofs.Common.{◌≡◌, map, drop}
use Rattle.std.specs.List.{list_any}
use Rattle.core_language.specs.Names.{same}
use Rattle.chan_syntax.specs.Reading.{part_of}
use Rattle.linear_forms.specs.Normal.{names_of}
use Rattle.substitution.proofs.catching.parts_name.Given as goal

abbrev pub invariant-loop-part : goal.invariant-loop-part
invariant-loop-part l = list_any (λ x. same x l.name) (names_of (map part_of (drop l.part-index l.parts))) ≡ list_any (λ x. same x l.name) (names_of (map part_of l.parts))
