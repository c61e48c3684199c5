use Rattle.std.proofs.Common.{◌≡◌, ◌++◌, drop}
use Rattle.std.specs.List.{flat_map}
use Rattle.chan_base.specs.Names.{part_text}
use Rattle.chan_base.proofs.names.add_parts.Given as goal

abbrev pub invariant-loop-part : goal.invariant-loop-part
invariant-loop-part l = l.text.items ++ flat_map part_text (drop l.part-index l.parts) ≡ l.initial.text.items ++ flat_map part_text l.parts
