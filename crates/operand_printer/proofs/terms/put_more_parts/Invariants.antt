use Rattle.std.proofs.Common.{◌≡◌, ◌++◌, drop}
use Rattle.surface_spelling.specs.Layout.{bytes}
use Rattle.surface_spelling.specs.Operands.{more_parts}
use Rattle.operand_printer.proofs.terms.put_more_parts.Given as goal

abbrev pub invariant-loop-part : goal.invariant-loop-part
invariant-loop-part l = l.text.items ++ bytes (more_parts (drop l.part-index l.parts)) ≡ l.initial.text.items ++ bytes (more_parts l.parts)
