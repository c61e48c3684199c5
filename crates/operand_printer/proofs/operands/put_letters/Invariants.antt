use Rattle.std.proofs.Common.{◌≡◌, ◌++◌, drop, map}
use Rattle.surface_spelling.specs.Operands.{letter_byte}
use Rattle.operand_printer.proofs.operands.put_letters.Given as goal

abbrev pub invariant-loop-letter : goal.invariant-loop-letter
invariant-loop-letter l = l.text.items ++ map letter_byte (drop l.letter-index l.letters) ≡ l.initial.text.items ++ map letter_byte l.letters
