use Rattle.std.proofs.Common.{◌≡◌, [], ◌∷◌, ◌++◌}
use Rattle.std.specs.List.{repeat}
use Rattle.operand_printer.proofs.words.put_spaces.Given as goal

abbrev pub invariant-loop-turn : goal.invariant-loop-turn
invariant-loop-turn l = l.text.items ≡ l.initial.text.items ++ repeat l._turn (32 ∷ [])
