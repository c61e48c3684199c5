use Rattle.std.proofs.Common.{◌≡◌, ◌++◌, drop}
use Rattle.surface_spelling.specs.Layout.{bytes, behind_commas}
use Rattle.operand_printer.proofs.words.put_behind_commas.Given as goal

abbrev pub invariant-loop-item : goal.invariant-loop-item
invariant-loop-item g l =
    l.text.items ++ bytes (behind_commas g.T.Spell.pieces (drop l.item-index l.items)) ≡ l.initial.text.items ++ bytes (behind_commas g.T.Spell.pieces l.items)
