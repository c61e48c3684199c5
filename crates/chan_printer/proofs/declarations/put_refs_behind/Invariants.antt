use Rattle.std.proofs.Common.{◌≡◌, ◌++◌, drop}
use Rattle.surface_spelling.specs.Layout.{bytes}
use Rattle.surface_spelling.specs.Spelling.{refs_behind}
use Rattle.chan_printer.proofs.declarations.put_refs_behind.Given as goal

abbrev pub invariant-loop-reference : goal.invariant-loop-reference
invariant-loop-reference l = l.text.items ++ bytes (refs_behind (drop l.reference-index l.refs)) ≡ l.initial.text.items ++ bytes (refs_behind l.refs)
