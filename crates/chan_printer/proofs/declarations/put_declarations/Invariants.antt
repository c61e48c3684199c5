use Rattle.std.proofs.Common.{◌≡◌, ◌++◌, drop}
use Rattle.surface_spelling.specs.Layout.{bytes}
use Rattle.surface_spelling.specs.Spelling.{declarations}
use Rattle.chan_printer.proofs.declarations.put_declarations.Given as goal

abbrev pub invariant-loop-decl : goal.invariant-loop-decl
invariant-loop-decl l = l.text.items ++ bytes (declarations (drop l.decl-index l.decls)) ≡ l.initial.text.items ++ bytes (declarations l.decls)
