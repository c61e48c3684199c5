use Rattle.std.proofs.Common.{◌≡◌, ◌++◌, drop}
use Rattle.chanl_lines.specs.Lines.{idents_text}
use Rattle.chanl_lines.proofs.add_idents.Given as goal

abbrev pub invariant-loop-name : goal.invariant-loop-name
invariant-loop-name l = l.text.items ++ idents_text (drop l.name-index l.names) ≡ l.initial.text.items ++ idents_text l.names
