use Rattle.std.proofs.Common.{◌≡◌, ◌++◌, drop}
use Rattle.chanl_lines.specs.Lines.{names_text}
use Rattle.chanl_lines.proofs.add_names.Given as goal

abbrev pub invariant-loop-name : goal.invariant-loop-name
invariant-loop-name l = l.text.items ++ names_text (drop l.name-index l.names) ≡ l.initial.text.items ++ names_text l.names
