use Rattle.std.proofs.Common.{◌≡◌, ◌++◌, if◌then◌else◌, drop}
use Rattle.surface_spelling.specs.Layout.{bytes, listed, behind_commas}
use Rattle.surface_spelling.specs.Operands.{res}
use Rattle.operand_printer.proofs.resources.+shapes.Given as goal

abbrev pub invariant-put_resources-loop-res : goal.invariant-put_resources-loop-res
invariant-put_resources-loop-res l =
    l.text.items ++ bytes (if l.behind then behind_commas res (drop l.res-index l.resources) else listed res (drop l.res-index l.resources))
    ≡ l.initial.text.items ++ bytes (listed res l.resources)
