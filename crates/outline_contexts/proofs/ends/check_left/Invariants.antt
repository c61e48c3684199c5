use Rattle.std.proofs.Common.{◌≡◌, drop}
use Rattle.outline_language.specs.Contexts.{nothing_left}
use Rattle.outline_contexts.specs.Kept.{entries_by}
use Rattle.outline_contexts.proofs.ends.check_left.Given as goal

abbrev pub invariant-loop-index : goal.invariant-loop-index
invariant-loop-index l =
    nothing_left (entries_by (drop l.index l.held) (drop l.index l.names) (drop l.index l.shapes)) ≡ nothing_left (entries_by l.held l.names l.shapes)
