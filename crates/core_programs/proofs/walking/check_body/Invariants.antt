use Rattle.std.proofs.Common.{◌+◌}
use Rattle.form_faults.specs.Faults.{least}
use Rattle.core_programs.specs.Trees.{tree}
use Rattle.core_programs.specs.Passes.{body_faults}
use Rattle.core_programs.proofs.Walks.{at_number, Walking, size, later_size}
use Rattle.core_programs.proofs.walking.check_body.Given as goal

abbrev pub invariant-walk : goal.invariant-walk
invariant-walk l =
    Walking l.protos l.funcs l.parts (least l.initial.first (body_faults l.protos l.funcs l.initial.scope (tree l.parts.nodes l.fn.start))) l.first l.scope l.at l.later.items

abbrev pub decreases-walk : goal.decreases-walk
decreases-walk l = size (at_number l.at (tree l.parts.nodes)) + later_size l.parts.nodes l.later.items
