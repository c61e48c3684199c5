use Rattle.std.proofs.Common.{◌≡◌}
use Rattle.core_programs.specs.Bodies.{rest}
use Rattle.outline_language.specs.Outlined.{least}
use Rattle.outline_walk.specs.Refusals.{found, IsPlaced}
use Rattle.outline_walk.specs.Walking.{faults_of, Walking, left_size}
use Rattle.outline_walk.proofs.walking.walk.Given as goal

abbrev pub invariant-walk : goal.invariant-walk
invariant-walk g l =
    let s = g.C.Outlining.setting l.initial.outline in
    record {
      setting : g.C.Outlining.setting l.outline ≡ s;
      walking : Walking s (least (found l.initial.first) (faults_of s (g.C.Outlining.context l.initial.outline) (rest s.parts.nodes l.fn.start))) (found l.first) (g.C.Outlining.context l.outline) (g.C.Outlining.saved l.outline) l.at l.later.items;
      placed : IsPlaced l.program.nodes l.initial.first → IsPlaced l.program.nodes l.first;
    }

abbrev pub decreases-walk : goal.decreases-walk
decreases-walk g l = left_size (g.C.Outlining.setting l.initial.outline) l.at l.later.items
