use Rattle.std.proofs.Common.{◌≡◌, true, map, take, drop}
use Rattle.std.specs.List.{list_all}
use Rattle.core_trees.specs.Core.{is_core_arm}
use Rattle.core_numbering.specs.Numbering.{AreArmsAt}
use Rattle.core_numbering.specs.Rooted.{AddsAll}
use Rattle.core_numbering.proofs.numbering.+numbering.Given as goal

abbrev pub invariant-number_arms-loop-arm : goal.invariant-number_arms-loop-arm
invariant-number_arms-loop-arm l =
    (list_all is_core_arm (drop l.arm-index l.arms) ≡ true)
    × AddsAll l.initial.nodes l.nodes (map (λ a. a.next) l.numbered)
    × AreArmsAt l.nodes (take l.arm-index l.arms) l.numbered
