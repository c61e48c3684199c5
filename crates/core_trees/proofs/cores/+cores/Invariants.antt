use Rattle.std.proofs.Common.{◌≡◌, drop}
use Rattle.std.specs.List.{list_all}
use Rattle.core_trees.specs.Core.{is_core_arm}
use Rattle.core_trees.proofs.cores.+cores.Given as goal

abbrev pub invariant-are_core_arms-loop-arm : goal.invariant-are_core_arms-loop-arm
invariant-are_core_arms-loop-arm l = list_all is_core_arm (drop l.arm-index l.arms) ≡ list_all is_core_arm l.arms
