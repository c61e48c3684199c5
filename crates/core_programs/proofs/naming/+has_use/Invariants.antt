use Rattle.std.proofs.Common.{◌≡◌, ◌+◌, ◌*◌, ◌<◌, ◌≤◌, length, drop}
use Rattle.std.specs.List.{list_any}
use Rattle.core_language.specs.Configurations.{names}
use Rattle.core_language.specs.Names.{Ident}
use Rattle.core_programs.specs.Bodies.{rest}
use Rattle.core_programs.specs.Following.{size}
use Rattle.core_programs.specs.Formed.{nexts}
use Rattle.core_programs.specs.Uses.{uses_from, later_nexts}
use Rattle.core_programs.proofs.naming.+has_use.Given as goal

abbrev pub decreases-has_use : goal.decreases-has_use
decreases-has_use l = 2 * size (rest l.parts.now.nodes l.number) + 1

abbrev pub decreases-has_later_use : goal.decreases-has_later_use
decreases-has_later_use l = 2 * size (rest l.parts.now.nodes l.number)

abbrev pub invariant-has_use-nodes : goal.invariant-has_use-nodes
invariant-has_use-nodes l =
    (l.at < length l.parts.nodes)
    × ((x : Ident) → l.numbers ≡ uses_from 0 l.parts.nodes x → names (rest l.parts.nodes l.at) x ≡ names (rest l.parts.nodes l.fn.number) x)
    × (size (rest l.parts.nodes l.at) ≤ size (rest l.parts.nodes l.fn.number))

abbrev pub decreases-has_use-nodes : goal.decreases-has_use-nodes
decreases-has_use-nodes l = size (rest l.parts.nodes l.at)

abbrev pub invariant-has_later_use-turns : goal.invariant-has_later_use-turns
invariant-has_later_use-turns l =
    (x : Ident) → l.numbers ≡ uses_from 0 l.parts.nodes x
    → list_any (λ n. names (rest l.parts.nodes n) x) (drop l.turn (nexts l.node)) ≡ list_any (λ n. names (rest l.parts.nodes n) x) (later_nexts l.parts.nodes l.number)
