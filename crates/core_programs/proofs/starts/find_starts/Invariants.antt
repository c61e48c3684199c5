use Rattle.std.proofs.Common.{◌≡◌, ℕ, ◌<◌, length, slice_get, Some}
use Rattle.core_programs.specs.declared.nodes.Node.{Node}
use Rattle.core_programs.specs.Uses.{BeginsAt}
use Rattle.core_programs.proofs.starts.find_starts.Given as goal

abbrev pub invariant-nodes : goal.invariant-nodes
invariant-nodes l =
    (l.number ≡ l.node-index) × (length l.starts.items ≡ l.number)
    × ((n : ℕ) (x : Node) → n < l.number → slice_get l.fn.nodes n ≡ Some x → BeginsAt l.starts.items n x)
