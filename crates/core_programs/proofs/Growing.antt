-- Where each number is reached in one way, the tree at a number is grown of those at the numbers that follow.
use Rattle.std.proofs.Common.{◌≡◌, ℕ, zero, suc, ◌<◌, ◌≤◌, List, [], ◌∷◌, length, Some, slice_get, refl, sym, ap, ◌∙◌, subst, arith}
use Rattle.core_programs.specs.declared.nodes.Node.{Node}
use Rattle.core_programs.specs.declared.nodes.Parts.{Parts}
use Rattle.core_programs.specs.Formed.{nexts, IsNumbered}
use Rattle.core_programs.specs.Trees.{Tree, Grown, More, all_grown, grown, grown_at, tree_within, tree}
use Rattle.core_programs.proofs.Forests.{Ends, ends, nothing_distinct}

all_same : (ns : List ℕ) (f g : ℕ → Tree) → ((k m : ℕ) → slice_get ns k ≡ Some m → f m ≡ g m) → all_grown ns f ≡ all_grown ns g
all_same [] f g same = refl
all_same (n ∷ ns) f g same = ap (λ t. More t (all_grown ns f)) (same 0 n refl) ∙ ap (More (g n)) (all_same ns f g (λ k m at. same (suc k) m at))

grown_same : (x : Node) (f g : ℕ → Tree) → ((k m : ℕ) → slice_get (nexts x) k ≡ Some m → f m ≡ g m) → grown x f ≡ grown x g
grown_same x f g same = ap (Grown x) (all_same (nexts x) f g same)

-- a greater depth grows the same tree
deeper : (d e : ℕ) (nodes : List Node) (n : ℕ) → Ends d nodes n → d ≤ e → tree_within e nodes n ≡ tree_within d nodes n
unfolding tree_within
deeper zero e nodes n ends le = absurd ends
deeper (suc d) zero nodes n ends le = absurd (omega arith)
deeper (suc d) (suc e) nodes n (x, is, after) le =
    ap (λ o. grown_at o (tree_within e nodes)) is
    ∙ grown_same x (tree_within e nodes) (tree_within d nodes) (λ k m at. deeper d e nodes m (after k m at) (omega arith))
    ∙ ap (λ o. grown_at o (tree_within d nodes)) (sym is)

opens : (d : ℕ) (nodes : List Node) (n : ℕ) (x : Node) → Ends d nodes n → slice_get nodes n ≡ Some x → tree_within d nodes n ≡ grown x (tree_within d nodes)
unfolding tree_within
opens zero nodes n x ends is = absurd ends
opens (suc d) nodes n x (y, has, after) is =
    let same : y ≡ x = cc in
    ap (λ o. grown_at o (tree_within d nodes)) is
    ∙ grown_same x (tree_within d nodes) (tree_within (suc d) nodes)
    (λ k m at. sym (deeper d (suc d) nodes m (after k m (subst (λ z. slice_get (nexts z) k ≡ Some m) (sym same) at)) (omega arith)))

pub tree_grown : (parts : Parts) (n : ℕ) (x : Node) → IsNumbered parts → n < length parts.nodes → slice_get parts.nodes n ≡ Some x
    → tree parts.nodes n ≡ grown x (tree parts.nodes)
tree_grown parts n x numbered lt is =
    let (f, turns, reach, unique) = numbered.once n lt in
    opens (length parts.nodes) parts.nodes n x (ends parts numbered f (length parts.nodes) n turns [] lt reach tt nothing_distinct (omega arith)) is
