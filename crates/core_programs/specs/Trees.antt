-- Numbered nodes as trees that keep the spans of their names.
use Rattle.std.specs.Prelude.{ℕ, zero, suc, length, List, [], ◌∷◌, Option, Some, None, slice_get}
use Rattle.core_programs.specs.declared.nodes.Node.{Node}
use Rattle.core_programs.specs.Formed.{nexts}

mutual
  -- a node with the bodies that it names; where there is no node there is nothing
  pub data Tree : Type 0 where
    Nothing : Tree
    Grown : Node → Trees → Tree

  -- the bodies in their order
  pub data Trees : Type 0 where
    NoMore : Trees
    More : Tree → Trees → Trees

-- the bodies at these numbers
abbrev pub all_grown : List ℕ → (ℕ → Tree) → Trees
all_grown [] at = NoMore
all_grown (n ∷ ns) at = More (at n) (all_grown ns at)

-- the body of a node, by the bodies at the numbers that it names
abbrev pub grown : Node → (ℕ → Tree) → Tree
grown x at = Grown x (all_grown (nexts x) at)

abbrev pub grown_at : Option Node → (ℕ → Tree) → Tree
grown_at None at = Nothing
grown_at (Some x) at = grown x at

-- the body at a number, to a depth
unfoldable pub tree_within : ℕ → List Node → ℕ → Tree
tree_within zero nodes n = Nothing
tree_within (suc depth) nodes n = grown_at (slice_get nodes n) (tree_within depth nodes)

-- the body at a number: no body is deeper than there are nodes
abbrev pub tree : List Node → ℕ → Tree
tree nodes n = tree_within (length nodes) nodes n
