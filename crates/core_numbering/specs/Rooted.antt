-- For the proof alone: numbers of nodes that are reached in one way while nodes are added.
use Rattle.std.specs.Prelude.{◌≡◌, ℕ, ◌<◌, ◌^◌, List, [], ◌∷◌, ◌++◌, length, Some, slice_get}
use Rattle.core_programs.specs.declared.nodes.Node.{Node}
use Rattle.chan_syntax.specs.declared.surface_tree.Last.{Last}
use Rattle.chan_syntax.specs.declared.surface_tree.Block.{Block}
use Rattle.chan_syntax.specs.declared.surface_tree.SurfaceArm.{SurfaceArm}
use Rattle.core_programs.specs.declared.nodes.Arm.{Arm}
use Rattle.core_programs.specs.Formed.{LeadBelow, Leads}
use Rattle.core_numbering.specs.Numbering.{EndsAt, IsBodyAt, AreArmsAt}

-- the turns lead to the number from the root at an index
abbrev pub Climbs : List Node → List ℕ → ℕ → List ℕ → ℕ → Type 0
Climbs nodes roots i turns n = (root : ℕ) × (slice_get roots i ≡ Some root) × Leads nodes root turns n

-- one root reaches the number, and in one way
abbrev pub IsClimbedOnce : List Node → List ℕ → ℕ → Type 0
IsClimbedOnce nodes roots n =
    (i : ℕ) × (turns : List ℕ) × Climbs nodes roots i turns n × ((j : ℕ) (others : List ℕ) → Climbs nodes roots j others n → (j ≡ i) × (others ≡ turns))

-- each node names smaller numbers alone
abbrev pub Falls : List Node → Type 0
Falls nodes = (n : ℕ) (x : Node) → slice_get nodes n ≡ Some x → LeadBelow x n

-- Each root is the number of a node, each node names smaller numbers alone, and each number is reached in one way.
pub record IsRooted (nodes : List Node) (roots : List ℕ) : Type 0 where
  pub few : length nodes < 2 ^ 32
  pub within : (i root : ℕ) → slice_get roots i ≡ Some root → root < length nodes
  pub falls : Falls nodes
  pub once : (n : ℕ) → n < length nodes → IsClimbedOnce nodes roots n

-- Nodes were added, and the root n took the place of the roots in old.
pub record Adds (before after : List Node) (old : List ℕ) (n : ℕ) : Type 0 where
  pub more : List Node
  pub longer : after ≡ before ++ more
  pub rooted : (front : List ℕ) → IsRooted before (front ++ old) → IsRooted after (front ++ n ∷ [])

-- Nodes were added, with these roots more.
pub record AddsAll (before after : List Node) (roots : List ℕ) : Type 0 where
  pub more : List Node
  pub longer : after ≡ before ++ more
  pub rooted : (front : List ℕ) → IsRooted before front → IsRooted after (front ++ roots)

-- A node was added that names the roots, and took their place.
abbrev pub Joins : List Node → List Node → List ℕ → ℕ → Type 0
Joins mid after roots n = (before : List Node) → AddsAll before mid roots → Adds before after [] n

-- It ends a block: its form has the two blocks whose bodies the roots are.
abbrev pub JoinsIn : (Block → Block → Last) → List Node → List Node → ℕ × ℕ → ℕ → Type 0
JoinsIn form mid after p n = (a b : Block) → IsBodyAt mid a p.0 → IsBodyAt mid b p.1 → EndsAt after (form a b) n

-- its form has the blocks whose bodies the arms have
abbrev pub JoinsArms : (List SurfaceArm → Last) → List Node → List Node → List Arm → ℕ → Type 0
JoinsArms form mid after arms n = (blocks : List SurfaceArm) → AreArmsAt mid blocks arms → EndsAt after (form blocks) n
