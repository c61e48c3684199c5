-- What makes the parts of a program well formed.
use Rattle.std.specs.Prelude.{◌≡◌, ℕ, ◌<◌, ◌^◌, List, [], ◌∷◌, map, length, Some, slice_get}
use Rattle.core_programs.specs.declared.nodes.Node.{Node}
use Rattle.core_programs.specs.declared.nodes.Node.TheVariants as node
use Rattle.core_programs.specs.declared.nodes.Func.{Func}
use Rattle.core_programs.specs.declared.nodes.Parts.{Parts}

-- ---- numbers of nodes

-- the numbers of the nodes that may follow
abbrev pub nexts : Node → List ℕ
nexts (node.Let name name_at term next span) = next ∷ []
nexts (node.Mul name name_at left right next span) = next ∷ []
nexts (node.Div name name_at term divisor divisor_at next span) = next ∷ []
nexts (node.Rem name name_at term divisor divisor_at next span) = next ∷ []
nexts (node.Call pat func func_at values proof next span) = next ∷ []
nexts (node.Tail func func_at values proof span) = []
nexts (node.Fork name name_at proto func func_at values proof next span) = next ∷ []
nexts (node.Send1 channel channel_at path path_at value proof next span) = next ∷ []
nexts (node.Recv1 pat channel channel_at path path_at proof next span) = next ∷ []
nexts (node.Print term next span) = next ∷ []
nexts (node.If left right this other span) = this ∷ other ∷ []
nexts (node.Split first second name name_at next span) = next ∷ []
nexts (node.Match name name_at arms span) = map (λ arm. arm.next) arms
nexts (node.Absurd proof span) = []
nexts (node.Ret value proof span) = []

-- each number of a node that may follow is below
abbrev pub LeadBelow : Node → ℕ → Type 0
LeadBelow x count = (k m : ℕ) → slice_get (nexts x) k ≡ Some m → m < count

-- the turns lead from one number to another: each picks one of those that follow
abbrev pub Leads : List Node → ℕ → List ℕ → ℕ → Type 0
Leads nodes n [] m = n ≡ m
Leads nodes n (turn ∷ turns) m = (x : Node) × (next : ℕ) × (slice_get nodes n ≡ Some x) × (slice_get (nexts x) turn ≡ Some next) × Leads nodes next turns m

-- they lead to a number from the first node of the function at an index
abbrev pub Reaches : Parts → ℕ → List ℕ → ℕ → Type 0
Reaches parts f turns n = (func : Func) × (slice_get parts.funcs f ≡ Some func) × Leads parts.nodes func.first turns n

-- one function reaches the number, and in one way
abbrev pub IsReachedOnce : Parts → ℕ → Type 0
IsReachedOnce parts n =
    (f : ℕ) × (turns : List ℕ) × Reaches parts f turns n × ((g : ℕ) (others : List ℕ) → Reaches parts g others n → (g ≡ f) × (others ≡ turns))

pub record IsNumbered (parts : Parts) : Type 0 where
  pub few : length parts.nodes < 2 ^ 32
  pub firsts : (f : ℕ) (func : Func) → slice_get parts.funcs f ≡ Some func → func.first < length parts.nodes
  pub follow : (n : ℕ) (x : Node) → slice_get parts.nodes n ≡ Some x → LeadBelow x (length parts.nodes)
  pub once : (n : ℕ) → n < length parts.nodes → IsReachedOnce parts n

-- ---- numbers in nodes

-- where the node divides, its divisor is positive
abbrev pub HasDivisor : Node → Type 0
HasDivisor (node.Div name name_at term divisor divisor_at next span) = 0 < divisor
HasDivisor (node.Rem name name_at term divisor divisor_at next span) = 0 < divisor
HasDivisor other = Unit {0}
