-- Which nodes mention a name, and where the bodies of nodes begin.
use Rattle.std.specs.Prelude.{◌≡◌, ℕ, ◌+◌, Bool, List, [], ◌∷◌, ◌++◌, map, drop, Option, Some, None, slice_get}
use Rattle.std.specs.List.{list_any}
use Rattle.std.specs.Global.{Vec}
use Rattle.std.specs.BTreeMap.{BTreeMap}
use Rattle.core_language.specs.Configurations.{names}
use Rattle.core_language.specs.Names.{Ident}
use Rattle.chan_syntax.specs.Reading.{term_of, supply_of}
use Rattle.name_uses.specs.Uses.{term_names, supply_names, supplies_names, times, uses_in}
use Rattle.core_programs.specs.declared.nodes.Node.{Node}
use Rattle.core_programs.specs.declared.nodes.Node.TheVariants as node
use Rattle.core_programs.specs.Bodies.{rest}
use Rattle.core_programs.specs.Formed.{nexts}

-- the names in a node's operands, its values, its channel and what it takes apart
abbrev pub mentions : Node → List Ident
mentions (node.Let name name_at term next span) = term_names (term_of term)
mentions (node.Mul name name_at left right next span) = term_names (term_of left) ++ term_names (term_of right)
mentions (node.Div name name_at term divisor divisor_at next span) = term_names (term_of term)
mentions (node.Rem name name_at term divisor divisor_at next span) = term_names (term_of term)
mentions (node.Call pat func func_at values proof next span) = supplies_names (map supply_of values)
mentions (node.Tail func func_at values proof span) = supplies_names (map supply_of values)
mentions (node.Fork name name_at proto func func_at values proof next span) = supplies_names (map supply_of values)
mentions (node.Send1 channel channel_at path path_at value proof next span) = channel ∷ supply_names (supply_of value)
mentions (node.Recv1 pat channel channel_at path path_at proof next span) = channel ∷ []
mentions (node.Print term next span) = term_names (term_of term)
mentions (node.If left right this other span) = term_names (term_of left) ++ term_names (term_of right)
mentions (node.Split first second name name_at next span) = name ∷ []
mentions (node.Match name name_at arms span) = name ∷ []
mentions (node.Absurd proof span) = []
mentions (node.Ret value proof span) = supply_names (supply_of value)

-- ---- the index of uses

-- the numbers of the nodes that mention the name, where the first node has the number given
abbrev pub uses_from : ℕ → List Node → Ident → List ℕ
uses_from n [] x = []
uses_from n (node ∷ nodes) x = times x n (mentions node) ++ uses_from (n + 1) nodes x

-- the index leads to the nodes that mention each name
abbrev pub LeadsToUses : List Node → BTreeMap Ident (Vec ℕ) → Type 0
LeadsToUses nodes index = (x : Ident) → uses_in index x ≡ uses_from 0 nodes x

abbrev pub nexts_at : Option Node → List ℕ
nexts_at None = []
nexts_at (Some x) = nexts x

-- the numbers of the bodies that follow the node at a number, after the first of them
abbrev pub later_nexts : List Node → ℕ → List ℕ
later_nexts nodes n = drop 1 (nexts_at (slice_get nodes n))

-- one of these bodies names the variable
abbrev pub later_names : List Node → ℕ → Ident → Bool
later_names nodes n x = list_any (λ m. names (rest nodes m) x) (later_nexts nodes n)

-- ---- where bodies begin

-- the bodies at these numbers stand one behind the other right before a number, and the first begins at `s`
abbrev pub StandBefore : List ℕ → List ℕ → ℕ → ℕ → Type 0
StandBefore starts [] end s = s ≡ end
StandBefore starts (n ∷ ns) end s = StandBefore starts ns end (n + 1) × (slice_get starts n ≡ Some s)

-- the node stands right behind the bodies that it names, and its own begins with them
abbrev pub BeginsAt : List ℕ → ℕ → Node → Type 0
BeginsAt starts n x = (s : ℕ) × (slice_get starts n ≡ Some s) × StandBefore starts (nexts x) n s

-- each node stands right behind the bodies that it names
abbrev pub IsContiguous : List Node → List ℕ → Type 0
IsContiguous nodes starts = (n : ℕ) (x : Node) → slice_get nodes n ≡ Some x → BeginsAt starts n x

-- the starts of all bodies, where they are known
abbrev pub AreStarts : List Node → Option (Vec ℕ) → Type 0
AreStarts nodes None = Unit {0}
AreStarts nodes (Some starts) = IsContiguous nodes starts.items
