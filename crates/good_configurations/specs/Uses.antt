-- Who holds which ends of which channels.
use Rattle.std.specs.Prelude.{◌≡◌, ◌≢◌, ◌≤◌, Bool, ◌&&◌, List, []}
use Rattle.std.specs.Ordering.{nat_cmp, eq_by_cmp}
use Rattle.std.specs.Cmp.Lexicographic.{slice_cmp}
use Rattle.core_language.specs.Names.{Name, same_name}
use Rattle.outline_language.specs.Equations.{Concrete}
use Rattle.graphs.specs.Graph.{count, Node, same_node, edges, degree}
use Rattle.good_configurations.specs.Values.{Use}

-- the uses of all tasks and channels, each with its holder
abbrev pub Uses : Type 0
Uses = List (Node Name × Name × Concrete)

-- the same uses, in whatever order
abbrev pub AreSame : List Use → List Use → Type 0
AreSame us vs = (q : Use → Bool) → count q us ≡ count q vs

-- the holder has just these uses, in whatever order
abbrev pub Holds : Node Name → List Use → Uses → Type 0
Holds n us all = (q : Use → Bool) → count q us ≡ count (λ u. same_node same_name n u.0 && q (u.1, u.2)) all

-- the channel's ends are just these
abbrev pub EndsAt : Name → List Concrete → Uses → Type 0
EndsAt c es all = (q : Concrete → Bool) → count q es ≡ count (λ u. same_name c u.1 && q u.2) all

-- each choice of edges in which no node is counted exactly once is empty
abbrev pub NoLeafIsEmpty : Uses → Type 0
NoLeafIsEmpty all =
    (part : List (Node Name × Node Name)) → ((p : Node Name × Node Name → Bool) → count p part ≤ count p (edges all)) → ((n : Node Name) → degree (same_node same_name) n part ≢ 1) → part ≡ []
