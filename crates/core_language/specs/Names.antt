-- Names of tasks and channels, and names in programs.
use Rattle.std.specs.Prelude.{ℕ, Bool, List, [], ◌∷◌, ◌++◌, nat_eq}
use Rattle.std.specs.Ordering.{nat_cmp, eq_by_cmp}
use Rattle.std.specs.Cmp.Lexicographic.{slice_cmp, pointwise}
use Rattle.std.specs.FinMap.{FinMap}

-- a task or a channel: which fork of which fork, from `main` on
abbrev pub Name : Type 0
Name = List ℕ

abbrev pub main : Name
main = []

-- what the task's fork with this number makes
abbrev pub child : Name → ℕ → Name
child p k = p ++ k ∷ []

abbrev pub same_name : Name → Name → Bool
same_name = eq_by_cmp (slice_cmp nat_cmp)

-- what has a name, in the order of names
abbrev pub NameMap : Type 0 → Type 0
NameMap X = FinMap (slice_cmp nat_cmp) X

-- a name in a program: its bytes
abbrev pub Ident : Type 0
Ident = List ℕ

abbrev pub same : List ℕ → List ℕ → Bool
same = pointwise nat_eq
