-- Numbers of nodes as the numbers that each node names, and a test that each is reached in one way.
use Rattle.std.specs.Prelude.{ℕ, zero, suc, Bool, true, false, not, ◌&&◌, nat_eq, leb, List, [], ◌∷◌, ◌++◌, length, map, Option, Some, None, slice_get}
use Rattle.std.specs.List.{list_all, list_any}

-- ---- walks

-- turns, and the number to which they lead
abbrev pub Walk : Type 0
Walk = List ℕ × ℕ

-- a walk with a turn before the others
abbrev pub begun : ℕ → Walk → Walk
begun turn walk = (turn ∷ walk.0, walk.1)

-- the walks from the numbers of a list, where this turn picks the first of them
abbrev pub through : (ℕ → List Walk) → ℕ → List ℕ → List Walk
through from turn [] = []
through from turn (n ∷ ns) = map (begun turn) (from n) ++ through from (suc turn) ns

abbrev pub through_at : (ℕ → List Walk) → Option (List ℕ) → List Walk
through_at from None = []
through_at from (Some ns) = through from 0 ns

-- the walks from a number that have fewer turns than the depth
abbrev pub walks : ℕ → List (List ℕ) → ℕ → List Walk
walks zero shape n = []
walks (suc depth) shape n = ([], n) ∷ through_at (walks depth shape) (slice_get shape n)

-- the walks from the first nodes of functions: the first turn is the index of the function
abbrev pub climbs : List (List ℕ) → List ℕ → List Walk
climbs shape firsts = through (walks (length shape) shape) 0 firsts

-- ---- tests

abbrev pub all_end : (ℕ → Bool) → Option (List ℕ) → Bool
all_end ends None = true
all_end ends (Some ns) = list_all ends ns

-- each walk from a number has fewer turns than the depth
abbrev pub ends : ℕ → List (List ℕ) → ℕ → Bool
ends zero shape n = false
ends (suc depth) shape n = all_end (ends depth shape) (slice_get shape n)

-- no two of the walks lead to one number
abbrev pub are_apart : List Walk → Bool
are_apart [] = true
are_apart (w ∷ ws) = list_all (λ v. not (nat_eq w.1 v.1)) ws && are_apart ws

-- one of the walks leads to each number below this one
abbrev pub reach : List Walk → ℕ → Bool
reach ws zero = true
reach ws (suc n) = list_any (λ w. nat_eq w.1 n) ws && reach ws n

abbrev pub are_below : ℕ → List ℕ → Bool
are_below count ns = list_all (λ n. leb (suc n) count) ns

-- where there are fewer than 100 nodes
abbrev pub are_within : List (List ℕ) → List ℕ → Bool
are_within shape firsts = leb (length shape) 99 && (are_below (length shape) firsts && list_all (are_below (length shape)) shape)

abbrev pub is_numbered : List (List ℕ) → List ℕ → Bool
is_numbered shape firsts =
    are_within shape firsts && (list_all (ends (length shape) shape) firsts && (are_apart (climbs shape firsts) && reach (climbs shape firsts) (length shape)))
