-- A way that leads back begins at a place of the table.
use Rattle.std.proofs.Common.{◌≡◌, ℕ, zero, suc, ◌≤◌, List, [], ◌∷◌, length, map, None, option_and_then, slice_get, refl, ap}
use Rattle.std.proofs.lemmas.Option.{slice_get_past}
use Rattle.chan_syntax.specs.declared.resources.Proto.{Proto}
use Rattle.chan_syntax.specs.declared.operands.Letter.{Letter}
use Rattle.protocol_guard.specs.declared.graphs.Turns.{Turns}
use Rattle.protocol_guard.specs.Guards.{turns_of, proto_place, graph_of, turned, step, walk, Returns, IsFirstCycle}

nothing_there : {X Y : Type 0} (f : X → Y) (xs : List X) (i : ℕ) → slice_get xs i ≡ None → slice_get (map f xs) i ≡ None
nothing_there f [] i none = refl
nothing_there f (x ∷ xs) zero none = cc
nothing_there f (x ∷ xs) (suc i) none = nothing_there f xs i none

no_return : (graph : List Turns) (i : ℕ) (way : List Letter) → slice_get graph i ≡ None → Returns graph i way → ⊥
unfolding step walk
no_return graph i [] none returns = returns
no_return graph i (turn ∷ way) none returns =
    let stuck : walk graph i (turn ∷ way) ≡ None = ap (λ o. option_and_then (λ j. walk graph j way) (turned o turn)) none in cc

pub cycle_within : (protos : List Proto) (i : ℕ) (way : List Letter) → IsFirstCycle (graph_of protos) i way → ¬ (length protos ≤ i)
unfolding graph_of
cycle_within protos i way cycle past =
    no_return (graph_of protos) i way (nothing_there (turns_of (proto_place protos)) protos i (slice_get_past protos i past)) cycle.returns.returns
