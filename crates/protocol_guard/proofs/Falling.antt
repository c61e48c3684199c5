-- A place whose turns lead to lower ranks lies on no cycle, since no rank rises.
use Rattle.std.proofs.Common.{◌≡◌, ℕ, ◌+◌, ◌≤◌, List, [], ◌∷◌, ◌++◌, Option, Some, None, option_and_then, refl, ap, arith}
use Rattle.std.proofs.lemmas.Option.{none-some, same_Some}
use Rattle.chan_syntax.specs.declared.operands.Letter.{Letter}
use Rattle.protocol_guard.specs.declared.graphs.Turns.{Turns}
use Rattle.protocol_guard.specs.declared.ranks.Visit.{Visit}
use Rattle.protocol_guard.specs.Guards.{step, walk, Returns}
use Rattle.protocol_guard.specs.Ranks.{Falls, NeverRises, rank, weight, weights}

module _ (graph : List Turns) (ranks : List ℕ) (never : NeverRises graph ranks) where
  -- the rank at the end of a way
  walk_down : (i : ℕ) (way : List Letter) (j : ℕ) → walk graph i way ≡ Some j → rank ranks j ≤ rank ranks i
  unfolding walk
  walk_down i [] j leads = let same : i ≡ j = same_Some i j leads in omega (arith, ap (rank ranks) same)
  walk_down i (turn ∷ way) j leads = by (λ k is. walk_down k way j is) (step graph i turn) refl leads
    where
      by : ((k : ℕ) → walk graph k way ≡ Some j → rank ranks j ≤ rank ranks k)
          → (o : Option ℕ) → step graph i turn ≡ o → option_and_then (λ k. walk graph k way) o ≡ Some j → rank ranks j ≤ rank ranks i
      by later None at is = absurd (none-some j is)
      by later (Some k) at is = let first = never i turn k at in let rest = later k is in omega (arith, first, rest)

  pub no_return : (i : ℕ) → Falls graph ranks i → (way : List Letter) → ¬ (Returns graph i way)
  unfolding walk
  no_return i falls [] back = back
  no_return i falls (turn ∷ way) back = by (step graph i turn) refl back
    where
      by : (o : Option ℕ) → step graph i turn ≡ o → option_and_then (λ k. walk graph k way) o ≡ Some i → ⊥
      by None at is = none-some i is
      by (Some k) at is = let first = falls turn k at in let rest = walk_down k way i is in omega (arith, first, rest)

-- ---- what a walk has still to do

pub weights_more : (vs : List Visit) (v : Visit) → weights (vs ++ v ∷ []) ≡ weights vs + weight v
weights_more [] v = omega arith
weights_more (w ∷ vs) v = omega (arith, weights_more vs v)
