-- What is with one hand is with no other.
use Rattle.std.proofs.Common.{◌≡◌, ◌≢◌, ℕ, ◌<◌, inl, inr, arith}
use mathlib.Core.Logic.{dite}
use native.Mathlib.Decide.{ℕ_discrete}
use mathlib.Core.Option.{some}
use lib.ListN.{get_elem?}
use Rattle.cell_rules.specs.declared.view.View.{View}
use Rattle.cell_rules.specs.Lists.{count}
use Rattle.cell_rules.specs.Words.{cell, task, RUNNING}
use Rattle.cell_rules.specs.Marks.{InHand, Claimed, Free, Kept}
use Rattle.cell_rules.specs.Rule.{Means, Received, tally, Rules}
use Rattle.cell_rules.proofs.Totals.{two_terms}
use Rattle.cell_rules.proofs.Turns.{St}
use Rattle.cell_rules.proofs.Claims.{free_both}
use Rattle.cell_rules.proofs.Still.{cell_below, present, has_some, loads_of, chans_of, retires_of}

module _ {L P A : Type 0} (x : Means L P A) (key : ℕ × ℕ × A) (s : St x key) (k : Rules x key s) (i j : ℕ) (v w : View L A) (ne : i ≢ j) (vi : get_elem? s.views i ≡ some v) (wj : get_elem? s.views j ≡ some w) (m : ℕ) where
  -- a load is never with two hands
  pub load_once : 0 < count (InHand m) v.marks → 0 < count (InHand m) w.marks → ⊥
  load_once a b =
      let is : k.now (cell key.0 m) ≡ m = present x key s k i v vi 2 m (omega arith) a in
      let g = loads_of x key s k (cell key.0 m) m (cell_below key.0 m k.small.0) is in
      let two = two_terms (λ (z : View L A). count (InHand m) z.marks) s.views i j v w ne vi wj in
      dite (ℕ_discrete (task s.words (cell key.0 m)) (RUNNING m)) (λ e. omega (arith, g.running e)) (λ n. omega (arith, g.resting n))

  -- a claim that is not sent stands in one view
  pub claim_once : 0 < count (Claimed m) v.marks → 0 < count (Claimed m) w.marks → ⊥
  claim_once a b =
      let is : k.now (cell key.0 m) ≡ m = present x key s k i v vi 5 m (omega arith) a in
      let g = chans_of x key s k (cell key.0 m) m (cell_below key.0 m k.small.0) is in
      let two = two_terms (λ (z : View L A). count (Claimed m) z.marks) s.views i j v w ne vi wj in
      omega (arith, (g.unsent (omega arith)).0)

  -- a cell is free to one hand
  pub free_once : 0 < count (Free m) v.marks → 0 < count (Free m) w.marks → ⊥
  free_once a b =
      let is : k.now (cell key.0 m) ≡ m = present x key s k i v vi 10 m (omega arith) a in
      let g = chans_of x key s k (cell key.0 m) m (cell_below key.0 m k.small.0) is in
      let two = two_terms (λ (z : View L A). count (Free m) z.marks) s.views i j v w ne vi wj in
      omega (arith, g.once)

-- no cell is free while its channel is unreceived or its task has not ended
module _ {L P A : Type 0} (x : Means L P A) (key : ℕ × ℕ × A) (s : St x key) (k : Rules x key s) (i : ℕ) (v : View L A) (vi : get_elem? s.views i ≡ some v) (m : ℕ) where
  pub free_received : 0 < count (Free m) v.marks → Received x s.homes s.views m
  free_received a =
      let c : ℕ = cell key.0 m in
      let within : c < key.0 = cell_below key.0 m k.small.0 in
      let is : k.now c ≡ m = present x key s k i v vi 10 m (omega arith) a in
      let has = has_some x key s i v vi (Free m) a in
      let f = retires_of x key s k c m within is in
      let both-done = free_both x key s k c m within is has in
      k.received m (inr (inl (is, omega (arith, f.counted, both-done.0, both-done.1))))

  -- its load is kept by one hand
  pub free_ended : 0 < count (Free m) v.marks → tally s.views (Kept m) ≡ 1
  free_ended a =
      let c : ℕ = cell key.0 m in
      let within : c < key.0 = cell_below key.0 m k.small.0 in
      let is : k.now c ≡ m = present x key s k i v vi 10 m (omega arith) a in
      (free_both x key s k c m within is (has_some x key s i v vi (Free m) a)).1
