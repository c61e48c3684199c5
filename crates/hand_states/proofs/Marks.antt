-- How often a mark stands in a view after marks came and went.
use Rattle.std.proofs.Common.{◌≡◌, ◌≢◌, ℕ, ◌+◌, ◌*◌, ◌<◌, List, ◌∷◌, sym, inr, arith}
use Rattle.cell_rules.specs.Lists.{count, without, one}
use Rattle.cell_rules.specs.Marks.{Drawn, Opening, InHand, Lifted, Reopening, Claimed, Picking, Parking, Waking, Right, Free, ClaimCleared, ChanCleared, Kept}
use Rattle.cell_rules.proofs.Totals.{count-without, more_here, one_other, one_same, off}

-- two marks are apart where their kinds are
pub apart : (q j b m : ℕ) → q < 16 → b < 16 → q ≢ b → one (16 * j + q) (16 * m + b) ≡ 0
apart q j b m h h' ne = one_other (16 * j + q) (16 * m + b) (λ e. off q j b m h h' (inr ne) (sym e))

pub came_and_went : (q a : ℕ) (ms : List ℕ) → count q (without a (a ∷ ms)) ≡ count q ms
came_and_went q a ms = omega (arith, count-without q a (a ∷ ms) (omega (arith, more_here a ms)))

pub taken : (q n : ℕ) (ms : List ℕ) → count q (InHand n ∷ without (Lifted n) (Lifted n ∷ ms)) ≡ one q (InHand n) + count q ms
taken q n ms = omega (arith, came_and_went q (Lifted n) ms)

pub gone_home : (q n : ℕ) (ms : List ℕ) → 0 < count (InHand n) ms → count q (without (Lifted n) (Lifted n ∷ without (InHand n) ms)) + one q (InHand n) ≡ count q ms
gone_home q n ms has = omega (arith, came_and_went q (Lifted n) (without (InHand n) ms), count-without q (InHand n) ms has)

pub sent_to : (q m j : ℕ) (ms : List ℕ) → count q (without (Waking j) (Waking j ∷ without (Claimed m) (Claimed m ∷ ms))) ≡ count q ms
sent_to q m j ms = omega (arith, came_and_went q (Waking j) (without (Claimed m) (Claimed m ∷ ms)), came_and_went q (Claimed m) ms)

pub stowed : (q m : ℕ) (ms : List ℕ) → count q (Right m ∷ without (Picking m) (Picking m ∷ ms)) ≡ one q (Right m) + count q ms
stowed q m ms = omega (arith, came_and_went q (Picking m) ms)

pub begun : (q m : ℕ) (ms : List ℕ) → count q (without (Opening m) (Opening m ∷ without (Drawn m) (Drawn m ∷ ms))) ≡ count q ms
begun q m ms = omega (arith, came_and_went q (Opening m) (without (Drawn m) (Drawn m ∷ ms)), came_and_went q (Drawn m) ms)

pub ended : (q n : ℕ) (ms : List ℕ) → 0 < count (InHand n) ms → count q (Kept n ∷ without (InHand n) ms) + one q (InHand n) ≡ one q (Kept n) + count q ms
ended q n ms has = omega (arith, count-without q (InHand n) ms has)

pub parked : (q n : ℕ) (ms : List ℕ) → 0 < count (InHand n) ms → count q (without (Parking n) (Parking n ∷ without (Lifted n) (Lifted n ∷ without (InHand n) ms))) + one q (InHand n) ≡ count q ms
parked q n ms has = omega (arith, came_and_went q (Parking n) (without (Lifted n) (Lifted n ∷ without (InHand n) ms)), gone_home q n ms has)

pub come_back : (q n : ℕ) (ms : List ℕ) → 0 < count (InHand n) ms
    → count q (InHand n ∷ without (Lifted n) (Lifted n ∷ without (Parking n) (Parking n ∷ without (Lifted n) (Lifted n ∷ without (InHand n) ms)))) ≡ count q ms
come_back q n ms has = omega (arith, taken q n (without (Parking n) (Parking n ∷ without (Lifted n) (Lifted n ∷ without (InHand n) ms))), parked q n ms has)

-- the marks of a cell that is given again
pub reopened : (q m : ℕ) (ms : List ℕ) → 0 < count (Free m) ms
    → count q (without (Reopening m) (without (ChanCleared m) (without (ClaimCleared m) (without (Free m) (Reopening m ∷ ChanCleared m ∷ ClaimCleared m ∷ ms))))) + one q (Free m) ≡ count q ms
reopened q m ms has =
    let a : List ℕ = Reopening m ∷ ChanCleared m ∷ ClaimCleared m ∷ ms in
    let b : List ℕ = without (Free m) a in
    let c : List ℕ = without (ClaimCleared m) b in
    let d : List ℕ = without (ChanCleared m) c in
    let f : (k : ℕ) → count k b + one k (Free m) ≡ count k a = λ k. count-without k (Free m) a (omega (arith, has)) in
    let g : (k : ℕ) → count k c + one k (ClaimCleared m) ≡ count k b = λ k. count-without k (ClaimCleared m) b (omega (arith, f (ClaimCleared m), one_same (ClaimCleared m), apart 11 m 10 m (omega arith) (omega arith) (λ e. omega arith))) in
    let h : (k : ℕ) → count k d + one k (ChanCleared m) ≡ count k c = λ k. count-without k (ChanCleared m) c (omega (arith, f (ChanCleared m), g (ChanCleared m), one_same (ChanCleared m), apart 12 m 10 m (omega arith) (omega arith) (λ e. omega arith), apart 12 m 11 m (omega arith) (omega arith) (λ e. omega arith))) in
    let i : 0 < count (Reopening m) d = omega (arith, f (Reopening m), g (Reopening m), h (Reopening m), one_same (Reopening m), apart 4 m 10 m (omega arith) (omega arith) (λ e. omega arith), apart 4 m 11 m (omega arith) (omega arith) (λ e. omega arith), apart 4 m 12 m (omega arith) (omega arith) (λ e. omega arith)) in
    omega (arith, count-without q (Reopening m) d i, h q, g q, f q)
