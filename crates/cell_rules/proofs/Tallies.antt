-- How a changed mark changes the tally, and what keeps a view together.
use Rattle.std.proofs.Common.{◌≡◌, ◌≢◌, ◌⊎◌, ℕ, ◌+◌, ◌*◌, ◌<◌, ◌≤◌, List, ◌∷◌, sym, refl, ap, ◌∙◌, subst, inl, inr, ⊎_elim, arith}
use Rattle.cell_rules.specs.declared.view.View.{View}
use Rattle.cell_rules.specs.Lists.{count, without, In}
use Rattle.cell_rules.specs.Marks.{mark, InHand, Lifted, Reopening, Parking, Free, ClaimCleared, ChanCleared, Kept}
use Rattle.cell_rules.specs.Rule.{Means, Tied, tally}
use Rattle.cell_rules.proofs.Totals.{more_here, less_here, off, added, dropped}
use Rattle.cell_rules.proofs.Turns.{After}

-- a mark that is gained, lost or turned leaves the others
pub gain_other : (q j b m : ℕ) (ms : List ℕ) → q < 16 → b < 16 → (j ≢ m) ⊎ (q ≢ b) → count (16 * j + q) ((16 * m + b) ∷ ms) ≡ count (16 * j + q) ms
gain_other q j b m ms h h' which = added (16 * j + q) (16 * m + b) ms (off q j b m h h' which)

pub lose_other : (q j a m : ℕ) (ms : List ℕ) → q < 16 → a < 16 → (j ≢ m) ⊎ (q ≢ a) → 0 < count (16 * m + a) ms → count (16 * j + q) (without (16 * m + a) ms) ≡ count (16 * j + q) ms
lose_other q j a m ms h h' which has = dropped (16 * j + q) (16 * m + a) ms (off q j a m h h' which) has

pub turn_other : (q j a b m : ℕ) (ms : List ℕ) → q < 16 → a < 16 → b < 16 → (j ≢ m) ⊎ ((q ≢ a) × (q ≢ b)) → 0 < count (16 * m + a) ms → count (16 * j + q) ((16 * m + b) ∷ without (16 * m + a) ms) ≡ count (16 * j + q) ms
turn_other q j a b m ms h h' h'' which has = gain_other q j b m (without (16 * m + a) ms) h h'' (⊎_elim (λ ne. inl ne) (λ t. inr t.1) which) ∙ lose_other q j a m ms h h' (⊎_elim (λ ne. inl ne) (λ t. inr t.0) which) has

module _ {L P A : Type 0} (x : Means L P A) (key : ℕ × ℕ × A) (vs : List (View L A)) (v w : View L A) (T : ℕ → ℕ) (after : After x key vs v w T) where
  pub gains_tally : (b : ℕ) → w.marks ≡ b ∷ v.marks → (T b ≡ tally vs b + 1) × ((q : ℕ) → q ≢ b → T q ≡ tally vs q)
  gains_tally b is = (omega (arith, after b, ap (count b) is, more_here b v.marks), λ q ne. omega (arith, after q, ap (count q) is, added q b v.marks ne))

  pub loses_tally : (a : ℕ) → w.marks ≡ without a v.marks → 0 < count a v.marks → (T a + 1 ≡ tally vs a) × ((q : ℕ) → q ≢ a → T q ≡ tally vs q)
  loses_tally a is has = (omega (arith, after a, ap (count a) is, less_here a v.marks has), λ q ne. omega (arith, after q, ap (count q) is, dropped q a v.marks ne has))

  pub turns_tally : (a b : ℕ) → w.marks ≡ b ∷ without a v.marks → a ≢ b → 0 < count a v.marks → (T a + 1 ≡ tally vs a) × (T b ≡ tally vs b + 1) × ((q : ℕ) → q ≢ a → q ≢ b → T q ≡ tally vs q)
  turns_tally a b is ne has = (
    omega (arith, after a, ap (count a) is, less_here a v.marks has, added a b (without a v.marks) ne),
    omega (arith, after b, ap (count b) is, more_here b (without a v.marks), dropped b a v.marks (λ e. ne (sym e)) has),
    λ q na nb. omega (arith, after q, ap (count q) is, added q b (without a v.marks) nb, dropped q a v.marks na has),
  )

module _ {L P A : Type 0} (x : Means L P A) where
  pub tied_on : (v w : View L A) → Tied x v → 0 < w.parts → w.spent ≤ w.parts
      → ((by i : ℕ) → In (by, i) w.receipts → 0 < count (InHand by) w.marks + count (Lifted by) w.marks + count (Kept by) w.marks)
      → ((by i : ℕ) → In (by, i) w.receipts → 0 < count (Kept by) v.marks → In (by, i) v.receipts)
      → w.kept ≡ v.kept → ((j : ℕ) → count (Kept j) w.marks ≡ count (Kept j) v.marks)
      → ((j : ℕ) → (count (ClaimCleared j) w.marks ≤ count (Free j) w.marks) × (count (ChanCleared j) w.marks ≤ count (Free j) w.marks) × (count (Reopening j) w.marks ≤ count (Free j) w.marks))
      → ((j : ℕ) (load : L) → In (j, load) w.resting → (x.number load ≡ j) × (0 < count (Parking j) w.marks))
      → Tied x w
  tied_on v w tied live spends holders old kept same clears rests = record {
    spends = spends;
    idle = λ z. absurd (omega arith);
    receipts = holders;
    kept = λ m load i. let t = tied.kept m load (subst (λ l. In (m, load) l) kept i) in (t.0, t.1, omega (arith, t.2, same m), λ r in-w. t.3 r (old m r in-w t.2));
    keeps = λ m has. let t = tied.keeps m (omega (arith, same m)) in (t.0, subst (λ l. In (m, t.0) l) (sym kept) t.1);
    clears = clears;
    rests = rests;
  }

  -- a step that leaves the receipts, the kept loads and the resting ones
  pub tied_calm : (v w : View L A) → Tied x v → 0 < w.parts → w.spent ≤ w.parts → w.receipts ≡ v.receipts → w.kept ≡ v.kept → w.resting ≡ v.resting
      → ((j : ℕ) → count (InHand j) v.marks + count (Lifted j) v.marks ≤ count (InHand j) w.marks + count (Lifted j) w.marks)
      → ((q j : ℕ) → (q ≡ 7) ⊎ ((9 < q) × (q < 14)) → count (mark q j) w.marks ≡ count (mark q j) v.marks)
      → ((j : ℕ) → count (Reopening j) w.marks ≤ count (Free j) v.marks)
      → Tied x w
  tied_calm v w tied live spends receipts kept resting hold steady raised =
      let free : (j : ℕ) → count (Free j) w.marks ≡ count (Free j) v.marks = λ j. steady 10 j (inr (omega arith, omega arith)) in
      let keeps : (j : ℕ) → count (Kept j) w.marks ≡ count (Kept j) v.marks = λ j. steady 13 j (inr (omega arith, omega arith)) in
      let claims : (j : ℕ) → count (ClaimCleared j) w.marks ≡ count (ClaimCleared j) v.marks = λ j. steady 11 j (inr (omega arith, omega arith)) in
      let chans : (j : ℕ) → count (ChanCleared j) w.marks ≡ count (ChanCleared j) v.marks = λ j. steady 12 j (inr (omega arith, omega arith)) in
      let parks : (j : ℕ) → count (Parking j) w.marks ≡ count (Parking j) v.marks = λ j. steady 7 j (inl refl) in
      tied_on v w tied live spends
      (λ by i r. omega (arith, tied.receipts by i (subst (λ l. In (by, i) l) receipts r), hold by, keeps by))
      (λ by i r has. subst (λ l. In (by, i) l) receipts r) kept keeps
      (λ j. let t = tied.clears j in (omega (arith, t.0, free j, claims j), omega (arith, t.1, free j, chans j), omega (arith, raised j, free j)))
      (λ j load r. let t = tied.rests j load (subst (λ l. In (j, load) l) resting r) in (t.0, omega (arith, t.1, parks j)))
