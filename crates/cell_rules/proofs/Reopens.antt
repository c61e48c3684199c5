-- The reopen step keeps the rule.
use Rattle.std.proofs.Common.{◌≡◌, ◌≢◌, ◌⊎◌, ℕ, suc, ◌+◌, ◌*◌, ◌^◌, ◌<◌, ◌≤◌, List, [], ◌∷◌, length, get_or, set, sym, refl, ap, ◌∙◌, subst, inl, inr, ⊎_elim, arith, cond, eq-eqb, ne_eqb, length-set, get_or-set_other, get_or-set_same, Some, None}
use mathlib.Core.Logic.{dite}
use native.Mathlib.Decide.{ℕ_discrete, dec_le}
use mathlib.Core.Option as maybe
use mathlib.Core.Option.{some, some-injective, some-ne-none}
use lib.ListN.{get_elem?}
use Rattle.atomic_table.proofs.Lists.{at_set, set_else}
use Rattle.cell_rules.specs.declared.item.Item.TheVariants.{Load}
use Rattle.cell_rules.specs.declared.view.View.{View}
use Rattle.cell_rules.specs.Lists.{one, count, without, In}
use Rattle.cell_rules.specs.Words.{cell, task_at, claim_at, chan_at, retire_at, load_at, parcel_at, task, claim, chan, retire, FREE, EMPTY, PARKED, READY, RUNNING}
use Rattle.cell_rules.specs.Marks.{mark, Drawn, Opening, InHand, Lifted, Reopening, Claimed, Picking, Parking, Waking, Right, Free, ClaimCleared, ChanCleared, Kept}
use Rattle.cell_rules.specs.Rule.{Means, Held, OneLoad, OneParcel, OneWait, TwoFinishers, GoodLoad, Made, Freed, parked, tally, load_in, parcel_in, Rules}
use Rattle.std.proofs.Common.{eqb}
use Rattle.atomic_table.specs.Table.{gives, Me, step, Allows, rest, put_back}
use Rattle.cell_rules.specs.Table.{reopen}
use Rattle.std.proofs.Math.Nat.{suc-mul}
use Rattle.cell_rules.specs.Plays.{noted, reopening, reopens}
use Rattle.cell_rules.specs.Asks.{IsNew}
use Rattle.cell_rules.proofs.Totals.{term_le, less_here, one_same, one_other, below-term, two_terms}
use Rattle.cell_rules.proofs.Turns.{St, Homes, st, After, at_place, Grows, named_on, view_on, rebuilt}
use Rattle.cell_rules.proofs.Still.{cell_below, cell_next, one_cell, load_as, chan_as, retire_as, wait_as, present, has_some, loads_of, chans_of, waits_of, retires_of, resting_home, apart, after_same, receipts_stay, shelf_stays}
use Rattle.cell_rules.proofs.Tallies.{lose_other, tied_on}
use Rattle.cell_rules.proofs.Totals.{none_in, none-below, below-same}
use Rattle.cell_rules.proofs.Claims.{free_both}
use Rattle.cell_rules.proofs.Puts.{first_load}

module _ {L P A : Type 0} (x : Means L P A) (key : ℕ × ℕ × A) where
  -- the marks of a free cell that the hand has, which has cleared it and has its slot out, are all that there are
  pub record Ready (s : St x key) (k : Rules x key s) (v : View L A) (c m : ℕ) : Type 0 where
    pub runs : task s.words c ≡ RUNNING m
    pub claim_is : claim s.words c ≡ FREE (m + key.0)
    pub chan_is : chan s.words c ≡ EMPTY (m + key.0)
    pub freed : Freed k.age s.words c
    pub kept : tally s.views (Kept m) ≡ 1
    pub all : (q : ℕ) → q < 13 → tally s.views (mark q m) ≤ count (mark q m) v.marks
    pub none : (q : ℕ) → q < 13 → q ≢ 4 → q ≢ 10 → q ≢ 11 → q ≢ 12 → tally s.views (mark q m) ≡ 0
    pub once : (tally s.views (Free m) ≡ 1) × (tally s.views (ClaimCleared m) ≡ 1) × (tally s.views (ChanCleared m) ≡ 1) × (tally s.views (Reopening m) ≡ 1)
    pub parked_none : parked key.0 s.words m ≡ 0
    pub gone : get_elem? s.homes (load_at c) ≡ some maybe.none
    pub vacant : get_elem? s.homes (parcel_at c) ≡ some (some None)
    pub drawn : c < get_or s.words 0 0

  pub ready : (s : St x key) (k : Rules x key s) (id : ℕ) (v : View L A) → get_elem? s.views id ≡ some v → (c m : ℕ) → c < key.0 → k.now c ≡ m → 0 < count (Free m) v.marks → 0 < count (ClaimCleared m) v.marks → 0 < count (ChanCleared m) v.marks → 0 < count (Reopening m) v.marks → Ready s k v c m
  ready s k id v at c m within is has10 has11 has12 has4 =
      let g = chans_of x key s k c m within is in
      let l = loads_of x key s k c m within is in
      let f = retires_of x key s k c m within is in
      let t10 = has_some x key s id v at (Free m) has10 in
      let t11 = has_some x key s id v at (ClaimCleared m) has11 in
      let t12 = has_some x key s id v at (ChanCleared m) has12 in
      let t4 = has_some x key s id v at (Reopening m) has4 in
      let both-done = free_both x key s k c m within is t10 in
      let free : tally s.views (Free m) ≡ 1 = omega (arith, g.once) in
      let claims = g.claim_cleared t11 in
      let chans = g.chan_cleared t12 in
      let opens = l.reopens t4 in
      let runs : task s.words c ≡ RUNNING m = dite (ℕ_discrete (task s.words c) (RUNNING m)) (λ e. e) (λ ne. absurd (omega (arith, l.resting ne))) in
      let held = l.running runs in
      let begun = l.begun (λ e. absurd (omega arith)) in
      let picks = f.used both-done.0 in
      let waits = (waits_of x key s k c m within is).awake (λ e. absurd (omega arith)) in
      let none-claims : tally s.views (Claimed m) ≡ 0 = dite (ℕ_discrete (tally s.views (Claimed m)) 0) (λ z. z) (λ ne. absurd (omega (arith, (g.unsent (omega arith)).1))) in
      let some-cells : 0 < key.0 = k.small.0 in record {
        runs = runs;
        claim_is = claims.2;
        chan_is = chans.2;
        freed = omega (arith, f.counted, both-done.0, both-done.1);
        kept = both-done.1;
        all = λ q small. dite (ℕ_discrete q 0) (λ e. subst (λ z. tally s.views (mark z m) ≤ count (mark z m) v.marks) (sym e) (omega arith)) (λ n0. dite (ℕ_discrete q 1) (λ e. subst (λ z. tally s.views (mark z m) ≤ count (mark z m) v.marks) (sym e) (omega arith)) (λ n1. dite (ℕ_discrete q 2) (λ e. subst (λ z. tally s.views (mark z m) ≤ count (mark z m) v.marks) (sym e) (omega arith)) (λ n2. dite (ℕ_discrete q 3) (λ e. subst (λ z. tally s.views (mark z m) ≤ count (mark z m) v.marks) (sym e) (omega arith)) (λ n3. dite (ℕ_discrete q 4) (λ e. subst (λ z. tally s.views (mark z m) ≤ count (mark z m) v.marks) (sym e) (omega arith)) (λ n4. dite (ℕ_discrete q 5) (λ e. subst (λ z. tally s.views (mark z m) ≤ count (mark z m) v.marks) (sym e) (omega arith)) (λ n5. dite (ℕ_discrete q 6) (λ e. subst (λ z. tally s.views (mark z m) ≤ count (mark z m) v.marks) (sym e) (omega arith)) (λ n6. dite (ℕ_discrete q 7) (λ e. subst (λ z. tally s.views (mark z m) ≤ count (mark z m) v.marks) (sym e) (omega arith)) (λ n7. dite (ℕ_discrete q 8) (λ e. subst (λ z. tally s.views (mark z m) ≤ count (mark z m) v.marks) (sym e) (omega arith)) (λ n8. dite (ℕ_discrete q 9) (λ e. subst (λ z. tally s.views (mark z m) ≤ count (mark z m) v.marks) (sym e) (omega arith)) (λ n9. dite (ℕ_discrete q 10) (λ e. subst (λ z. tally s.views (mark z m) ≤ count (mark z m) v.marks) (sym e) (omega arith)) (λ n10. dite (ℕ_discrete q 11) (λ e. subst (λ z. tally s.views (mark z m) ≤ count (mark z m) v.marks) (sym e) (omega arith)) (λ n11. dite (ℕ_discrete q 12) (λ e. subst (λ z. tally s.views (mark z m) ≤ count (mark z m) v.marks) (sym e) (omega arith)) (λ n12. absurd (omega arith))))))))))))));
        none = λ q small n4 n10 n11 n12. dite (ℕ_discrete q 0) (λ e. subst (λ z. tally s.views (mark z m) ≡ 0) (sym e) (omega arith)) (λ z0. dite (ℕ_discrete q 1) (λ e. subst (λ z. tally s.views (mark z m) ≡ 0) (sym e) (omega arith)) (λ z1. dite (ℕ_discrete q 2) (λ e. subst (λ z. tally s.views (mark z m) ≡ 0) (sym e) (omega arith)) (λ z2. dite (ℕ_discrete q 3) (λ e. subst (λ z. tally s.views (mark z m) ≡ 0) (sym e) (omega arith)) (λ z3. dite (ℕ_discrete q 4) (λ e. absurd (n4 e)) (λ z4. dite (ℕ_discrete q 5) (λ e. subst (λ z. tally s.views (mark z m) ≡ 0) (sym e) (omega arith)) (λ z5. dite (ℕ_discrete q 6) (λ e. subst (λ z. tally s.views (mark z m) ≡ 0) (sym e) (omega arith)) (λ z6. dite (ℕ_discrete q 7) (λ e. subst (λ z. tally s.views (mark z m) ≡ 0) (sym e) (omega arith)) (λ z7. dite (ℕ_discrete q 8) (λ e. subst (λ z. tally s.views (mark z m) ≡ 0) (sym e) (omega arith)) (λ z8. dite (ℕ_discrete q 9) (λ e. subst (λ z. tally s.views (mark z m) ≡ 0) (sym e) (omega arith)) (λ z9. dite (ℕ_discrete q 10) (λ e. absurd (n10 e)) (λ z10. dite (ℕ_discrete q 11) (λ e. absurd (n11 e)) (λ z11. dite (ℕ_discrete q 12) (λ e. absurd (n12 e)) (λ z12. absurd (omega arith))))))))))))));
        once = (free, claims.1, chans.1, opens.0);
        parked_none = omega arith;
        gone = l.away (omega arith);
        vacant = g.vacant (λ e. omega (arith, chans.2)) (omega arith);
        drawn = dite (dec_le (get_or s.words 0 0) c) (λ le. absurd (omega (arith, (l.fresh le).0))) (λ gt. omega arith);
      }

  pub reopens_kept : (slots id : ℕ) (me : Me (Held L P) (View L A)) (m : ℕ) (load : L) (others : List (ℕ × Held L P)) → 0 < me.0.parts → me.1 ≡ (load_at (cell key.0 m), Some (Load load)) ∷ others → x.number load ≡ m + key.0 → m + key.0 ≤ 2 ^ 60
      → 0 < count (Free m) me.0.marks → 0 < count (ClaimCleared m) me.0.marks → 0 < count (ChanCleared m) me.0.marks → 0 < count (Reopening m) me.0.marks → IsNew x me.0 load
      → Allows (Rules x key) slots id me (task_at (cell key.0 m)) (λ _. READY (m + key.0)) (reopens x (step slots (task_at (cell key.0 m)) (READY (m + key.0)) 0 maybe.none) me)
  reopens_kept slots id me m load others live carries is-number small has10 has11 has12 has4 new s k wide at fits =
      let m0 : View L A = me.0 in
      let n : ℕ = key.0 in
      let p : ℕ = m + n in
      let c : ℕ = cell n m in
      let within : c < n = cell_below n m k.small.0 in
      let some-cells : 0 < n = k.small.0 in
      let is : k.now c ≡ m = present x key s k id m0 at 10 m (omega arith) has10 in
      let place : cell n p ≡ c = cell_next n m in
      let r = ready s k id m0 at c m within is has10 has11 has12 has4 in
      let f = retires_of x key s k c m within is in
      let ms1 : List ℕ = without (Free m) m0.marks in
      let ms2 : List ℕ = without (ClaimCleared m) ms1 in
      let ms3 : List ℕ = without (ChanCleared m) ms2 in
      let w : View L A = noted (task_at c) (task s.words c) (READY p) (reopening n m (x.title load) m0) in
      let h11 : 0 < count (ClaimCleared m) ms1 = omega (arith, lose_other 11 m 10 m m0.marks (omega arith) (omega arith) (inr (λ e. omega arith)) has10) in
      let h12 : 0 < count (ChanCleared m) ms2 = omega (arith, lose_other 12 m 10 m m0.marks (omega arith) (omega arith) (inr (λ e. omega arith)) has10, lose_other 12 m 11 m ms1 (omega arith) (omega arith) (inr (λ e. omega arith)) h11) in
      let h4 : 0 < count (Reopening m) ms3 = omega (arith, lose_other 4 m 10 m m0.marks (omega arith) (omega arith) (inr (λ e. omega arith)) has10, lose_other 4 m 11 m ms1 (omega arith) (omega arith) (inr (λ e. omega arith)) h11, lose_other 4 m 12 m ms2 (omega arith) (omega arith) (inr (λ e. omega arith)) h12) in
      let marks : (q j : ℕ) → q < 14 → (j ≢ m) ⊎ ((q ≢ 4) × (q ≢ 10) × (q ≢ 11) × (q ≢ 12)) → count (mark q j) w.marks ≡ count (mark q j) m0.marks = λ q j lt which.
      lose_other q j 4 m ms3 (omega arith) (omega arith) (⊎_elim (λ ne. inl ne) (λ t. inr t.0) which) h4
      ∙ (lose_other q j 12 m ms2 (omega arith) (omega arith) (⊎_elim (λ ne. inl ne) (λ t. inr t.3) which) h12
      ∙ (lose_other q j 11 m ms1 (omega arith) (omega arith) (⊎_elim (λ ne. inl ne) (λ t. inr t.2) which) h11
      ∙ lose_other q j 10 m m0.marks (omega arith) (omega arith) (⊎_elim (λ ne. inl ne) (λ t. inr t.1) which) has10)) in
      let lost10 : count (Free m) w.marks + 1 ≡ count (Free m) m0.marks = omega (arith, lose_other 10 m 4 m ms3 (omega arith) (omega arith) (inr (λ e. omega arith)) h4, lose_other 10 m 12 m ms2 (omega arith) (omega arith) (inr (λ e. omega arith)) h12, lose_other 10 m 11 m ms1 (omega arith) (omega arith) (inr (λ e. omega arith)) h11, less_here (Free m) m0.marks has10) in
      let lost11 : count (ClaimCleared m) w.marks + 1 ≡ count (ClaimCleared m) m0.marks = omega (arith, lose_other 11 m 4 m ms3 (omega arith) (omega arith) (inr (λ e. omega arith)) h4, lose_other 11 m 12 m ms2 (omega arith) (omega arith) (inr (λ e. omega arith)) h12, less_here (ClaimCleared m) ms1 h11, lose_other 11 m 10 m m0.marks (omega arith) (omega arith) (inr (λ e. omega arith)) has10) in
      let lost12 : count (ChanCleared m) w.marks + 1 ≡ count (ChanCleared m) m0.marks = omega (arith, lose_other 12 m 4 m ms3 (omega arith) (omega arith) (inr (λ e. omega arith)) h4, less_here (ChanCleared m) ms2 h12, lose_other 12 m 11 m ms1 (omega arith) (omega arith) (inr (λ e. omega arith)) h11, lose_other 12 m 10 m m0.marks (omega arith) (omega arith) (inr (λ e. omega arith)) has10) in
      let lost4 : count (Reopening m) w.marks + 1 ≡ count (Reopening m) m0.marks = omega (arith, less_here (Reopening m) ms3 h4, lose_other 4 m 12 m ms2 (omega arith) (omega arith) (inr (λ e. omega arith)) h12, lose_other 4 m 11 m ms1 (omega arith) (omega arith) (inr (λ e. omega arith)) h11, lose_other 4 m 10 m m0.marks (omega arith) (omega arith) (inr (λ e. omega arith)) has10) in
      -- the view has no mark of m but that of its kept load
      let none-left : (q : ℕ) → q < 13 → count (mark q m) w.marks ≡ 0 = λ q lt.
      dite (ℕ_discrete q 4) (λ e. subst (λ z. count (mark z m) w.marks ≡ 0) (sym e) (omega (arith, term_le (λ (z : View L A). count (Reopening m) z.marks) s.views id m0 at, r.once))) (λ n4.
      dite (ℕ_discrete q 10) (λ e. subst (λ z. count (mark z m) w.marks ≡ 0) (sym e) (omega (arith, term_le (λ (z : View L A). count (Free m) z.marks) s.views id m0 at, r.once))) (λ n10.
      dite (ℕ_discrete q 11) (λ e. subst (λ z. count (mark z m) w.marks ≡ 0) (sym e) (omega (arith, term_le (λ (z : View L A). count (ClaimCleared m) z.marks) s.views id m0 at, r.once))) (λ n11.
      dite (ℕ_discrete q 12) (λ e. subst (λ z. count (mark z m) w.marks ≡ 0) (sym e) (omega (arith, term_le (λ (z : View L A). count (ChanCleared m) z.marks) s.views id m0 at, r.once))) (λ n12.
      omega (arith, marks q m (omega arith) (inr (n4, n10, n11, n12)), term_le (λ (z : View L A). count (mark q m) z.marks) s.views id m0 at, r.none q lt n4 n10 n11 n12))))) in
      let now' : ℕ → ℕ = λ i. cond (eqb i c) p (k.now i) in
      let age' : ℕ → ℕ = λ i. cond (eqb i c) (k.age c + 1) (k.age i) in
      let now-here : (i : ℕ) → i ≡ c → now' i ≡ p = λ i e. ap (λ b. cond b p (k.now i)) (eq-eqb i c e) in
      let now-there : (i : ℕ) → i ≢ c → now' i ≡ k.now i = λ i ne. ap (λ b. cond b p (k.now i)) (ne_eqb i c ne) in
      let age-here : (i : ℕ) → i ≡ c → age' i ≡ k.age c + 1 = λ i e. ap (λ b. cond b (k.age c + 1) (k.age i)) (eq-eqb i c e) in
      let age-there : (i : ℕ) → i ≢ c → age' i ≡ k.age i = λ i ne. ap (λ b. cond b (k.age c + 1) (k.age i)) (ne_eqb i c ne) in
      let next-age : (k.age c + 1) * n ≡ k.age c * n + n = let one-more : k.age c + 1 ≡ suc (k.age c) = omega arith in ap (λ z. z * n) one-more ∙ suc-mul (k.age c) n in
      let grown : (i : ℕ) → k.now i ≤ now' i = λ i. dite (ℕ_discrete i c) (λ e. omega (arith, now-here i e, ap k.now e, is)) (λ ne. omega (arith, now-there i ne)) in
      let name' : ℕ → List ℕ = λ i. cond (eqb i p) (x.title load) (k.name i) in
      let its : name' p ≡ x.title load = ap (λ b. cond b (x.title load) (k.name p)) (eq-eqb p p refl) in
      let theirs : (i : ℕ) → i ≢ p → k.name i ≡ name' i = λ i ne. sym (ap (λ b. cond b (x.title load) (k.name i)) (ne_eqb i p ne)) in
      let y : ℕ = READY p in
      let ws : List ℕ = set s.words (task_at c) y in
      let near : task_at c < length s.words = omega (arith, k.wide) in
      let else : (j : ℕ) → j ≢ task_at c → get_or s.words j 0 ≡ get_or ws j 0 = λ j ne. sym (get_or-set_other s.words (task_at c) j y 0 ne) in
      let draw : get_or s.words 0 0 ≡ get_or ws 0 0 = else 0 (λ e. omega arith) in
      let claims : (i : ℕ) → claim s.words i ≡ claim ws i = λ i. else (claim_at i) (λ e. omega arith) in
      let chans-same : (i : ℕ) → chan s.words i ≡ chan ws i = λ i. else (chan_at i) (λ e. omega arith) in
      let retires-same : (i : ℕ) → retire s.words i ≡ retire ws i = λ i. else (retire_at i) (λ e. omega arith) in
      let here : task ws c ≡ y = get_or-set_same s.words (task_at c) y 0 near in
      let there : (i : ℕ) → i ≢ c → task s.words i ≡ task ws i = λ i ne. else (task_at i) (λ e. ne (omega arith)) in
      let parks : (j : ℕ) → parked n s.words j ≡ parked n ws j = λ j. below-same _ _ n (λ i _. ap (λ h. one (PARKED j) h) (chans-same i)) in
      let hs : Homes x key = set s.homes (load_at c) (some (Some (Load load))) in
      let back : get_elem? hs (load_at c) ≡ load_in load = at_place s.homes (load_at c) maybe.none (some (Some (Load load))) r.gone in
      let places : (j : ℕ) → j ≢ load_at c → get_elem? hs j ≡ get_elem? s.homes j = λ j ne. set_else s.homes (load_at c) j (some (Some (Load load))) ne in
      let moved = receipts_stay x key s id m0 w hs at (λ by i h. h) (shelf_stays x key s.homes (load_at c) maybe.none (some (Some (Load load))) r.gone (λ l e. cc)) in
      let tie = k.tied id m0 at in
      -- no view has a mark of the new number, and no load of it is kept
      let none-new : (q : ℕ) → q < 13 → tally s.views (mark q p) ≡ 0 = λ q lt. none_in (λ (u : View L A). count (mark q p) u.marks) s.views (λ j u at-j. dite (ℕ_discrete (count (mark q p) u.marks) 0) (λ z. z)
      (λ nz. absurd (omega (arith, present x key s k j u at-j q p lt (omega arith), ap k.now place, is)))) in
      let none-kept : tally s.views (Kept p) ≡ 0 = k.newer p (omega (arith, ap k.now place, is)) in
      let none-parked : parked n ws p ≡ 0 = sym (parks p) ∙ none-below _ n (λ i lt. one_other (PARKED p) (chan s.words i) (λ e. omega (arith, k.parks i p lt e, ap k.now place, is))) in
      let marks-p : (T : ℕ → ℕ) → After x key s.views m0 w T → (q : ℕ) → q < 13 → T (mark q p) ≡ 0 = λ T after q lt. after_same x key s.views m0 w T after (mark q p) (marks q p (omega arith) (inl (λ e. omega arith))) ∙ none-new q lt in
      let kept-p : (T : ℕ → ℕ) → After x key s.views m0 w T → T (Kept p) ≡ 0 = λ T after. after_same x key s.views m0 w T after (Kept p) (marks 13 p (omega arith) (inl (λ e. omega arith))) ∙ none-kept in
      let marks-i : (T : ℕ → ℕ) → After x key s.views m0 w T → (i : ℕ) → i < n → i ≢ c → (q : ℕ) → q < 14 → T (mark q (k.now i)) ≡ tally s.views (mark q (k.now i)) = λ T after i lt ne q lt'. after_same x key s.views m0 w T after (mark q (k.now i)) (marks q (k.now i) lt' (inl (apart x key s k c m i within is lt ne))) in
      let is-made : Made n now' ws p = (omega (arith, now-here (cell n p) place), λ z. absurd (omega (arith, ap (task ws) place, here))) in
      let grows : Grows x key k.name name' k.now k.age now' age' s.words ws = record {
        made = λ i was. (theirs i (λ e. omega (arith, was.0, ap (λ z. k.now (cell n z)) e, ap k.now place, is)), (omega (arith, was.0, grown (cell n i)), λ z. dite (ℕ_discrete (cell n i) c) (λ e. omega (arith, ap (task ws) e, here)) (λ ne. was.1 (there (cell n i) ne ∙ z))));
        sent = λ i was. ⊎_elim (λ e. inl (sym (chans-same (cell n i)) ∙ e))
            (λ d. inr (⊎_elim (λ e. inl (sym (chans-same (cell n i)) ∙ e)) (λ t. ⊎_elim
            (λ fr. dite (ℕ_discrete (cell n i) c) (λ e. inr (inr (omega (arith, fr.0, ap k.now e, is, now-here (cell n i) e))))
            (λ ne. inr (inl (now-there (cell n i) ne ∙ fr.0, sym (retires-same (cell n i)) ∙ (fr.1 ∙ ap (λ z. 2 * z + 2) (sym (age-there (cell n i) ne)))))))
            (λ lt. inr (inr (omega (arith, lt, grown (cell n i))))) t) d)) was;
      } in
      let present-w : (q j : ℕ) → q < 13 → 0 < count (mark q j) w.marks → now' (cell n j) ≡ j = λ q j lt has. dite (ℕ_discrete j m)
      (λ e. absurd (omega (arith, none-left q lt, subst (λ z. 0 < count (mark q z) w.marks) e has)))
      (λ ne. let old = present x key s k id m0 at q j lt (omega (arith, marks q j (omega arith) (inl ne))) in now-there (cell n j) (λ e. ne (sym old ∙ (ap k.now e ∙ is))) ∙ old) in
      let kept : Rules x key (st x key ws hs (set s.views id w)) = rebuilt x key s k id m0 w (task_at c) y hs name' now' age' record {
        me = at;
        live = live;
        parts = refl;
        log = refl;
        step = inr (reopen, m, (refl, r.runs, refl));
        tall = length-set s.homes (load_at c) (some (Some (Load load)));
        whole = λ i. dite (ℕ_discrete i c) (λ e. now-here i e ∙ ((let sum : p ≡ (k.age c + 1) * n + i = omega (arith, k.whole c, is, next-age, e) in sum) ∙ ap (λ z. z * n + i) (sym (age-here i e)))) (λ ne. now-there i ne ∙ (k.whole i ∙ ap (λ z. z * n + i) (sym (age-there i ne))));
        placed = λ i lt. dite (ℕ_discrete i c) (λ e. ap (cell n) (now-here i e) ∙ (place ∙ sym e)) (λ ne. ap (cell n) (now-there i ne) ∙ k.placed i lt);
        low = λ i lt. dite (ℕ_discrete i c) (λ e. omega (arith, now-here i e)) (λ ne. omega (arith, now-there i ne, k.low i lt));
        draws = omega (arith, draw, k.draws);
        loads = λ T after i lt. dite (ℕ_discrete i c)
            (λ e. subst (λ j. OneLoad x (get_or ws 0 0) j (now' j) (task ws j) T (get_elem? hs (load_at j))) (sym e)
            (subst (λ (q : ℕ × ℕ × ℕ). OneLoad x q.0 c q.1 q.2 T (get_elem? hs (load_at c))) (λ z. (draw z, sym (now-here c refl) z, sym here z))
            (let e0 : T (Drawn p) ≡ 0 = marks-p T after 0 (omega arith) in let e1 : T (Opening p) ≡ 0 = marks-p T after 1 (omega arith) in let e2 : T (InHand p) ≡ 0 = marks-p T after 2 (omega arith) in let e3 : T (Lifted p) ≡ 0 = marks-p T after 3 (omega arith) in let e4 : T (Reopening p) ≡ 0 = marks-p T after 4 (omega arith) in let e13 : T (Kept p) ≡ 0 = kept-p T after in record {
              unmade = λ z. absurd (omega arith);
              carried = λ _. (omega arith, omega arith);
              fresh = λ le. absurd (omega (arith, r.drawn));
              owed = λ _ z. absurd (omega arith);
              begun = λ _. omega arith;
              running = λ z. absurd (omega arith);
              resting = λ _. omega arith;
              stored = λ _ _. (load, back, is-number);
              vacant = λ z. absurd (omega arith);
              vacated = λ z. absurd (omega arith);
              away = λ h. absurd (omega arith);
              reopens = λ h. absurd (omega arith);
            })))
            (λ ne. load_as x _ i _ _ _ _ _ _ _ T _ (k.loads i lt) draw (sym (now-there i ne)) (there i ne) (sym (places (load_at i) (λ e. ne (omega arith)))) (λ q which. marks-i T after i lt ne q (⊎_elim (λ z. omega arith) (λ z. omega arith) which)));
        older = λ T after j lt. dite (ℕ_discrete (cell n j) c)
            (λ e. dite (ℕ_discrete j m) (λ same. ap (λ z. T (Kept z)) same ∙ (after_same x key s.views m0 w T after (Kept m) (marks 13 m (omega arith) (inr ((λ e'. omega arith), (λ e'. omega arith), (λ e'. omega arith), λ e'. omega arith))) ∙ r.kept))
            (λ ne. after_same x key s.views m0 w T after (Kept j) (marks 13 j (omega arith) (inl ne)) ∙ k.older j (dite (dec_le m j) (λ le. absurd (ne (sym (one_cell n m j (sym e) le (omega (arith, lt, now-here (cell n j) e)))))) (λ gt. omega (arith, ap k.now e, is)))))
            (λ ne. after_same x key s.views m0 w T after (Kept j) (marks 13 j (omega arith) (inr ((λ e'. omega arith), (λ e'. omega arith), (λ e'. omega arith), λ e'. omega arith))) ∙ k.older j (omega (arith, lt, now-there (cell n j) ne)));
        newer = λ T after j lt. after_same x key s.views m0 w T after (Kept j) (marks 13 j (omega arith) (inr ((λ e'. omega arith), (λ e'. omega arith), (λ e'. omega arith), λ e'. omega arith))) ∙ k.newer j (omega (arith, lt, grown (cell n j)));
        chans = λ T after i lt. dite (ℕ_discrete i c)
            (λ e. subst (λ j. OneParcel x n (now' j) (claim ws j) (chan ws j) T (get_elem? hs (parcel_at j))) (sym e)
            (subst (λ (q : ℕ × ℕ × ℕ). OneParcel x n q.0 q.1 q.2 T (get_elem? hs (parcel_at c))) (λ z. (sym (now-here c refl) z, claims c z, chans-same c z))
            (let e5 : T (Claimed p) ≡ 0 = marks-p T after 5 (omega arith) in let e6 : T (Picking p) ≡ 0 = marks-p T after 6 (omega arith) in let e10 : T (Free p) ≡ 0 = marks-p T after 10 (omega arith) in let e11 : T (ClaimCleared p) ≡ 0 = marks-p T after 11 (omega arith) in let e12 : T (ChanCleared p) ≡ 0 = marks-p T after 12 (omega arith) in record {
              claim_word = λ _ ne. absurd (ne r.claim_is);
              chan_word = λ _ ne. (omega (arith, r.chan_is), omega (arith, r.chan_is));
              unclaimed = λ _ z. ((λ q. omega (arith, r.chan_is)), λ q. omega (arith, r.chan_is));
              unsent = λ h. absurd (omega arith);
              sent = λ _ z. absurd (omega (arith, r.claim_is));
              once = omega arith;
              claim_stays = λ z. absurd (omega arith);
              claim_cleared = λ h. absurd (omega arith);
              chan_stays = λ z. absurd (omega arith);
              chan_cleared = λ h. absurd (omega arith);
              full = λ z. absurd (omega (arith, r.chan_is));
              vacant = λ _ _. places (parcel_at c) (λ z. omega arith) ∙ r.vacant;
              away = λ h. absurd (omega arith);
            })))
            (λ ne. chan_as x n _ _ _ _ _ _ _ _ T _ (k.chans i lt) (sym (now-there i ne)) (claims i) (chans-same i) (sym (places (parcel_at i) (λ e. omega arith))) (λ q low high seven eight. marks-i T after i lt ne q high));
        waits = λ T after i lt. dite (ℕ_discrete i c)
            (λ e. subst (λ j. OneWait (now' j) (task ws j) (parked n ws (now' j)) T) (sym e)
            (subst (λ (q : ℕ × ℕ). OneWait q.0 q.1 (parked n ws q.0) T) (λ z. (sym (now-here c refl) z, sym here z))
            (let e7 : T (Parking p) ≡ 0 = marks-p T after 7 (omega arith) in let e8 : T (Waking p) ≡ 0 = marks-p T after 8 (omega arith) in record { waiting = λ z. absurd (omega arith); awake = λ _. omega (arith, none-parked) })))
            (λ ne. wait_as _ _ _ _ _ _ _ T (k.waits i lt) (sym (now-there i ne)) (there i ne) (parks (k.now i) ∙ ap (parked n ws) (sym (now-there i ne))) (marks-i T after i lt ne 7 (omega arith)) (marks-i T after i lt ne 8 (omega arith)));
        parks = λ i j lt e. let was : chan s.words i ≡ PARKED j = chans-same i ∙ e in let old = k.parks i j lt was in dite (ℕ_discrete (cell n j) c)
            (λ q. let same : j ≡ m = sym old ∙ (ap k.now q ∙ is) in absurd (omega (arith, r.parked_none, below-term (λ z. one (PARKED m) (chan s.words z)) n i lt, ap (λ z. one (PARKED m) z) (was ∙ ap PARKED same), one_same (PARKED m))))
            (λ ne. now-there (cell n j) ne ∙ old);
        retires = λ T after i lt. dite (ℕ_discrete i c)
            (λ e. subst (λ j. TwoFinishers (age' j) (now' j) (chan ws j) (retire ws j) T) (sym e)
            (subst (λ (q : ℕ × ℕ × ℕ × ℕ). TwoFinishers q.0 q.1 q.2 q.3 T) (λ z. (sym (age-here c refl) z, sym (now-here c refl) z, chans-same c z, retires-same c z))
            (let e6 : T (Picking p) ≡ 0 = marks-p T after 6 (omega arith) in let e9 : T (Right p) ≡ 0 = marks-p T after 9 (omega arith) in let e10 : T (Free p) ≡ 0 = marks-p T after 10 (omega arith) in let e13 : T (Kept p) ≡ 0 = kept-p T after in record {
              receivers = 0;
              counted = omega (arith, r.freed);
              once = omega arith;
              free = λ z. absurd (omega arith);
              bound = λ _. e10;
              right = λ _ z. absurd (omega (arith, r.chan_is));
              none = λ _. omega arith;
              used = λ z. absurd (omega arith);
              done = λ z. absurd (omega arith);
            })))
            (λ ne. retire_as _ _ _ _ _ _ _ _ _ T (k.retires i lt) (sym (age-there i ne)) (sym (now-there i ne)) (chans-same i) (retires-same i) (λ q low high seven eight. marks-i T after i lt ne q high));
        made = grows.made;
        sent = grows.sent;
        good = view_on x key k.name name' k.now k.age now' age' s.words ws grows m0 w (k.views id m0 at)
            (λ e i. ⊎_elim (λ q. inr (subst (λ (z : ℕ × List ℕ). (name' z.0 ≡ z.1) × Made n now' ws z.0) (sym q) (its, is-made))) (λ i'. inl i') i)
            (λ i h. ⊎_elim (λ q. inr (subst (λ z. Made n now' ws z) (sym q) is-made)) (λ i'. inl i') h) (λ i h. inl h) (λ by i h. inl h) (λ e i. inl i) refl refl present-w;
        present = λ j u ne at-j q i lt has. let old = present x key s k j u at-j q i lt has in dite (ℕ_discrete (cell n i) c)
            (λ e. let same : i ≡ m = sym old ∙ (ap k.now e ∙ is) in absurd (omega (arith, r.all q lt, subst (λ z. 0 < count (mark q z) u.marks) same has, two_terms (λ (z : View L A). count (mark q m) z.marks) s.views j id u m0 ne at-j at)))
            (λ nc. now-there (cell n i) nc ∙ old);
        items = λ j item e. dite (ℕ_discrete j (load_at c))
            (λ q. let both : load_in {P = P} load ≡ load_in item = sym back ∙ (ap (λ i. get_elem? hs i) (sym q) ∙ e) in let one-load : load ≡ item = cc in
            inr (subst (λ (z : L). GoodLoad x n name' key.2 now' age' ws z) one-load record {
              named = λ e' i. ⊎_elim (λ q'. subst (λ (z : ℕ × List ℕ). (name' z.0 ≡ z.1) × Made n now' ws z.0) (sym (q' ∙ ap (λ z. (z, x.title load)) is-number)) (its, is-made))
                  (λ i'. named_on x key k.name name' k.now k.age now' age' s.words ws grows e' ((k.views id m0 at).named e' i')) (new.mentions e' i);
              forked = λ i h. absurd (subst (λ l. In i l) new.forked h);
              sent = λ i h. absurd (subst (λ l. In i l) new.sent h);
              received = λ i h. absurd (subst (λ l. In i l) new.received h);
              program = let both' : x.about load ∷ [] ≡ key.2 ∷ [] = sym new.program ∙ (k.views id m0 at).program live in cc;
            }))
            (λ ne. inl (sym (places j ne) ∙ e));
        parcels = λ j item e. dite (ℕ_discrete j (load_at c)) (λ q. let both : load_in {P = P} load ≡ parcel_in item = sym back ∙ (ap (λ i. get_elem? hs i) (sym q) ∙ e) in absurd cc) (λ ne. inl (sym (places j ne) ∙ e));
        received = λ i done. ⊎_elim (λ e. moved i (k.received i (inl (chans-same (cell n i) ∙ e)))) (λ t. ⊎_elim
            (λ fr. dite (ℕ_discrete (cell n i) c) (λ e. absurd (omega (arith, fr.1, age-here (cell n i) e, sym (retires-same (cell n i)), ap (retire s.words) e, r.freed)))
            (λ ne. moved i (k.received i (inr (inl (sym (now-there (cell n i) ne) ∙ fr.0, retires-same (cell n i) ∙ (fr.1 ∙ ap (λ z. 2 * z + 2) (age-there (cell n i) ne))))))))
            (λ lt. dite (ℕ_discrete (cell n i) c)
            (λ e. dite (ℕ_discrete i m) (λ same. moved i (k.received i (inr (inl (ap k.now e ∙ (is ∙ sym same), subst (λ z. Freed k.age s.words z) (sym e) r.freed)))))
            (λ ne. moved i (k.received i (inr (inr (dite (dec_le m i) (λ le. absurd (ne (sym (one_cell n m i (sym e) le (omega (arith, lt, now-here (cell n i) e)))))) (λ gt. omega (arith, ap k.now e, is))))))))
            (λ ne. moved i (k.received i (inr (inr (omega (arith, lt, now-there (cell n i) ne))))))) t) done;
        tied = tied_on x m0 w tie live tie.spends
            (λ by i h. omega (arith, tie.receipts by i h, marks 2 by (omega arith) (inr ((λ e. omega arith), (λ e. omega arith), (λ e. omega arith), λ e. omega arith)), marks 3 by (omega arith) (inr ((λ e. omega arith), (λ e. omega arith), (λ e. omega arith), λ e. omega arith)), marks 13 by (omega arith) (inr ((λ e. omega arith), (λ e. omega arith), (λ e. omega arith), λ e. omega arith))))
            (λ by i h has. h) refl (λ j. marks 13 j (omega arith) (inr ((λ e. omega arith), (λ e. omega arith), (λ e. omega arith), λ e. omega arith)))
            (λ j. dite (ℕ_discrete j m) (λ e. subst (λ z. (count (ClaimCleared z) w.marks ≤ count (Free z) w.marks) × (count (ChanCleared z) w.marks ≤ count (Free z) w.marks) × (count (Reopening z) w.marks ≤ count (Free z) w.marks)) (sym e)
            (omega (arith, none-left 11 (omega arith)), omega (arith, none-left 12 (omega arith)), omega (arith, none-left 4 (omega arith))))
            (λ ne. let z = tie.clears j in (omega (arith, z.0, marks 10 j (omega arith) (inl ne), marks 11 j (omega arith) (inl ne)), omega (arith, z.1, marks 10 j (omega arith) (inl ne), marks 12 j (omega arith) (inl ne)), omega (arith, z.2, marks 10 j (omega arith) (inl ne), marks 4 j (omega arith) (inl ne)))))
            (λ j item h. let z = tie.rests j item h in (z.0, omega (arith, z.1, marks 7 j (omega arith) (inr ((λ e. omega arith), (λ e. omega arith), (λ e. omega arith), λ e. omega arith)))));
        rested = λ j u i item at-j h. ⊎_elim
            (λ (q : (j ≡ id) × (w ≡ u)). resting_home x key s k id m0 at c m within is hs (λ z ne. places (load_at z) (λ e. ne (omega arith))) i item (subst (λ (z : View L A). In (i, item) z.resting) (sym q.1) h) (inr (inl (λ e. omega (arith, r.runs)))))
            (λ (q : (j ≢ id) × (get_elem? s.views j ≡ some u)). resting_home x key s k j u q.1 c m within is hs (λ z ne. places (load_at z) (λ e. ne (omega arith))) i item h (inr (inl (λ e. omega (arith, r.runs))))) (at_set s.views id j w u at-j);
      } in (
        w,
        gives,
        tt,
        subst (λ (l : List (ℕ × Held L P)). Rules x key (st x key ws (put_back s.homes l) (set s.views id w))) (sym carries) kept,
        (λ n' i place' item ns word there'. let n-is : n ≡ n' = omega (arith, k.tall) in let same : m ≡ i = omega arith in
            let one-load : load ≡ item = first_load x key (load_at c) place' load item others (rest me.1) (sym carries ∙ there') in
            λ q. (noted (task_at c) (task s.words c) (READY p) (reopening (n-is q) (same q) (x.title (one-load q)) m0), rest me.1)),
      )
