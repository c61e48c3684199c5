-- The retire steps keep the rule.
use Rattle.std.proofs.Common.{◌≡◌, ◌≢◌, ◌⊎◌, ℕ, ◌+◌, ◌%◌, ◌^◌, ◌<◌, ◌≤◌, [], ◌∷◌, set, sym, refl, ap, ◌∙◌, subst, inl, inr, ⊎_elim, arith}
use mathlib.Core.Logic.{dite}
use native.Mathlib.Decide.{ℕ_discrete}
use mathlib.Core.Option as maybe
use mathlib.Core.Option.{some, some-injective, some-ne-none}
use lib.ListN.{get_elem?}
use Rattle.cell_rules.specs.declared.view.View.{View}
use Rattle.cell_rules.specs.Lists.{count, without, In}
use Rattle.cell_rules.specs.Words.{cell, retire_at, parcel_at, task, claim, chan, retire, DONE, RUNNING, IsClaimed}
use Rattle.cell_rules.specs.Marks.{mark, Drawn, Opening, InHand, Lifted, Reopening, Claimed, Picking, Right, Free, ClaimCleared, ChanCleared, Kept}
use Rattle.cell_rules.specs.Table.{IsStep}
use Rattle.cell_rules.specs.Rule.{Means, Held, OneParcel, GoodLoad, Tied, tally, Rules}
use Rattle.std.proofs.Common.{true}
use Rattle.atomic_table.specs.Table.{keeps, Me, step, Allows}
use Rattle.cell_rules.specs.Table.{retire as step_retire}
use Rattle.std.proofs.Math.Nat.{le-mul_of_pos_right}
use Rattle.cell_rules.specs.Plays.{noted, spending_right, freeing_right, ending, freeing_end, retires, ends}
use Rattle.cell_rules.specs.Asks.{Knows, Tells}
use Rattle.cell_rules.proofs.Totals.{more_here, less_here}
use Rattle.cell_rules.proofs.Turns.{St, After, load_on}
use Rattle.cell_rules.proofs.Still.{cell_below, load_as, chan_five, present, has_some, loads_of, chans_of, retires_of, after_same}
use Rattle.cell_rules.proofs.Tallies.{gain_other, lose_other, turn_other, loses_tally, turns_tally, tied_on, tied_calm}
use Rattle.cell_rules.proofs.Channels.{at_retire}
use Rattle.cell_rules.proofs.Claims.{kept_once, calm_shift}
use Rattle.cell_rules.proofs.Puts.{known}

module _ {L P A : Type 0} (x : Means L P A) (key : ℕ × ℕ × A) where
  -- the count in a retire word is small
  few_ages : (s : St x key) (k : Rules x key s) (c : ℕ) → c < key.0 → k.age c ≤ 2 ^ 60
  few_ages s k c within = omega (arith, k.low c within, k.whole c, le-mul_of_pos_right (k.age c) k.small.0)

  -- the sides of a cell that becomes free
  freed_chan : (s : St x key) (k : Rules x key s) (c m : ℕ) → c < key.0 → k.now c ≡ m → chan s.words c ≡ DONE m → tally s.views (Free m) ≡ 0 → tally s.views (Picking m) ≡ 0 → (T : ℕ → ℕ)
      → T (Claimed m) ≡ tally s.views (Claimed m) → T (Picking m) ≡ tally s.views (Picking m) → T (Free m) ≡ 1 → T (ClaimCleared m) ≡ tally s.views (ClaimCleared m) → T (ChanCleared m) ≡ tally s.views (ChanCleared m)
      → OneParcel x key.0 m (claim s.words c) (chan s.words c) T (get_elem? s.homes (parcel_at c))
  freed_chan s k c m within is done not-free none-picks T e5 e6 e10 e11 e12 =
      let g = chans_of x key s k c m within is in
      let none-claims : tally s.views (Claimed m) ≡ 0 = dite (ℕ_discrete (tally s.views (Claimed m)) 0) (λ z. z) (λ ne. absurd ((g.unsent (omega arith)).4 done)) in
      let claimed : IsClaimed (claim s.words c) = g.claim_word not-free (λ e. (g.unclaimed not-free e).1 done) in
      record {
        claim_word = λ z. absurd (omega arith);
        chan_word = λ z. absurd (omega arith);
        unclaimed = λ z. absurd (omega arith);
        unsent = λ lt. absurd (omega arith);
        sent = λ z. absurd (omega arith);
        once = omega arith;
        claim_stays = λ _ _. claimed;
        claim_cleared = λ lt. absurd (omega (arith, (g.claim_cleared (omega arith)).0));
        chan_stays = λ _ _. done;
        chan_cleared = λ lt. absurd (omega (arith, (g.chan_cleared (omega arith)).0));
        full = λ e. absurd (omega arith);
        vacant = λ ne z. g.vacant ne (omega arith);
        away = λ lt. absurd (omega arith);
      }

  pub retires_kept : (slots id : ℕ) (me : Me (Held L P) (View L A)) (m : ℕ) → 0 < me.0.parts → 0 < count (Right m) me.0.marks
      → Allows (Rules x key) slots id me (retire_at (cell key.0 m)) (λ n. (n + 1) % 2 ^ 64) (retires (step slots (retire_at (cell key.0 m)) 1 0 maybe.none) me)
  retires_kept slots id me m live has s k wide at fits =
      let m0 : View L A = me.0 in
      let c : ℕ = cell key.0 m in
      let r : ℕ = retire s.words c in
      let y : ℕ = (r + 1) % 2 ^ 64 in
      let within : c < key.0 = cell_below key.0 m k.small.0 in
      let is : k.now c ≡ m = present x key s k id m0 at 9 m (omega arith) has in
      let some-have : 0 < tally s.views (Right m) = has_some x key s id m0 at (Right m) has in
      let f = retires_of x key s k c m within is in
      let g = chans_of x key s k c m within is in
      let done : chan s.words c ≡ DONE m = dite (ℕ_discrete (chan s.words c) (DONE m)) (λ e. e) (λ ne. absurd (omega (arith, f.none ne))) in
      let none-retired : f.receivers ≡ 0 = dite (ℕ_discrete f.receivers 0) (λ z. z) (λ nz. absurd (omega (arith, f.used (omega (arith, f.once))))) in
      let once = f.right none-retired done in
      let kept1 = kept_once x key s k c m within is in
      let not-free = f.bound (omega arith) in
      let few = few_ages s k c within in
      let more-one : y ≡ r + 1 = omega (arith, f.counted) in
      let tie = k.tied id m0 at in
      let row : IsStep key.0 record { seat = id; word = retire_at c; found = r; left = y } = inr (step_retire, m, (refl, more-one)) in
      let what : (w : View L A) → (n i : ℕ) → slots ≡ n + n → retire_at c ≡ retire_at (cell n i) → 0 < count (Right i) m0.marks → m ≡ i = λ w n i ns word has-i.
      let n-is : key.0 ≡ n = omega (arith, k.tall) in
      let cells : cell key.0 m ≡ cell key.0 i = omega (arith, ap (λ z. cell z i) n-is) in
      let now-i : k.now (cell key.0 i) ≡ i = present x key s k id m0 at 9 i (omega arith) has-i in sym is ∙ (ap k.now cells ∙ now-i) in
      dite (ℕ_discrete (tally s.views (Kept m)) 0)
      (λ none. let w : View L A = noted (retire_at c) r y (spending_right m m0) in
      let marks : (q j : ℕ) → q < 14 → (j ≢ m) ⊎ (q ≢ 9) → count (mark q j) w.marks ≡ count (mark q j) m0.marks = λ q j small which. lose_other q j 9 m m0.marks (omega arith) (omega arith) which has in (
        w,
        keeps,
        tt,
        at_retire x key s k id m0 w c m y record {
          shift = calm_shift x key s k id m0 w at live c m (retire_at c) y s.homes within is refl refl refl refl row refl
              (λ q j small seven eight ne. marks q j small (inl ne)) (λ q j which ne h. inl (omega (arith, marks q j (⊎_elim (λ e. omega arith) (λ e. omega arith) which) (inl ne))))
              (λ grows e i. inl i) refl (λ i h. inl h) (λ grows by i h. inl h) (λ grows e i. inl i)
              (tied_calm x m0 w tie live tie.spends refl refl refl (λ j. omega (arith, marks 2 j (omega arith) (inr (λ e. omega arith)), marks 3 j (omega arith) (inr (λ e. omega arith))))
              (λ q j which. marks q j (⊎_elim (λ e. omega arith) (λ z. omega arith) which) (inr (λ e. ⊎_elim (λ f'. omega arith) (λ z. omega arith) which)))
              (λ j. omega (arith, marks 4 j (omega arith) (inr (λ e. omega arith)), (tie.clears j).2)))
              (λ by i r'. r') (λ j item there. there) (λ i. refl) (λ i item r'. r');
          calm = λ q which. marks q m (⊎_elim (λ e. omega arith) (λ e. omega arith) which) (inr (λ e. ⊎_elim (λ f'. omega arith) (λ f'. omega arith) which));
          awake = λ q j which ne. marks q j (⊎_elim (λ e. omega arith) (λ e. omega arith) which) (inl ne);
          load = λ T after. load_as x _ c _ _ _ _ _ _ _ T _ (loads_of x key s k c m within is) refl refl refl refl (λ q which. after_same x key s.views m0 w T after (mark q m) (marks q m (⊎_elim (λ e. omega arith) (λ z. omega arith) which) (inr (λ e. ⊎_elim (λ f'. omega arith) (λ z. omega arith) which))));
          chan = λ T after. let u = loses_tally x key s.views m0 w T after (Right m) refl has in
              let e5 : T (Claimed m) ≡ tally s.views (Claimed m) = u.1 (Claimed m) (λ e. omega arith) in
              let e6 : T (Picking m) ≡ tally s.views (Picking m) = u.1 (Picking m) (λ e. omega arith) in
              let e10 : T (Free m) ≡ tally s.views (Free m) = u.1 (Free m) (λ e. omega arith) in
              let e11 : T (ClaimCleared m) ≡ tally s.views (ClaimCleared m) = u.1 (ClaimCleared m) (λ e. omega arith) in
              let e12 : T (ChanCleared m) ≡ tally s.views (ChanCleared m) = u.1 (ChanCleared m) (λ e. omega arith) in
              record {
                claim_word = λ z. g.claim_word not-free;
                chan_word = λ z. g.chan_word not-free;
                unclaimed = λ z. g.unclaimed not-free;
                unsent = λ lt. absurd ((g.unsent (omega arith)).4 done);
                sent = λ z c' e. g.sent not-free c' (omega arith);
                once = omega arith;
                claim_stays = λ e. absurd (omega arith);
                claim_cleared = λ lt. absurd (omega (arith, (g.claim_cleared (omega arith)).0));
                chan_stays = λ e z. done;
                chan_cleared = λ lt. absurd (omega (arith, (g.chan_cleared (omega arith)).0));
                full = λ e. absurd (omega arith);
                vacant = λ ne z. g.vacant ne (omega arith);
                away = λ lt. g.away (omega arith);
              };
          retire = λ T after. let u = loses_tally x key s.views m0 w T after (Right m) refl has in
              let e6 : T (Picking m) ≡ tally s.views (Picking m) = u.1 (Picking m) (λ e. omega arith) in
              let e9 : T (Right m) + 1 ≡ tally s.views (Right m) = u.0 in
              let e10 : T (Free m) ≡ tally s.views (Free m) = u.1 (Free m) (λ e. omega arith) in
              let e13 : T (Kept m) ≡ tally s.views (Kept m) = u.1 (Kept m) (λ e. omega arith) in
              record {
                receivers = 1;
                counted = omega (arith, f.counted);
                once = omega arith;
                free = λ e. absurd (omega arith);
                bound = λ e. omega arith;
                right = λ z. absurd (omega arith);
                none = λ ne. absurd (ne done);
                used = λ _. omega arith;
                done = λ _ _. done;
              };
          stays = λ fr. absurd (omega (arith, f.counted));
          freed = λ e. inl done;
        },
        λ n i ns word has-i. let same : m ≡ i = what w n i ns word has-i in ((λ _ q. (noted (retire_at c) r (more-one q) (spending_right (same q) m0), me.1)), λ odd. absurd (omega (arith, f.counted))),
      ))
      (λ some-kept. let w : View L A = noted (retire_at c) r y (freeing_right m m0) in
      let marks : (q j : ℕ) → q < 14 → (j ≢ m) ⊎ ((q ≢ 9) × (q ≢ 10)) → count (mark q j) w.marks ≡ count (mark q j) m0.marks = λ q j small which. turn_other q j 9 10 m m0.marks (omega arith) (omega arith) (omega arith) which has in
      let more-free : (j : ℕ) → count (Free j) m0.marks ≤ count (Free j) w.marks = λ j. dite (ℕ_discrete j m) (λ e. subst (λ z. count (Free z) m0.marks ≤ count (Free z) w.marks) (sym e) (omega (arith, more_here (Free m) (without (Right m) m0.marks), lose_other 10 m 9 m m0.marks (omega arith) (omega arith) (inr (λ e'. omega arith)) has))) (λ ne. omega (arith, marks 10 j (omega arith) (inl ne))) in (
        w,
        keeps,
        tt,
        at_retire x key s k id m0 w c m y record {
          shift = calm_shift x key s k id m0 w at live c m (retire_at c) y s.homes within is refl refl refl refl row refl
              (λ q j small seven eight ne. marks q j small (inl ne)) (λ q j which ne h. inl (omega (arith, marks q j (⊎_elim (λ e. omega arith) (λ e. omega arith) which) (inl ne))))
              (λ grows e i. inl i) refl (λ i h. inl h) (λ grows by i h. inl h) (λ grows e i. inl i)
              (tied_on x m0 w tie live tie.spends
              (λ by i r'. omega (arith, tie.receipts by i r', marks 2 by (omega arith) (inr ((λ e. omega arith), λ e. omega arith)), marks 3 by (omega arith) (inr ((λ e. omega arith), λ e. omega arith)), marks 13 by (omega arith) (inr ((λ e. omega arith), λ e. omega arith))))
              (λ by i r' h. r') refl (λ j. marks 13 j (omega arith) (inr ((λ e. omega arith), λ e. omega arith)))
              (λ j. let z = tie.clears j in
              (omega (arith, z.0, more-free j, marks 11 j (omega arith) (inr ((λ e. omega arith), λ e. omega arith))), omega (arith, z.1, more-free j, marks 12 j (omega arith) (inr ((λ e. omega arith), λ e. omega arith))), omega (arith, z.2, more-free j, marks 4 j (omega arith) (inr ((λ e. omega arith), λ e. omega arith)))))
              (λ j item r'. let z = tie.rests j item r' in (z.0, omega (arith, z.1, marks 7 j (omega arith) (inr ((λ e. omega arith), λ e. omega arith))))))
              (λ by i r'. r') (λ j item there. there) (λ i. refl) (λ i item r'. r');
          calm = λ q which. marks q m (⊎_elim (λ e. omega arith) (λ e. omega arith) which) (inr ((λ e. ⊎_elim (λ f'. omega arith) (λ f'. omega arith) which), λ e. ⊎_elim (λ f'. omega arith) (λ f'. omega arith) which));
          awake = λ q j which ne. marks q j (⊎_elim (λ e. omega arith) (λ e. omega arith) which) (inl ne);
          load = λ T after. load_as x _ c _ _ _ _ _ _ _ T _ (loads_of x key s k c m within is) refl refl refl refl (λ q which. after_same x key s.views m0 w T after (mark q m) (marks q m (⊎_elim (λ e. omega arith) (λ z. omega arith) which) (inr ((λ e. ⊎_elim (λ f'. omega arith) (λ z. omega arith) which), λ e. ⊎_elim (λ f'. omega arith) (λ z. omega arith) which))));
          chan = λ T after. let u = turns_tally x key s.views m0 w T after (Right m) (Free m) refl (λ e. omega arith) has in
              let e5 : T (Claimed m) ≡ tally s.views (Claimed m) = u.2 (Claimed m) (λ e. omega arith) (λ e. omega arith) in
              let e6 : T (Picking m) ≡ tally s.views (Picking m) = u.2 (Picking m) (λ e. omega arith) (λ e. omega arith) in
              let e9 : T (Right m) + 1 ≡ tally s.views (Right m) = u.0 in
              let e10 : T (Free m) ≡ tally s.views (Free m) + 1 = u.1 in
              let e11 : T (ClaimCleared m) ≡ tally s.views (ClaimCleared m) = u.2 (ClaimCleared m) (λ e. omega arith) (λ e. omega arith) in
              let e12 : T (ChanCleared m) ≡ tally s.views (ChanCleared m) = u.2 (ChanCleared m) (λ e. omega arith) (λ e. omega arith) in
              freed_chan s k c m within is done not-free (omega arith) T e5 e6 (omega arith) e11 e12;
          retire = λ T after. let u = turns_tally x key s.views m0 w T after (Right m) (Free m) refl (λ e. omega arith) has in
              let e6 : T (Picking m) ≡ tally s.views (Picking m) = u.2 (Picking m) (λ e. omega arith) (λ e. omega arith) in
              let e9 : T (Right m) + 1 ≡ tally s.views (Right m) = u.0 in
              let e10 : T (Free m) ≡ tally s.views (Free m) + 1 = u.1 in
              let e13 : T (Kept m) ≡ tally s.views (Kept m) = u.2 (Kept m) (λ e. omega arith) (λ e. omega arith) in
              record {
                receivers = 1;
                counted = omega (arith, f.counted);
                once = omega arith;
                free = λ e. omega arith;
                bound = λ e. absurd (omega arith);
                right = λ z. absurd (omega arith);
                none = λ ne. absurd (ne done);
                used = λ _. omega arith;
                done = λ _ _. done;
              };
          stays = λ fr. absurd (omega (arith, f.counted));
          freed = λ e. inl done;
        },
        λ n i ns word has-i. let same : m ≡ i = what w n i ns word has-i in ((λ even. absurd (omega (arith, f.counted))), λ _ q. (noted (retire_at c) r (more-one q) (freeing_right (same q) m0), me.1)),
      ))

  -- the view whose load is kept from now on hangs together
  ended_tied : (v w : View L A) → Tied x v → 0 < v.parts → (m : ℕ) (load : L) → x.number load ≡ m → x.ended load ≡ true → Tells x v load m → 0 < count (InHand m) v.marks → (0 < count (Kept m) v.marks → ⊥)
      → w.parts ≡ v.parts → w.spent ≡ v.spent → w.receipts ≡ v.receipts → w.resting ≡ v.resting → w.kept ≡ (m, load) ∷ v.kept
      → ((q j : ℕ) → q < 14 → (j ≢ m) ⊎ ((q ≢ 2) × (q ≢ 13) × (q ≢ 10)) → count (mark q j) w.marks ≡ count (mark q j) v.marks) → 0 < count (Kept m) w.marks → ((j : ℕ) → count (Free j) v.marks ≤ count (Free j) w.marks)
      → Tied x w
  ended_tied v w tie live m load is-number has-ended tells has none parts spent receipts resting kept marks keeps-it more-free =
      let at13 : (j : ℕ) → j ≢ m → count (Kept j) w.marks ≡ count (Kept j) v.marks = λ j ne. marks 13 j (omega arith) (inl ne) in
      let keeps-more : (j : ℕ) → 0 < count (Kept j) v.marks → 0 < count (Kept j) w.marks = λ j h. dite (ℕ_discrete j m) (λ e. subst (λ z. 0 < count (Kept z) w.marks) (sym e) keeps-it) (λ ne. omega (arith, at13 j ne)) in
      record {
        spends = omega (arith, tie.spends);
        idle = λ z. absurd (omega arith);
        receipts = λ by i r. dite (ℕ_discrete by m) (λ e. subst (λ z. 0 < count (InHand z) w.marks + count (Lifted z) w.marks + count (Kept z) w.marks) (sym e) (omega arith))
            (λ ne. omega (arith, tie.receipts by i (subst (λ l. In (by, i) l) receipts r), marks 2 by (omega arith) (inl ne), marks 3 by (omega arith) (inl ne), at13 by ne));
        kept = λ j item i. ⊎_elim
            (λ e. let first : m ≡ j = ap (λ (p : ℕ × L). p.0) (sym e) in let second : load ≡ item = ap (λ (p : ℕ × L). p.1) (sym e) in
            (ap x.number (sym second) ∙ (is-number ∙ first), ap x.ended (sym second) ∙ has-ended, subst (λ z. 0 < count (Kept z) w.marks) first keeps-it, λ r in-w. subst (λ (z : L). In r (x.received z)) second (tells r (subst (λ z. In (z, r) v.receipts) (sym first) (subst (λ l. In (j, r) l) receipts in-w)))))
            (λ old. let t = tie.kept j item old in (t.0, t.1, keeps-more j t.2, λ r in-w. t.3 r (subst (λ l. In (j, r) l) receipts in-w))) (subst (λ l. In (j, item) l) kept i);
        keeps = λ j h. dite (ℕ_discrete j m) (λ e. (load, subst (λ l. In (j, load) l) (sym kept) (inl (λ z. (e z, load)))))
            (λ ne. let t = tie.keeps j (omega (arith, at13 j ne)) in (t.0, subst (λ l. In (j, t.0) l) (sym kept) (inr t.1)));
        clears = λ j. let z = tie.clears j in
            (omega (arith, z.0, more-free j, marks 11 j (omega arith) (inr ((λ e. omega arith), (λ e. omega arith), λ e. omega arith))), omega (arith, z.1, more-free j, marks 12 j (omega arith) (inr ((λ e. omega arith), (λ e. omega arith), λ e. omega arith))), omega (arith, z.2, more-free j, marks 4 j (omega arith) (inr ((λ e. omega arith), (λ e. omega arith), λ e. omega arith))));
        rests = λ j item r. let z = tie.rests j item (subst (λ l. In (j, item) l) resting r) in (z.0, omega (arith, z.1, marks 7 j (omega arith) (inr ((λ e. omega arith), (λ e. omega arith), λ e. omega arith))));
      }

  pub ends_kept : (slots id : ℕ) (me : Me (Held L P) (View L A)) (m : ℕ) (load : L) → 0 < me.0.parts → x.number load ≡ m → x.ended load ≡ true → 0 < count (InHand m) me.0.marks → Knows x me.0 load → Tells x me.0 load m
      → Allows (Rules x key) slots id me (retire_at (cell key.0 m)) (λ n. (n + 1) % 2 ^ 64) (ends (load ∷ []) (step slots (retire_at (cell key.0 m)) 1 0 maybe.none) me)
  ends_kept slots id me m load live is-number has-ended has knows tells s k wide at fits =
      let m0 : View L A = me.0 in
      let c : ℕ = cell key.0 m in
      let r : ℕ = retire s.words c in
      let y : ℕ = (r + 1) % 2 ^ 64 in
      let within : c < key.0 = cell_below key.0 m k.small.0 in
      let is : k.now c ≡ m = present x key s k id m0 at 2 m (omega arith) has in
      let some-have : 0 < tally s.views (InHand m) = has_some x key s id m0 at (InHand m) has in
      let f = retires_of x key s k c m within is in
      let g = chans_of x key s k c m within is in
      let l = loads_of x key s k c m within is in
      let runs : task s.words c ≡ RUNNING m = dite (ℕ_discrete (task s.words c) (RUNNING m)) (λ e. e) (λ ne. absurd (omega (arith, l.resting ne))) in
      let held = l.running runs in
      let none-open : tally s.views (Reopening m) ≡ 0 = dite (ℕ_discrete (tally s.views (Reopening m)) 0) (λ z. z) (λ ne. absurd (omega (arith, (l.reopens (omega arith)).1))) in
      let not-free = f.bound (omega (arith, f.once)) in
      let few = few_ages s k c within in
      let more-one : y ≡ r + 1 = omega (arith, f.counted, f.once) in
      let tie = k.tied id m0 at in
      let row : IsStep key.0 record { seat = id; word = retire_at c; found = r; left = y } = inr (step_retire, m, (refl, more-one)) in
      let none-kept : 0 < count (Kept m) m0.marks → ⊥ = λ h. omega (arith, has_some x key s id m0 at (Kept m) h) in
      let good = known x key s k id m0 at live load knows in
      let same-load : (loads-item : L) → load ∷ [] ≡ loads-item ∷ [] → load ≡ loads-item = λ item e. cc in
      let what : (n i : ℕ) → slots ≡ n + n → retire_at c ≡ retire_at (cell n i) → 0 < count (InHand i) m0.marks → m ≡ i = λ n i ns word has-i.
      let n-is : key.0 ≡ n = omega (arith, k.tall) in
      let cells : cell key.0 m ≡ cell key.0 i = omega (arith, ap (λ z. cell z i) n-is) in
      let now-i : k.now (cell key.0 i) ≡ i = present x key s k id m0 at 2 i (omega arith) has-i in sym is ∙ (ap k.now cells ∙ now-i) in
      dite (ℕ_discrete f.receivers 0)
      (λ none. let w : View L A = noted (retire_at c) r y (ending m load m0) in
      let marks : (q j : ℕ) → q < 14 → (j ≢ m) ⊎ ((q ≢ 2) × (q ≢ 13)) → count (mark q j) w.marks ≡ count (mark q j) m0.marks = λ q j small which. turn_other q j 2 13 m m0.marks (omega arith) (omega arith) (omega arith) which has in (
        w,
        keeps,
        tt,
        at_retire x key s k id m0 w c m y record {
          shift = calm_shift x key s k id m0 w at live c m (retire_at c) y s.homes within is refl refl refl refl row refl
              (λ q j small seven eight ne. marks q j small (inl ne)) (λ q j which ne h. inl (omega (arith, marks q j (⊎_elim (λ e. omega arith) (λ e. omega arith) which) (inl ne))))
              (λ grows e i. inl i) refl (λ i h. inl h) (λ grows by i h. inl h)
              (λ grows e i. ⊎_elim (λ q. inr (subst (λ (z : ℕ × L). GoodLoad x key.0 k.name key.2 k.now k.age (set s.words (retire_at c) y) z.1) (sym q) (load_on x key k.name k.name k.now k.age k.now k.age s.words _ grows load good))) (λ old. inl old) i)
              (ended_tied m0 w tie live m load is-number has-ended tells has none-kept refl refl refl refl refl (λ q j small which. marks q j small (⊎_elim (λ ne. inl ne) (λ t. inr (t.0, t.1)) which))
              (omega (arith, more_here (Kept m) (without (InHand m) m0.marks))) (λ j. omega (arith, marks 10 j (omega arith) (inr ((λ e. omega arith), λ e. omega arith)))))
              (λ by i r'. r') (λ j item there. there) (λ i. refl) (λ i item r'. r');
          calm = λ q which. marks q m (⊎_elim (λ e. omega arith) (λ e. omega arith) which) (inr ((λ e. ⊎_elim (λ f'. omega arith) (λ f'. omega arith) which), λ e. ⊎_elim (λ f'. omega arith) (λ f'. omega arith) which));
          awake = λ q j which ne. marks q j (⊎_elim (λ e. omega arith) (λ e. omega arith) which) (inl ne);
          load = λ T after. let u = turns_tally x key s.views m0 w T after (InHand m) (Kept m) refl (λ e. omega arith) has in
              let e0 : T (Drawn m) ≡ tally s.views (Drawn m) = u.2 (Drawn m) (λ e. omega arith) (λ e. omega arith) in
              let e1 : T (Opening m) ≡ tally s.views (Opening m) = u.2 (Opening m) (λ e. omega arith) (λ e. omega arith) in
              let e2 : T (InHand m) + 1 ≡ tally s.views (InHand m) = u.0 in
              let e3 : T (Lifted m) ≡ tally s.views (Lifted m) = u.2 (Lifted m) (λ e. omega arith) (λ e. omega arith) in
              let e4 : T (Reopening m) ≡ tally s.views (Reopening m) = u.2 (Reopening m) (λ e. omega arith) (λ e. omega arith) in
              let e13 : T (Kept m) ≡ tally s.views (Kept m) + 1 = u.1 in
              record {
                unmade = l.unmade;
                carried = l.carried;
                fresh = λ le. absurd (omega (arith, (l.fresh le).0));
                owed = λ _ e. absurd (omega arith);
                begun = λ ne. omega (arith, l.begun ne);
                running = λ e. omega arith;
                resting = λ ne. absurd (ne runs);
                stored = l.stored;
                vacant = λ e z. l.vacant e (omega arith);
                vacated = λ e z. l.vacated e (omega arith);
                away = λ h. l.away (omega arith);
                reopens = λ h. absurd (omega arith);
              };
          chan = λ T after. let u = turns_tally x key s.views m0 w T after (InHand m) (Kept m) refl (λ e. omega arith) has in
              let e5 : T (Claimed m) ≡ tally s.views (Claimed m) = u.2 (Claimed m) (λ e. omega arith) (λ e. omega arith) in
              let e6 : T (Picking m) ≡ tally s.views (Picking m) = u.2 (Picking m) (λ e. omega arith) (λ e. omega arith) in
              let e10 : T (Free m) ≡ tally s.views (Free m) = u.2 (Free m) (λ e. omega arith) (λ e. omega arith) in
              let e11 : T (ClaimCleared m) ≡ tally s.views (ClaimCleared m) = u.2 (ClaimCleared m) (λ e. omega arith) (λ e. omega arith) in
              let e12 : T (ChanCleared m) ≡ tally s.views (ChanCleared m) = u.2 (ChanCleared m) (λ e. omega arith) (λ e. omega arith) in
              chan_five x key.0 _ _ _ _ T _ g e5 e6 e10 e11 e12;
          retire = λ T after. let u = turns_tally x key s.views m0 w T after (InHand m) (Kept m) refl (λ e. omega arith) has in
              let e6 : T (Picking m) ≡ tally s.views (Picking m) = u.2 (Picking m) (λ e. omega arith) (λ e. omega arith) in
              let e9 : T (Right m) ≡ tally s.views (Right m) = u.2 (Right m) (λ e. omega arith) (λ e. omega arith) in
              let e10 : T (Free m) ≡ tally s.views (Free m) = u.2 (Free m) (λ e. omega arith) (λ e. omega arith) in
              let e13 : T (Kept m) ≡ tally s.views (Kept m) + 1 = u.1 in
              record {
                receivers = 0;
                counted = omega (arith, f.counted);
                once = omega arith;
                free = λ e. absurd (omega arith);
                bound = λ e. omega arith;
                right = λ _ e. omega (arith, f.right none e);
                none = λ ne. omega (arith, f.none ne);
                used = λ e. absurd (omega arith);
                done = λ e. absurd (omega arith);
              };
          stays = λ fr. absurd (omega (arith, f.counted));
          freed = λ e. absurd (omega (arith, f.counted));
        },
        λ n i item ns word has-i one-item. let same : m ≡ i = what n i ns word has-i in let one-load : load ≡ item = same-load item one-item in
            ((λ _ q. (noted (retire_at c) r (more-one q) (ending (same q) (one-load q) m0), me.1)), λ odd. absurd (omega (arith, f.counted))),
      ))
      (λ some-retired. let w : View L A = noted (retire_at c) r y (freeing_end m load m0) in
      let one-receiver : f.receivers ≡ 1 = omega (arith, f.once) in
      let done : chan s.words c ≡ DONE m = f.done one-receiver (omega arith) in
      let none-picks = f.used one-receiver in
      let marks : (q j : ℕ) → q < 14 → (j ≢ m) ⊎ ((q ≢ 2) × (q ≢ 13) × (q ≢ 10)) → count (mark q j) w.marks ≡ count (mark q j) m0.marks = λ q j small which. gain_other q j 10 m (Kept m ∷ without (InHand m) m0.marks) (omega arith) (omega arith) (⊎_elim (λ ne. inl ne) (λ t. inr t.2) which)
      ∙ turn_other q j 2 13 m m0.marks (omega arith) (omega arith) (omega arith) (⊎_elim (λ ne. inl ne) (λ t. inr (t.0, t.1)) which) has in
      let k13 : count (Kept m) w.marks ≡ count (Kept m) m0.marks + 1 = omega (arith, gain_other 13 m 10 m (Kept m ∷ without (InHand m) m0.marks) (omega arith) (omega arith) (inr (λ e. omega arith)), more_here (Kept m) (without (InHand m) m0.marks), lose_other 13 m 2 m m0.marks (omega arith) (omega arith) (inr (λ e. omega arith)) has) in
      let k2 : count (InHand m) w.marks + 1 ≡ count (InHand m) m0.marks = omega (arith, gain_other 2 m 10 m (Kept m ∷ without (InHand m) m0.marks) (omega arith) (omega arith) (inr (λ e. omega arith)), gain_other 2 m 13 m (without (InHand m) m0.marks) (omega arith) (omega arith) (inr (λ e. omega arith)), less_here (InHand m) m0.marks has) in
      let k10 : count (Free m) w.marks ≡ count (Free m) m0.marks + 1 = omega (arith, more_here (Free m) (Kept m ∷ without (InHand m) m0.marks), turn_other 10 m 2 13 m m0.marks (omega arith) (omega arith) (omega arith) (inr ((λ e. omega arith), λ e. omega arith)) has) in
      let tallies : (T : ℕ → ℕ) → After x key s.views m0 w T → (T (InHand m) + 1 ≡ tally s.views (InHand m)) × (T (Kept m) ≡ tally s.views (Kept m) + 1) × (T (Free m) ≡ tally s.views (Free m) + 1) × ((q : ℕ) → q < 14 → q ≢ 2 → q ≢ 13 → q ≢ 10 → T (mark q m) ≡ tally s.views (mark q m)) =
      λ T after. (omega (arith, after (InHand m)), omega (arith, after (Kept m)), omega (arith, after (Free m)), λ q small n2 n13 n10. after_same x key s.views m0 w T after (mark q m) (marks q m small (inr (n2, n13, n10)))) in (
        w,
        keeps,
        tt,
        at_retire x key s k id m0 w c m y record {
          shift = calm_shift x key s k id m0 w at live c m (retire_at c) y s.homes within is refl refl refl refl row refl
              (λ q j small seven eight ne. marks q j small (inl ne)) (λ q j which ne h. inl (omega (arith, marks q j (⊎_elim (λ e. omega arith) (λ e. omega arith) which) (inl ne))))
              (λ grows e i. inl i) refl (λ i h. inl h) (λ grows by i h. inl h)
              (λ grows e i. ⊎_elim (λ q. inr (subst (λ (z : ℕ × L). GoodLoad x key.0 k.name key.2 k.now k.age (set s.words (retire_at c) y) z.1) (sym q) (load_on x key k.name k.name k.now k.age k.now k.age s.words _ grows load good))) (λ old. inl old) i)
              (ended_tied m0 w tie live m load is-number has-ended tells has none-kept refl refl refl refl refl marks (omega arith)
              (λ j. dite (ℕ_discrete j m) (λ e. subst (λ z. count (Free z) m0.marks ≤ count (Free z) w.marks) (sym e) (omega arith)) (λ ne. omega (arith, marks 10 j (omega arith) (inl ne)))))
              (λ by i r'. r') (λ j item there. there) (λ i. refl) (λ i item r'. r');
          calm = λ q which. marks q m (⊎_elim (λ e. omega arith) (λ e. omega arith) which) (inr ((λ e. ⊎_elim (λ f'. omega arith) (λ f'. omega arith) which), (λ e. ⊎_elim (λ f'. omega arith) (λ f'. omega arith) which), λ e. ⊎_elim (λ f'. omega arith) (λ f'. omega arith) which));
          awake = λ q j which ne. marks q j (⊎_elim (λ e. omega arith) (λ e. omega arith) which) (inl ne);
          load = λ T after. let u = tallies T after in
              let e0 : T (Drawn m) ≡ tally s.views (Drawn m) = u.3 0 (omega arith) (λ e. omega arith) (λ e. omega arith) (λ e. omega arith) in
              let e1 : T (Opening m) ≡ tally s.views (Opening m) = u.3 1 (omega arith) (λ e. omega arith) (λ e. omega arith) (λ e. omega arith) in
              let e2 : T (InHand m) + 1 ≡ tally s.views (InHand m) = u.0 in
              let e3 : T (Lifted m) ≡ tally s.views (Lifted m) = u.3 3 (omega arith) (λ e. omega arith) (λ e. omega arith) (λ e. omega arith) in
              let e4 : T (Reopening m) ≡ tally s.views (Reopening m) = u.3 4 (omega arith) (λ e. omega arith) (λ e. omega arith) (λ e. omega arith) in
              let e13 : T (Kept m) ≡ tally s.views (Kept m) + 1 = u.1 in
              record {
                unmade = l.unmade;
                carried = l.carried;
                fresh = λ le. absurd (omega (arith, (l.fresh le).0));
                owed = λ _ e. absurd (omega arith);
                begun = λ ne. omega (arith, l.begun ne);
                running = λ e. omega arith;
                resting = λ ne. absurd (ne runs);
                stored = l.stored;
                vacant = λ e z. l.vacant e (omega arith);
                vacated = λ e z. l.vacated e (omega arith);
                away = λ h. l.away (omega arith);
                reopens = λ h. absurd (omega arith);
              };
          chan = λ T after. let u = tallies T after in freed_chan s k c m within is done not-free (omega arith) T (u.3 5 (omega arith) (λ e. omega arith) (λ e. omega arith) (λ e. omega arith)) (u.3 6 (omega arith) (λ e. omega arith) (λ e. omega arith) (λ e. omega arith)) (omega (arith, u.2)) (u.3 11 (omega arith) (λ e. omega arith) (λ e. omega arith) (λ e. omega arith)) (u.3 12 (omega arith) (λ e. omega arith) (λ e. omega arith) (λ e. omega arith));
          retire = λ T after. let u = tallies T after in
              let e6 : T (Picking m) ≡ tally s.views (Picking m) = u.3 6 (omega arith) (λ e. omega arith) (λ e. omega arith) (λ e. omega arith) in
              let e9 : T (Right m) ≡ tally s.views (Right m) = u.3 9 (omega arith) (λ e. omega arith) (λ e. omega arith) (λ e. omega arith) in
              let e10 : T (Free m) ≡ tally s.views (Free m) + 1 = u.2 in
              let e13 : T (Kept m) ≡ tally s.views (Kept m) + 1 = u.1 in
              record {
                receivers = 1;
                counted = omega (arith, f.counted);
                once = omega arith;
                free = λ e. omega arith;
                bound = λ e. absurd (omega arith);
                right = λ z. absurd (omega arith);
                none = λ ne. absurd (ne done);
                used = λ _. omega arith;
                done = λ _ _. done;
              };
          stays = λ fr. absurd (omega (arith, f.counted));
          freed = λ e. inl done;
        },
        λ n i item ns word has-i one-item. let same : m ≡ i = what n i ns word has-i in let one-load : load ≡ item = same-load item one-item in
            ((λ even. absurd (omega (arith, f.counted))), λ _ q. (noted (retire_at c) r (more-one q) (freeing_end (same q) (one-load q) m0), me.1)),
      ))
