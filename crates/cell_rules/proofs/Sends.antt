-- The steps on channel words keep the rule.
use Rattle.std.proofs.Common.{◌≡◌, ◌≢◌, ◌⊎◌, ℕ, ◌+◌, ◌%◌, ◌<◌, ◌≤◌, List, [], ◌∷◌, set, sym, refl, ap, ◌∙◌, subst, inl, inr, ⊎_elim, arith, length-set, get_or-set_same, Some, None}
use mathlib.Core.Logic.{dite}
use native.Mathlib.Decide.{ℕ_discrete, dec_le}
use mathlib.Core.Option as maybe
use mathlib.Core.Option.{some, some-injective, some-ne-none}
use lib.ListN.{get_elem?}
use Rattle.atomic_table.proofs.Lists.{set_else}
use Rattle.cell_rules.specs.declared.item.Item.TheVariants.{Parcel}
use Rattle.cell_rules.specs.declared.view.View.{View}
use Rattle.cell_rules.specs.Lists.{one, count, without, In}
use Rattle.cell_rules.specs.Words.{cell, chan_at, load_at, parcel_at, task, claim, chan, EMPTY, FULL, DONE, PARKED, RUNNING, IsClaimed, IsParked}
use Rattle.cell_rules.specs.Marks.{mark, InHand, Lifted, Claimed, Picking, Parking, Waking, Right, Free, ClaimCleared, ChanCleared, Kept}
use Rattle.cell_rules.specs.Table.{own}
use Rattle.cell_rules.specs.Rule.{Means, Held, OneWait, GoodParcel, Made, Freed, Sent, parked, tally, load_in, parcel_in, Rules}
use prog.Atomic.{either}
use Rattle.std.proofs.Common.{eqb, ◌/◌}
use Rattle.atomic_table.specs.Table.{Act, keeps, takes, gives, Valid, Me, step, Allows, stepped, carried_after, rest, put_back}
use Rattle.atomic_table.proofs.Lists.{exchanged}
use Rattle.cell_rules.specs.Table.{clear_chan, park, collect}
use Rattle.cell_rules.specs.Table.{send as step_send}
use Rattle.cell_rules.specs.Plays.{CanCollect, seeing, noted, stowing, parking, sending, sending_to, collecting, clearing_chan, stows, wakes, sends, parks, clears_chan, collects}
use Rattle.cell_rules.specs.Asks.{Names, KnowsParcel}
use Rattle.cell_rules.proofs.Totals.{more_here, less_here, one_same, one_other, In-append, besides-In}
use Rattle.cell_rules.proofs.Turns.{St, Homes, st, After, at_place, parcel_on}
use Rattle.cell_rules.proofs.Still.{cell_below, SameChans, wait_as, present, has_some, loads_of, chans_of, retires_of, after_same, shelf_stays}
use Rattle.cell_rules.proofs.Tallies.{gain_other, lose_other, turn_other, gains_tally, turns_tally, tied_on, tied_calm}
use Rattle.cell_rules.proofs.Channels.{at_chan}
use Rattle.cell_rules.proofs.Fetches.{unmoved, looked}
use Rattle.cell_rules.proofs.Claims.{open_chan, full_chan, only_where, kept_once, free_both, calm_shift}

module _ {L P A : Type 0} (x : Means L P A) (key : ℕ × ℕ × A) where
  -- a word that is parked to nobody before and after leaves who waits
  unparked : (s : St x key) (k : Rules x key s) (v w : View L A) (T : ℕ → ℕ) → After x key s.views v w T → (r y : ℕ) → ¬ (IsParked r) → ¬ (IsParked y) → ((q j : ℕ) → (q ≡ 7) ⊎ (q ≡ 8) → count (mark q j) w.marks ≡ count (mark q j) v.marks)
      → (i q : ℕ) → i < key.0 → q + one (PARKED (k.now i)) r ≡ parked key.0 s.words (k.now i) + one (PARKED (k.now i)) y → OneWait (k.now i) (task s.words i) q T
  unparked s k v w T after r y nr ny same i q lt eq =
      let z : one (PARKED (k.now i)) r ≡ 0 = one_other (PARKED (k.now i)) r (λ e. nr (omega arith)) in
      let z' : one (PARKED (k.now i)) y ≡ 0 = one_other (PARKED (k.now i)) y (λ e. ny (omega arith)) in
      wait_as _ _ _ _ _ _ _ T (k.waits i lt) refl refl (omega arith) (after_same x key s.views v w T after (Parking (k.now i)) (same 7 (k.now i) (inl refl))) (after_same x key s.views v w T after (Waking (k.now i)) (same 8 (k.now i) (inr refl)))

  -- the parcel goes home
  sent_with : (s : St x key) (k : Rules x key s) (id : ℕ) (v w : View L A) → get_elem? s.views id ≡ some v → 0 < v.parts → (m : ℕ) (parcel : P) → x.channel parcel ≡ m → 0 < count (Claimed m) v.marks → KnowsParcel x v parcel
      → w.parts ≡ v.parts → w.spent ≡ v.spent → w.about ≡ v.about → w.log ≡ (chan_at (cell key.0 m), chan s.words (cell key.0 m), FULL m) ∷ v.log → w.names ≡ v.names → w.made ≡ v.made → w.kept ≡ v.kept → w.receipts ≡ v.receipts → w.resting ≡ v.resting → w.sends ≡ m ∷ v.sends
      → (k.now (cell key.0 m) ≡ m) × ((chan s.words (cell key.0 m) ≡ EMPTY m) ⊎ ((i : ℕ) × (chan s.words (cell key.0 m) ≡ PARKED i)))
      → ((q j : ℕ) → q < 14 → q ≢ 8 → (j ≢ m) ⊎ (q ≢ 5) → count (mark q j) w.marks ≡ count (mark q j) v.marks) → count (Claimed m) w.marks + 1 ≡ count (Claimed m) v.marks
      → ((j : ℕ) → j ≢ m → 0 < count (Waking j) w.marks → (0 < count (Waking j) v.marks) ⊎ (k.now (cell key.0 j) ≡ j))
      → ((T : ℕ → ℕ) → After x key s.views v w T → (i q : ℕ) → i < key.0 → q + one (PARKED (k.now i)) (chan s.words (cell key.0 m)) ≡ parked key.0 s.words (k.now i) + one (PARKED (k.now i)) (FULL m) → OneWait (k.now i) (task s.words i) q T)
      → Rules x key (st x key (set s.words (chan_at (cell key.0 m)) (FULL m)) (set s.homes (parcel_at (cell key.0 m)) (some (Some (Parcel parcel)))) (set s.views id w))
  sent_with s k id v w me live m parcel is-channel has knows parts spent about log names made kept receipts resting sends row marks fewer wakes waits =
      let c : ℕ = cell key.0 m in
      let within : c < key.0 = cell_below key.0 m k.small.0 in
      let is = row.0 in
      let some-have : 0 < tally s.views (Claimed m) = has_some x key s id v me (Claimed m) has in
      let g = chans_of x key s k c m within is in
      let f = retires_of x key s k c m within is in
      let unsent = g.unsent some-have in
      let none-picks = f.none unsent.4 in
      let gone = g.away (omega arith) in
      let hs : Homes x key = set s.homes (parcel_at c) (some (Some (Parcel parcel))) in
      let back : get_elem? hs (parcel_at c) ≡ parcel_in parcel = at_place s.homes (parcel_at c) maybe.none (some (Some (Parcel parcel))) gone in
      let tie = k.tied id v me in
      let old = k.views id v me in
      let not-done : chan s.words c ≢ DONE m = unsent.4 in
      let full-now : chan (set s.words (chan_at c) (FULL m)) c ≡ FULL m = get_or-set_same s.words (chan_at c) (FULL m) 0 (omega (arith, k.wide)) in
      at_chan x key s k id v w c m (FULL m) hs record {
        shift = calm_shift x key s k id v w me live c m (chan_at c) (FULL m) hs within is parts spent about log (inr (step_send, m, (refl, row.1, refl))) (length-set s.homes (parcel_at c) (some (Some (Parcel parcel))))
            (λ q j small seven eight ne. marks q j small eight (inl ne))
            (λ q j which ne h. ⊎_elim (λ e. inl (omega (arith, marks q j (omega arith) (λ e'. omega arith) (inl ne)))) (λ e. ⊎_elim (λ a. inl (subst (λ z. 0 < count (mark z j) v.marks) (sym e) a)) (λ b. inr b) (wakes j ne (subst (λ z. 0 < count (mark z j) w.marks) e h))) which)
            (λ grows e i. inl (subst (λ l. In e l) names i)) made
            (λ i h. ⊎_elim (λ q. inr (inl (subst (λ z. chan (set s.words (chan_at c) (FULL m)) (cell key.0 z) ≡ FULL z) (sym q) full-now))) (λ i'. inl i') (subst (λ l. In i l) sends h))
            (λ grows by i h. inl (subst (λ l. In (by, i) l) receipts h))
            (λ grows e i. inl (subst (λ l. In e l) kept i))
            (tied_calm x v w tie (omega arith) (omega (arith, tie.spends)) receipts kept resting
            (λ j. omega (arith, marks 2 j (omega arith) (λ e. omega arith) (inr (λ e. omega arith)), marks 3 j (omega arith) (λ e. omega arith) (inr (λ e. omega arith))))
            (λ q j which. marks q j (⊎_elim (λ e. omega arith) (λ z. omega arith) which) (λ e. ⊎_elim (λ f. omega arith) (λ z. omega arith) which) (inr (λ e. ⊎_elim (λ f. omega arith) (λ z. omega arith) which)))
            (λ j. omega (arith, marks 4 j (omega arith) (λ e. omega arith) (inr (λ e. omega arith)), (tie.clears j).2)))
            (λ by i r. subst (λ l. In (by, i) l) (sym receipts) r) (shelf_stays x key s.homes (parcel_at c) maybe.none (some (Some (Parcel parcel))) gone (λ l e. cc)) (λ i. set_else s.homes (parcel_at c) (load_at i) (some (Some (Parcel parcel))) (λ e. omega arith))
            (λ i item r. subst (λ l. In (i, item) l) resting r);
        calm = λ q which. marks q m (⊎_elim (λ e. omega arith) (λ z. omega arith) which) (λ e. ⊎_elim (λ f. omega arith) (λ z. omega arith) which) (inr (λ e. ⊎_elim (λ f. omega arith) (λ z. omega arith) which));
        chan = λ T after.
            let e5 : T (Claimed m) + 1 ≡ tally s.views (Claimed m) = omega (arith, after (Claimed m)) in
            let e6 : T (Picking m) ≡ tally s.views (Picking m) = after_same x key s.views v w T after (Picking m) (marks 6 m (omega arith) (λ e. omega arith) (inr (λ e. omega arith))) in
            let e10 : T (Free m) ≡ tally s.views (Free m) = after_same x key s.views v w T after (Free m) (marks 10 m (omega arith) (λ e. omega arith) (inr (λ e. omega arith))) in
            let e11 : T (ClaimCleared m) ≡ tally s.views (ClaimCleared m) = after_same x key s.views v w T after (ClaimCleared m) (marks 11 m (omega arith) (λ e. omega arith) (inr (λ e. omega arith))) in
            let e12 : T (ChanCleared m) ≡ tally s.views (ChanCleared m) = after_same x key s.views v w T after (ChanCleared m) (marks 12 m (omega arith) (λ e. omega arith) (inr (λ e. omega arith))) in
            record {
              claim_word = λ z. g.claim_word unsent.1;
              chan_word = λ z ne. (omega arith, omega arith);
              unclaimed = λ z e. absurd (omega (arith, unsent.2));
              unsent = λ h. absurd (omega (arith, unsent.0));
              sent = λ z c e. (omega arith, omega arith);
              once = omega (arith, g.once);
              claim_stays = λ e. absurd (omega (arith, unsent.1));
              claim_cleared = λ lt. absurd (omega (arith, unsent.1, (g.claim_cleared (omega arith)).0));
              chan_stays = λ e. absurd (omega (arith, unsent.1));
              chan_cleared = λ lt. absurd (omega (arith, unsent.1, (g.chan_cleared (omega arith)).0));
              full = λ _. (parcel, back, is-channel);
              vacant = λ ne. absurd (ne refl);
              away = λ h. absurd (omega (arith, unsent.0));
            };
        retire = λ T after.
            let e6 : T (Picking m) ≡ tally s.views (Picking m) = after_same x key s.views v w T after (Picking m) (marks 6 m (omega arith) (λ e. omega arith) (inr (λ e. omega arith))) in
            let e9 : T (Right m) ≡ tally s.views (Right m) = after_same x key s.views v w T after (Right m) (marks 9 m (omega arith) (λ e. omega arith) (inr (λ e. omega arith))) in
            let e10 : T (Free m) ≡ tally s.views (Free m) = after_same x key s.views v w T after (Free m) (marks 10 m (omega arith) (λ e. omega arith) (inr (λ e. omega arith))) in
            let e13 : T (Kept m) ≡ tally s.views (Kept m) = after_same x key s.views v w T after (Kept m) (marks 13 m (omega arith) (λ e. omega arith) (inr (λ e. omega arith))) in
            let b : ℕ = f.receivers in
            record {
              receivers = b;
              counted = omega (arith, f.counted);
              once = f.once;
              free = λ e. omega (arith, f.free (omega arith));
              bound = λ e. omega (arith, f.bound (omega arith));
              right = λ z e. absurd (omega arith);
              none = λ _. omega arith;
              used = λ _. omega arith;
              done = λ e lt. absurd (not-done (f.done e (omega arith)));
            };
        wait = waits;
        parks = λ j e. absurd (omega arith);
        full = λ i e. inl (⊎_elim (λ q. absurd (omega arith)) (λ q. absurd (omega (arith, q.1))) row.1);
        done = λ i e. absurd (⊎_elim (λ q. omega arith) (λ q. omega (arith, q.1)) row.1);
        fresh = λ i e. absurd (omega arith);
        places = λ j ne. set_else s.homes (parcel_at c) j (some (Some (Parcel parcel))) ne;
        no_load = λ item e. let both : parcel_in {L = L} parcel ≡ load_in item = sym back ∙ e in cc;
        put = λ item e. let both : parcel_in {L = L} parcel ≡ parcel_in item = sym back ∙ e in let one-parcel : parcel ≡ item = cc in
            subst (λ (z : P). GoodParcel x key.0 k.name key.2 k.now k.age s.words z) one-parcel record { named = λ e' i. old.named e' (knows.mentions e' i); program = let same : x.origin parcel ∷ [] ≡ key.2 ∷ [] = sym knows.program ∙ old.program live in cc };
      }

  pub sends_kept : (slots id : ℕ) (me : Me (Held L P) (View L A)) (m : ℕ) (parcel : P) (others : List (ℕ × Held L P)) → 0 < me.0.parts → me.1 ≡ (parcel_at (cell key.0 m), Some (Parcel parcel)) ∷ others → x.channel parcel ≡ m → 0 < count (Claimed m) me.0.marks → KnowsParcel x me.0 parcel
      → Allows (Rules x key) slots id me (chan_at (cell key.0 m)) (λ _. FULL m) (sends (step slots (chan_at (cell key.0 m)) (FULL m) 0 maybe.none) me)
  sends_kept slots id me m parcel others live carries is-channel has knows s k wide at fits =
      let m0 : View L A = me.0 in
      let c : ℕ = cell key.0 m in
      let r : ℕ = chan s.words c in
      let within : c < key.0 = cell_below key.0 m k.small.0 in
      let is : k.now c ≡ m = present x key s k id m0 at 5 m (omega arith) has in
      let some-have : 0 < tally s.views (Claimed m) = has_some x key s id m0 at (Claimed m) has in
      let g = chans_of x key s k c m within is in
      let unsent = g.unsent some-have in
      let put : (w : View L A) → Rules x key (st x key (set s.words (chan_at c) (FULL m)) (set s.homes (parcel_at c) (some (Some (Parcel parcel)))) (set s.views id w)) → Rules x key (st x key (set s.words (chan_at c) (FULL m)) (put_back s.homes me.1) (set s.views id w)) =
      λ w h. subst (λ (l : List (ℕ × Held L P)). Rules x key (st x key (set s.words (chan_at c) (FULL m)) (put_back s.homes l) (set s.views id w))) (sym carries) h in
      dite (ℕ_discrete (r % 4) 3)
      (λ parks. let j : ℕ = r / 4 in
      let was : r ≡ PARKED j = omega arith in
      let now-j : k.now (cell key.0 j) ≡ j = k.parks c j within was in
      let w : View L A = noted (chan_at c) r (FULL m) (sending_to m j m0) in
      let marks : (q i : ℕ) → q < 14 → q ≢ 8 → (i ≢ m) ⊎ (q ≢ 5) → count (mark q i) w.marks ≡ count (mark q i) m0.marks = λ q i small eight which. gain_other q i 8 j (without (Claimed m) m0.marks) (omega arith) (omega arith) (inr eight) ∙ lose_other q i 5 m m0.marks (omega arith) (omega arith) which has in (
        w,
        gives,
        tt,
        put w (sent_with s k id m0 w at live m parcel is-channel has knows refl refl refl refl refl refl refl refl refl refl (is, inr (j, was)) marks
            (omega (arith, gain_other 5 m 8 j (without (Claimed m) m0.marks) (omega arith) (omega arith) (inr (λ e. omega arith)), less_here (Claimed m) m0.marks has))
            (λ i ne h. dite (ℕ_discrete i j) (λ e. inr (ap (λ z. k.now (cell key.0 z)) e ∙ (now-j ∙ sym e)))
            (λ nj. inl (omega (arith, gain_other 8 i 8 j (without (Claimed m) m0.marks) (omega arith) (omega arith) (inl nj), lose_other 8 i 5 m m0.marks (omega arith) (omega arith) (inr (λ e. omega arith)) has))))
            (λ T after i q lt eq.
            let z : one (PARKED (k.now i)) (FULL m) ≡ 0 = one_other (PARKED (k.now i)) (FULL m) (λ e. omega arith) in
            let e7 : T (Parking (k.now i)) ≡ tally s.views (Parking (k.now i)) = after_same x key s.views m0 w T after (Parking (k.now i)) (marks 7 (k.now i) (omega arith) (λ e. omega arith) (inr (λ e. omega arith))) in
            dite (ℕ_discrete (k.now i) j)
            (λ e. let z' : one (PARKED (k.now i)) r ≡ 1 = ap (λ y. one (PARKED (k.now i)) y) (was ∙ ap PARKED (sym e)) ∙ one_same (PARKED (k.now i)) in
            let e8 : T (Waking (k.now i)) ≡ tally s.views (Waking (k.now i)) + 1 = omega (arith, after (Waking (k.now i)), ap (λ y. one (Waking (k.now i)) (Waking y)) (sym e) ∙ one_same (Waking (k.now i)), lose_other 8 (k.now i) 5 m m0.marks (omega arith) (omega arith) (inr (λ e. omega arith)) has) in
            record { waiting = λ t. omega (arith, (k.waits i lt).waiting t); awake = λ t. omega (arith, (k.waits i lt).awake t) })
            (λ ne. let z' : one (PARKED (k.now i)) r ≡ 0 = one_other (PARKED (k.now i)) r (λ e. ne (omega arith)) in
            let e8 : T (Waking (k.now i)) ≡ tally s.views (Waking (k.now i)) = after_same x key s.views m0 w T after (Waking (k.now i)) (gain_other 8 (k.now i) 8 j (without (Claimed m) m0.marks) (omega arith) (omega arith) (inl ne) ∙ lose_other 8 (k.now i) 5 m m0.marks (omega arith) (omega arith) (inr (λ e. omega arith)) has) in
            record { waiting = λ t. omega (arith, (k.waits i lt).waiting t); awake = λ t. omega (arith, (k.waits i lt).awake t) }))),
        λ i word. let same : m ≡ i = omega arith in
            ((λ e. absurd (omega arith)), (λ j' e'. let same' : j ≡ j' = omega arith in ((λ q. (noted (chan_at c) r (FULL m) (sending_to (same q) (same' q) m0), rest me.1)), omega (arith, now-j, k.low (cell key.0 j) (cell_below key.0 j k.small.0)))), inr (j, was)),
      ))
      (λ free. let word = g.chan_word unsent.1 free in
      let was : r ≡ EMPTY m = omega (arith, word.0, word.1, unsent.3, unsent.4) in
      let w : View L A = noted (chan_at c) r (FULL m) (sending m m0) in
      let marks : (q i : ℕ) → q < 14 → (i ≢ m) ⊎ (q ≢ 5) → count (mark q i) w.marks ≡ count (mark q i) m0.marks = λ q i small which. lose_other q i 5 m m0.marks (omega arith) (omega arith) which has in (
        w,
        gives,
        tt,
        put w (sent_with s k id m0 w at live m parcel is-channel has knows refl refl refl refl refl refl refl refl refl refl (is, inl was) (λ q i small eight which. marks q i small which) (less_here (Claimed m) m0.marks has)
            (λ i ne h. inl (omega (arith, marks 8 i (omega arith) (inl ne))))
            (λ T after. unparked s k m0 w T after r (FULL m) free (λ e. omega arith) (λ q j which. marks q j (⊎_elim (λ e. omega arith) (λ e. omega arith) which) (inr (λ e. ⊎_elim (λ f. omega arith) (λ f. omega arith) which))))),
        λ i word'. let same : m ≡ i = omega arith in ((λ e q. (noted (chan_at c) r (FULL m) (sending (same q) m0), rest me.1)), (λ j' e'. absurd (free (omega arith))), inl (was ∙ ap EMPTY same)),
      ))

  pub parks_kept : (slots id : ℕ) (me : Me (Held L P) (View L A)) (m own : ℕ) → 0 < me.0.parts → Names me.0 m → 0 < count (Parking own) me.0.marks
      → Allows (Rules x key) slots id me (chan_at (cell key.0 m)) (λ n. either (eqb n (EMPTY m)) (PARKED own) n) (parks (step slots (chan_at (cell key.0 m)) (EMPTY m) (PARKED own) maybe.none) me)
  parks_kept slots id me m own live knows has s k wide at fits =
      let m0 : View L A = me.0 in
      let c : ℕ = cell key.0 m in
      let r : ℕ = chan s.words c in
      let within : c < key.0 = cell_below key.0 m k.small.0 in
      let made = ((k.views id m0 at).named (m, knows.0) knows.1).1 in
      let play : ℕ → Me (Held L P) (View L A) → Type 0 = parks (step slots (chan_at c) (EMPTY m) (PARKED own) maybe.none) me in
      let G = λ (n : ℕ). (w : View L A) × (a : Act (Held L P)) × Valid s.homes me.1 a × Rules x key (stepped s (chan_at c) n id me.1 w a) × play r (w, carried_after me.1 a) in
      exchanged r (EMPTY m) (PARKED own) G
      (λ hit. let found = open_chan x key s k c m within made.0 hit in
      let is = found.0 in
      let not-free = found.1 in
      let g = chans_of x key s k c m within is in
      let f = retires_of x key s k c m within is in
      let now-own : k.now (cell key.0 own) ≡ own = present x key s k id m0 at 7 own (omega arith) has in
      let w : View L A = noted (chan_at c) r (PARKED own) (parking own m0) in
      let marks : (q j : ℕ) → q < 14 → (j ≢ own) ⊎ (q ≢ 7) → count (mark q j) w.marks ≡ count (mark q j) m0.marks = λ q j small which. lose_other q j 7 own m0.marks (omega arith) (omega arith) which has in
      let tie = k.tied id m0 at in
      let none-picks = f.none (λ e. omega arith) in (
        w,
        keeps,
        tt,
        at_chan x key s k id m0 w c m (PARKED own) s.homes record {
          shift = calm_shift x key s k id m0 w at live c m (chan_at c) (PARKED own) s.homes within is refl refl refl refl (inr (park, m, (refl, hit, (own, refl)))) refl
              (λ q j small seven eight ne. marks q j small (inr seven))
              (λ q j which ne h. inl (⊎_elim (λ e. dite (ℕ_discrete j own) (λ e'. subst (λ (z : ℕ × ℕ). 0 < count (mark z.0 z.1) m0.marks) (λ i. (sym e i, sym e' i)) has) (λ nj. omega (arith, marks q j (omega arith) (inl nj)))) (λ e. omega (arith, marks q j (omega arith) (inr (λ e'. omega arith)))) which))
              (λ grows e i. inl i) refl (λ i h. inl h) (λ grows by i h. inl h) (λ grows e i. inl i)
              (tied_on x m0 w tie live tie.spends
              (λ by i r'. omega (arith, tie.receipts by i r', marks 2 by (omega arith) (inr (λ e. omega arith)), marks 3 by (omega arith) (inr (λ e. omega arith)), marks 13 by (omega arith) (inr (λ e. omega arith))))
              (λ by i r' h. r') refl (λ j. marks 13 j (omega arith) (inr (λ e. omega arith)))
              (λ j. let z = tie.clears j in let free : count (Free j) w.marks ≡ count (Free j) m0.marks = marks 10 j (omega arith) (inr (λ e. omega arith)) in
              (omega (arith, z.0, free, marks 11 j (omega arith) (inr (λ e. omega arith))), omega (arith, z.1, free, marks 12 j (omega arith) (inr (λ e. omega arith))), omega (arith, z.2, free, marks 4 j (omega arith) (inr (λ e. omega arith)))))
              (λ j item r'. let u = besides-In own (j, item) m0.resting r' in let z = tie.rests j item u.1 in (z.0, omega (arith, z.1, marks 7 j (omega arith) (inl u.0)))))
              (λ by i r'. r') (λ j item there. there) (λ i. refl) (λ i item r'. (besides-In own (i, item) m0.resting r').1);
          calm = λ q which. marks q m (⊎_elim (λ e. omega arith) (λ z. omega arith) which) (inr (λ e. ⊎_elim (λ f. omega arith) (λ z. omega arith) which));
          chan = λ T after.
              let same : SameChans m (tally s.views) T = λ q low high seven eight. after_same x key s.views m0 w T after (mark q m) (marks q m high (inr seven)) in
              let e5 : T (Claimed m) ≡ tally s.views (Claimed m) = same 5 (omega arith) (omega arith) (λ e. omega arith) (λ e. omega arith) in
              let e6 : T (Picking m) ≡ tally s.views (Picking m) = same 6 (omega arith) (omega arith) (λ e. omega arith) (λ e. omega arith) in
              let e10 : T (Free m) ≡ tally s.views (Free m) = same 10 (omega arith) (omega arith) (λ e. omega arith) (λ e. omega arith) in
              let e11 : T (ClaimCleared m) ≡ tally s.views (ClaimCleared m) = same 11 (omega arith) (omega arith) (λ e. omega arith) (λ e. omega arith) in
              let e12 : T (ChanCleared m) ≡ tally s.views (ChanCleared m) = same 12 (omega arith) (omega arith) (λ e. omega arith) (λ e. omega arith) in
              record {
                claim_word = λ z. g.claim_word not-free;
                chan_word = λ z ne. absurd (ne (omega arith));
                unclaimed = λ z e. ((λ q. omega arith), λ q. omega arith);
                unsent = λ lt. let u = g.unsent (omega arith) in (omega (arith, u.0), omega arith, u.2, (λ q. omega arith), λ q. omega arith);
                sent = λ z c' e. absurd (omega (arith, (g.sent not-free c' (omega arith)).0));
                once = omega (arith, g.once);
                claim_stays = λ e. absurd (omega arith);
                claim_cleared = λ lt. absurd (omega (arith, (g.claim_cleared (omega arith)).0));
                chan_stays = λ e. absurd (omega arith);
                chan_cleared = λ lt. absurd (omega (arith, (g.chan_cleared (omega arith)).0));
                full = λ e. absurd (omega arith);
                vacant = λ _ e. g.vacant (λ q. omega arith) (omega arith);
                away = λ h. g.away (omega arith);
              };
          retire = λ T after.
              let same : SameChans m (tally s.views) T = λ q low high seven eight. after_same x key s.views m0 w T after (mark q m) (marks q m high (inr seven)) in
              let e6 : T (Picking m) ≡ tally s.views (Picking m) = same 6 (omega arith) (omega arith) (λ e. omega arith) (λ e. omega arith) in
              let e9 : T (Right m) ≡ tally s.views (Right m) = same 9 (omega arith) (omega arith) (λ e. omega arith) (λ e. omega arith) in
              let e10 : T (Free m) ≡ tally s.views (Free m) = same 10 (omega arith) (omega arith) (λ e. omega arith) (λ e. omega arith) in
              let e13 : T (Kept m) ≡ tally s.views (Kept m) = same 13 (omega arith) (omega arith) (λ e. omega arith) (λ e. omega arith) in
              let b : ℕ = f.receivers in
              record {
                receivers = b;
                counted = omega (arith, f.counted);
                once = f.once;
                free = λ e. omega (arith, f.free (omega arith));
                bound = λ e. omega (arith, f.bound (omega arith));
                right = λ z e. absurd (omega arith);
                none = λ _. omega arith;
                used = λ _. omega arith;
                done = λ e lt. absurd (omega (arith, f.done e (omega arith)));
              };
          wait = λ T after i q lt eq.
              let z : one (PARKED (k.now i)) r ≡ 0 = one_other (PARKED (k.now i)) r (λ e. omega arith) in
              let e8 : T (Waking (k.now i)) ≡ tally s.views (Waking (k.now i)) = after_same x key s.views m0 w T after (Waking (k.now i)) (marks 8 (k.now i) (omega arith) (inr (λ e. omega arith))) in
              dite (ℕ_discrete (k.now i) own)
              (λ e. let z' : one (PARKED (k.now i)) (PARKED own) ≡ 1 = ap (λ y. one (PARKED (k.now i)) (PARKED y)) (sym e) ∙ one_same (PARKED (k.now i)) in
              let e7 : T (Parking (k.now i)) + 1 ≡ tally s.views (Parking (k.now i)) = subst (λ z''. T (Parking z'') + 1 ≡ tally s.views (Parking z'')) (sym e) (omega (arith, after (Parking own), less_here (Parking own) m0.marks has)) in
              record { waiting = λ t. omega (arith, (k.waits i lt).waiting t); awake = λ t. omega (arith, (k.waits i lt).awake t) })
              (λ ne. let z' : one (PARKED (k.now i)) (PARKED own) ≡ 0 = one_other (PARKED (k.now i)) (PARKED own) (λ e. ne (omega arith)) in
              let e7 : T (Parking (k.now i)) ≡ tally s.views (Parking (k.now i)) = after_same x key s.views m0 w T after (Parking (k.now i)) (marks 7 (k.now i) (omega arith) (inl ne)) in
              record { waiting = λ t. omega (arith, (k.waits i lt).waiting t); awake = λ t. omega (arith, (k.waits i lt).awake t) });
          parks = λ j e. let same : own ≡ j = omega arith in subst (λ z. k.now (cell key.0 z) ≡ z) same now-own;
          full = λ i e. absurd (omega arith);
          done = λ i e. absurd (omega arith);
          fresh = λ i e. absurd (omega arith);
          places = λ j ne. refl;
          no_load = λ item e. dite (ℕ_discrete (tally s.views (Claimed m) + tally s.views (Picking m)) 0)
              (λ z. let both : some (some None) ≡ load_in {P = P} item = sym (g.vacant (λ q. omega arith) z) ∙ e in cc) (λ nz. let both : some maybe.none ≡ load_in {P = P} item = sym (g.away (omega arith)) ∙ e in cc);
          put = λ item e. k.parcels (parcel_at c) item e;
        },
        λ c' i first word. let one-channel : m ≡ c' = omega arith in let same : own ≡ i = omega arith in ((λ _ q. (noted (chan_at c) r (PARKED own) (parking (same q) m0), me.1)), (λ e. absurd (omega arith)), λ ne. absurd (ne (hit ∙ ap EMPTY one-channel))),
      ))
      (λ miss. dite (ℕ_discrete r (FULL m))
      (λ full. (
        noted (chan_at c) r r (seeing m m0),
        keeps,
        tt,
        looked x key s k id m0 (seeing m m0) at live (chan_at c) (λ i h. ⊎_elim (λ q. inr (inl (subst (λ z. chan s.words (cell key.0 z) ≡ FULL z) (sym q) full))) (λ old. inl old) h) refl refl refl refl refl refl refl (refl, refl) refl,
        λ c' i first word. let same : m ≡ c' = omega arith in ((λ e. absurd (miss (e ∙ ap EMPTY (sym same)))), (λ _ q. (noted (chan_at c) r r (seeing (same q) m0), me.1)), λ _ ne. absurd (ne (full ∙ ap FULL same))),
      ))
      (λ other. (noted (chan_at c) r r m0, keeps, tt, unmoved x key s k id me at live (chan_at c), λ c' i first word. let same : m ≡ c' = omega arith in ((λ e. absurd (miss (e ∙ ap EMPTY (sym same)))), (λ e. absurd (other (e ∙ ap FULL (sym same)))), λ _ _. refl))))

  -- on a number on which something was sent the channel is not EMPTY
  not_empty : (s : St x key) (k : Rules x key s) (m : ℕ) → Sent key.0 k.now k.age s.words m → chan s.words (cell key.0 m) ≡ EMPTY m → ⊥
  not_empty s k m sent empty =
      let c : ℕ = cell key.0 m in
      let within : c < key.0 = cell_below key.0 m k.small.0 in
      let now-is : m ≤ k.now c → (k.now c ≡ m) × (tally s.views (Free m) ≡ 0) = λ le. open_chan x key s k c m within le empty in
      let freed : k.now c ≡ m → Freed k.age s.words c → ⊥ = λ is all-done.
      let f = retires_of x key s k c m within is in
      omega (arith, f.counted, f.once, kept_once x key s k c m within is, f.free (omega (arith, f.counted, f.once, kept_once x key s k c m within is)), (now-is (omega arith)).1) in
      ⊎_elim (λ e. omega arith) (λ d. ⊎_elim (λ e. omega arith) (λ t. ⊎_elim (λ g. freed g.0 g.1) (λ lt. omega (arith, (now-is (omega arith)).0)) t) d) sent

  -- a load in hand is not kept
  not_both : (s : St x key) (k : Rules x key s) (id : ℕ) (v : View L A) → get_elem? s.views id ≡ some v → (by : ℕ) → 0 < count (InHand by) v.marks → 0 < count (Kept by) v.marks → ⊥
  not_both s k id v at by has kept =
      let c : ℕ = cell key.0 by in
      let within : c < key.0 = cell_below key.0 by k.small.0 in
      let is : k.now c ≡ by = present x key s k id v at 2 by (omega arith) has in
      let g = loads_of x key s k c by within is in
      let a = has_some x key s id v at (InHand by) has in
      let b = has_some x key s id v at (Kept by) kept in
      dite (ℕ_discrete (task s.words c) (RUNNING by)) (λ e. omega (arith, g.running e)) (λ ne. omega (arith, g.resting ne))

  pub collects_kept : (slots id : ℕ) (me : Me (Held L P) (View L A)) (m by : ℕ) → 0 < me.0.parts → Names me.0 m → 0 < count (InHand by) me.0.marks
      → Allows (Rules x key) slots id me (chan_at (cell key.0 m)) (λ n. either (eqb n (FULL m)) (DONE m) n) (collects x by (step slots (chan_at (cell key.0 m)) (FULL m) (DONE m) maybe.none) me)
  collects_kept slots id me m by live knows holds s k wide at fits =
      let m0 : View L A = me.0 in
      let c : ℕ = cell key.0 m in
      let r : ℕ = chan s.words c in
      let within : c < key.0 = cell_below key.0 m k.small.0 in
      let view = k.views id m0 at in
      let made = (view.named (m, knows.0) knows.1).1 in
      let play : ℕ → Me (Held L P) (View L A) → Type 0 = collects x by (step slots (chan_at c) (FULL m) (DONE m) maybe.none) me in
      let G = λ (n : ℕ). (w : View L A) × (a : Act (Held L P)) × Valid s.homes me.1 a × Rules x key (stepped s (chan_at c) n id me.1 w a) × play r (w, carried_after me.1 a) in
      exchanged r (FULL m) (DONE m) G
      (λ hit. let found = full_chan x key s k c m within hit in
      let is = found.0 in
      let not-free = found.1 in
      let g = chans_of x key s k c m within is in
      let f = retires_of x key s k c m within is in
      let home = g.full hit in
      let parcel : P = home.0 in
      let none-picks = f.none (λ e. omega arith) in
      let none-claims : tally s.views (Claimed m) ≡ 0 = dite (ℕ_discrete (tally s.views (Claimed m)) 0) (λ z. z) (λ ne. absurd ((g.unsent (omega arith)).3 hit)) in
      let claimed : IsClaimed (claim s.words c) = g.claim_word not-free (λ e. (g.unclaimed not-free e).0 hit) in
      let none-retired : f.receivers ≡ 0 = dite (ℕ_discrete f.receivers 0) (λ z. z) (λ nz. dite (dec_le 2 (f.receivers + tally s.views (Kept m)))
      (λ le. absurd (omega (arith, f.once, kept_once x key s k c m within is, f.free (omega (arith, f.once, kept_once x key s k c m within is))))) (λ lt. absurd (omega (arith, f.done (omega (arith, f.once)) (omega arith))))) in
      let w : View L A = noted (chan_at c) r (DONE m) (collecting m (x.tells parcel) by m0) in
      let marks : (q j : ℕ) → q < 14 → (j ≢ m) ⊎ (q ≢ 6) → count (mark q j) w.marks ≡ count (mark q j) m0.marks = λ q j small which. gain_other q j 6 m m0.marks (omega arith) (omega arith) which in
      let hs : Homes x key = set s.homes (parcel_at c) maybe.none in
      let gone : get_elem? hs (parcel_at c) ≡ some maybe.none = at_place s.homes (parcel_at c) (some (Some (Parcel parcel))) maybe.none home.1 in
      let fine = k.parcels (parcel_at c) parcel home.1 in
      let can : CanCollect x m0 parcel = (view.program live ∙ ap (λ z. z ∷ []) (sym fine.program), λ i title other h h'. sym (view.named (i, title) h).0 ∙ (fine.named (i, other) h').0) in
      let tie = k.tied id m0 at in (
        w,
        takes (parcel_at c) (Some (Parcel parcel)),
        home.1,
        at_chan x key s k id m0 w c m (DONE m) hs record {
          shift = calm_shift x key s k id m0 w at live c m (chan_at c) (DONE m) hs within is refl refl refl refl (inr (collect, m, (refl, hit, refl))) (length-set s.homes (parcel_at c) maybe.none)
              (λ q j small seven eight ne. marks q j small (inl ne)) (λ q j which ne h. inl (omega (arith, marks q j (⊎_elim (λ e. omega arith) (λ e. omega arith) which) (inl ne))))
              (λ grows e i. ⊎_elim (λ a. inr ((parcel_on x key k.name k.name k.now k.age k.now k.age s.words _ grows parcel fine).named e a)) (λ b. inl b) (In-append e (x.tells parcel) m0.names i))
              refl (λ i h. inl h) (λ grows by' i h. ⊎_elim (λ e. inr (subst (λ z. Made key.0 k.now (set s.words (chan_at c) (DONE m)) z) (ap (λ (p : ℕ × ℕ). p.1) (sym e)) (grows.made m made).1)) (λ old. inl old) h) (λ grows e i. inl i)
              (tied_on x m0 w tie live tie.spends
              (λ by' i r'. ⊎_elim (λ e. let first : by' ≡ by = ap (λ (p : ℕ × ℕ). p.0) e in subst (λ z. 0 < count (InHand z) w.marks + count (Lifted z) w.marks + count (Kept z) w.marks) (sym first) (omega (arith, marks 2 by (omega arith) (inr (λ e. omega arith)))))
              (λ old. omega (arith, tie.receipts by' i old, marks 2 by' (omega arith) (inr (λ e. omega arith)), marks 3 by' (omega arith) (inr (λ e. omega arith)), marks 13 by' (omega arith) (inr (λ e. omega arith)))) r')
              (λ by' i r' h. ⊎_elim (λ e. let first : by' ≡ by = ap (λ (p : ℕ × ℕ). p.0) e in absurd (not_both s k id m0 at by holds (subst (λ z. 0 < count (Kept z) m0.marks) first h))) (λ old. old) r') refl (λ j. marks 13 j (omega arith) (inr (λ e. omega arith)))
              (λ j. let z = tie.clears j in let free : count (Free j) w.marks ≡ count (Free j) m0.marks = marks 10 j (omega arith) (inr (λ e. omega arith)) in
              (omega (arith, z.0, free, marks 11 j (omega arith) (inr (λ e. omega arith))), omega (arith, z.1, free, marks 12 j (omega arith) (inr (λ e. omega arith))), omega (arith, z.2, free, marks 4 j (omega arith) (inr (λ e. omega arith)))))
              (λ j item r'. let z = tie.rests j item r' in (z.0, omega (arith, z.1, marks 7 j (omega arith) (inr (λ e. omega arith))))))
              (λ by' i r'. inr r') (shelf_stays x key s.homes (parcel_at c) (some (Some (Parcel parcel))) maybe.none home.1 (λ l e. cc)) (λ i. set_else s.homes (parcel_at c) (load_at i) maybe.none (λ e. omega arith)) (λ i item r'. r');
          calm = λ q which. marks q m (⊎_elim (λ e. omega arith) (λ z. omega arith) which) (inr (λ e. ⊎_elim (λ f. omega arith) (λ z. omega arith) which));
          chan = λ T after. let u = gains_tally x key s.views m0 w T after (Picking m) refl in
              let e5 : T (Claimed m) ≡ tally s.views (Claimed m) = u.1 (Claimed m) (λ e. omega arith) in
              let e6 : T (Picking m) ≡ tally s.views (Picking m) + 1 = u.0 in
              let e10 : T (Free m) ≡ tally s.views (Free m) = u.1 (Free m) (λ e. omega arith) in
              let e11 : T (ClaimCleared m) ≡ tally s.views (ClaimCleared m) = u.1 (ClaimCleared m) (λ e. omega arith) in
              let e12 : T (ChanCleared m) ≡ tally s.views (ChanCleared m) = u.1 (ChanCleared m) (λ e. omega arith) in
              record {
                claim_word = λ z. g.claim_word not-free;
                chan_word = λ z ne. (omega arith, omega arith);
                unclaimed = λ z e. absurd (omega arith);
                unsent = λ lt. absurd (omega arith);
                sent = λ z c' e. (omega arith, omega arith);
                once = omega arith;
                claim_stays = λ e. absurd (omega arith);
                claim_cleared = λ lt. absurd (omega (arith, (g.claim_cleared (omega arith)).0));
                chan_stays = λ e. absurd (omega arith);
                chan_cleared = λ lt. absurd (omega (arith, (g.chan_cleared (omega arith)).0));
                full = λ e. absurd (omega arith);
                vacant = λ _ e. absurd (omega arith);
                away = λ _. gone;
              };
          retire = λ T after. let u = gains_tally x key s.views m0 w T after (Picking m) refl in
              let e6 : T (Picking m) ≡ tally s.views (Picking m) + 1 = u.0 in
              let e9 : T (Right m) ≡ tally s.views (Right m) = u.1 (Right m) (λ e. omega arith) in
              let e10 : T (Free m) ≡ tally s.views (Free m) = u.1 (Free m) (λ e. omega arith) in
              let e13 : T (Kept m) ≡ tally s.views (Kept m) = u.1 (Kept m) (λ e. omega arith) in
              record {
                receivers = 0;
                counted = omega (arith, f.counted);
                once = omega arith;
                free = λ e. omega (arith, f.free (omega arith));
                bound = λ e. omega (arith, f.bound (omega arith));
                right = λ z e. omega arith;
                none = λ ne. absurd (ne refl);
                used = λ e. absurd (omega arith);
                done = λ e lt. absurd (omega arith);
              };
          wait = λ T after. unparked s k m0 w T after r (DONE m) (λ e. omega arith) (λ e. omega arith) (λ q j which. marks q j (⊎_elim (λ e. omega arith) (λ e. omega arith) which) (inr (λ e. ⊎_elim (λ f. omega arith) (λ f. omega arith) which)));
          parks = λ j e. absurd (omega arith);
          full = λ i e. inr (omega arith);
          done = λ i e. absurd (omega arith);
          fresh = λ i e. let same : i ≡ m = omega arith in inr (inl (id, w, by, at_place s.views id m0 w at, inl (λ q. (by, same q))));
          places = λ j ne. set_else s.homes (parcel_at c) j maybe.none ne;
          no_load = λ item e. let bad : some maybe.none ≡ load_in {P = P} item = sym gone ∙ e in cc;
          put = λ item e. let bad : some maybe.none ≡ parcel_in {L = L} item = sym gone ∙ e in cc;
        },
        λ n i ns word. let n-is : key.0 ≡ n = omega (arith, k.tall) in let same : m ≡ i = omega arith in
            ((λ _. (parcel, home.2 ∙ same, can, λ q. (noted (chan_at c) r (DONE m) (collecting (same q) (x.tells parcel) by m0), (parcel_at (cell (n-is q) (same q)), Some (Parcel parcel)) ∷ me.1))), (λ ne. absurd (ne (hit ∙ ap FULL same))), λ _ e. omega arith),
      ))
      (λ miss. (noted (chan_at c) r r m0, keeps, tt, unmoved x key s k id me at live (chan_at c), λ n i ns word. let same : m ≡ i = omega arith in ((λ e. absurd (miss (e ∙ ap FULL (sym same)))), (λ _. refl), λ sent e. not_empty s k m (view.sent m (subst (λ z. In z m0.sends) (sym same) sent)) (e ∙ ap EMPTY (sym same)))))

  pub stows_kept : (slots id : ℕ) (me : Me (Held L P) (View L A)) (m : ℕ) (others : List (ℕ × Held L P)) → 0 < me.0.parts → me.1 ≡ (parcel_at (cell key.0 m), None) ∷ others → 0 < count (Picking m) me.0.marks
      → Allows (Rules x key) slots id me (chan_at (cell key.0 m)) (λ n. n) (stows (step slots (chan_at (cell key.0 m)) 0 0 maybe.none) me)
  stows_kept slots id me m others live carries has s k wide at fits =
      let m0 : View L A = me.0 in
      let c : ℕ = cell key.0 m in
      let r : ℕ = chan s.words c in
      let within : c < key.0 = cell_below key.0 m k.small.0 in
      let is : k.now c ≡ m = present x key s k id m0 at 6 m (omega arith) has in
      let some-have : 0 < tally s.views (Picking m) = has_some x key s id m0 at (Picking m) has in
      let g = chans_of x key s k c m within is in
      let f = retires_of x key s k c m within is in
      let done : r ≡ DONE m = dite (ℕ_discrete r (DONE m)) (λ e. e) (λ ne. absurd (omega (arith, f.none ne))) in
      let none-retired : f.receivers ≡ 0 = dite (ℕ_discrete f.receivers 0) (λ z. z) (λ nz. absurd (omega (arith, f.used (omega (arith, f.once))))) in
      let once = f.right none-retired done in
      let not-free = f.bound (omega (arith, kept_once x key s k c m within is)) in
      let none-claims : tally s.views (Claimed m) ≡ 0 = dite (ℕ_discrete (tally s.views (Claimed m)) 0) (λ z. z) (λ ne. absurd ((g.unsent (omega arith)).4 done)) in
      let gone = g.away (omega arith) in
      let w : View L A = noted (chan_at c) r r (stowing m m0) in
      let marks : (q j : ℕ) → q < 14 → (j ≢ m) ⊎ ((q ≢ 6) × (q ≢ 9)) → count (mark q j) w.marks ≡ count (mark q j) m0.marks = λ q j small which. turn_other q j 6 9 m m0.marks (omega arith) (omega arith) (omega arith) which has in
      let hs : Homes x key = set s.homes (parcel_at c) (some None) in
      let back : get_elem? hs (parcel_at c) ≡ some (some None) = at_place s.homes (parcel_at c) maybe.none (some None) gone in
      let tie = k.tied id m0 at in
      let kept : Rules x key (st x key (set s.words (chan_at c) r) hs (set s.views id w)) =
      at_chan x key s k id m0 w c m r hs record {
        shift = calm_shift x key s k id m0 w at live c m (chan_at c) r hs within is refl refl refl refl (inl refl) (length-set s.homes (parcel_at c) (some None))
            (λ q j small seven eight ne. marks q j small (inl ne)) (λ q j which ne h. inl (omega (arith, marks q j (⊎_elim (λ e. omega arith) (λ e. omega arith) which) (inl ne))))
            (λ grows e i. inl i) refl (λ i h. inl h) (λ grows by i h. inl h) (λ grows e i. inl i)
            (tied_calm x m0 w tie live tie.spends refl refl refl (λ j. omega (arith, marks 2 j (omega arith) (inr ((λ e. omega arith), λ e. omega arith)), marks 3 j (omega arith) (inr ((λ e. omega arith), λ e. omega arith))))
            (λ q j which. marks q j (⊎_elim (λ e. omega arith) (λ z. omega arith) which) (inr ((λ e. ⊎_elim (λ f. omega arith) (λ z. omega arith) which), λ e. ⊎_elim (λ f. omega arith) (λ z. omega arith) which)))
            (λ j. omega (arith, marks 4 j (omega arith) (inr ((λ e. omega arith), λ e. omega arith)), (tie.clears j).2)))
            (λ by i r'. r') (shelf_stays x key s.homes (parcel_at c) maybe.none (some None) gone (λ l e. cc)) (λ i. set_else s.homes (parcel_at c) (load_at i) (some None) (λ e. omega arith)) (λ i item r'. r');
        calm = λ q which. marks q m (⊎_elim (λ e. omega arith) (λ z. omega arith) which) (inr ((λ e. ⊎_elim (λ f. omega arith) (λ z. omega arith) which), λ e. ⊎_elim (λ f. omega arith) (λ z. omega arith) which));
        chan = λ T after. let u = turns_tally x key s.views m0 w T after (Picking m) (Right m) refl (λ e. omega arith) has in
            let e5 : T (Claimed m) ≡ tally s.views (Claimed m) = u.2 (Claimed m) (λ e. omega arith) (λ e. omega arith) in
            let e6 : T (Picking m) + 1 ≡ tally s.views (Picking m) = u.0 in
            let e10 : T (Free m) ≡ tally s.views (Free m) = u.2 (Free m) (λ e. omega arith) (λ e. omega arith) in
            let e11 : T (ClaimCleared m) ≡ tally s.views (ClaimCleared m) = u.2 (ClaimCleared m) (λ e. omega arith) (λ e. omega arith) in
            let e12 : T (ChanCleared m) ≡ tally s.views (ChanCleared m) = u.2 (ChanCleared m) (λ e. omega arith) (λ e. omega arith) in
            record {
              claim_word = λ z. g.claim_word not-free;
              chan_word = λ z. g.chan_word not-free;
              unclaimed = λ z e. g.unclaimed not-free e;
              unsent = λ lt. absurd (omega arith);
              sent = λ z c' e. (omega arith, omega arith);
              once = omega arith;
              claim_stays = λ e. absurd (omega arith);
              claim_cleared = λ lt. absurd (omega (arith, (g.claim_cleared (omega arith)).0));
              chan_stays = λ e z. done;
              chan_cleared = λ lt. absurd (omega (arith, (g.chan_cleared (omega arith)).0));
              full = λ e. absurd (omega arith);
              vacant = λ _ e. back;
              away = λ lt. absurd (omega arith);
            };
        retire = λ T after. let u = turns_tally x key s.views m0 w T after (Picking m) (Right m) refl (λ e. omega arith) has in
            let e6 : T (Picking m) + 1 ≡ tally s.views (Picking m) = u.0 in
            let e9 : T (Right m) ≡ tally s.views (Right m) + 1 = u.1 in
            let e10 : T (Free m) ≡ tally s.views (Free m) = u.2 (Free m) (λ e. omega arith) (λ e. omega arith) in
            let e13 : T (Kept m) ≡ tally s.views (Kept m) = u.2 (Kept m) (λ e. omega arith) (λ e. omega arith) in
            record {
              receivers = 0;
              counted = omega (arith, f.counted);
              once = omega arith;
              free = λ e. omega (arith, f.free (omega arith));
              bound = λ e. omega (arith, f.bound (omega arith));
              right = λ z e. omega arith;
              none = λ ne. absurd (ne done);
              used = λ e. absurd (omega arith);
              done = λ e lt. absurd (omega arith);
            };
        wait = λ T after. unparked s k m0 w T after r r (λ e. omega arith) (λ e. omega arith) (λ q j which. marks q j (⊎_elim (λ e. omega arith) (λ e. omega arith) which) (inr ((λ e. ⊎_elim (λ f. omega arith) (λ f. omega arith) which), λ e. ⊎_elim (λ f. omega arith) (λ f. omega arith) which)));
        parks = λ j e. absurd (omega arith);
        full = λ i e. absurd (omega arith);
        done = λ i e. inl e;
        fresh = λ i e. inl e;
        places = λ j ne. set_else s.homes (parcel_at c) j (some None) ne;
        no_load = λ item e. let bad : some (some None) ≡ load_in {P = P} item = sym back ∙ e in cc;
        put = λ item e. let bad : some (some None) ≡ parcel_in {L = L} item = sym back ∙ e in cc;
      } in (
        w,
        gives,
        tt,
        subst (λ (l : List (ℕ × Held L P)). Rules x key (st x key (set s.words (chan_at c) r) (put_back s.homes l) (set s.views id w))) (sym carries) kept,
        (λ n i ns word has-i.
            let n-is : key.0 ≡ n = omega (arith, k.tall) in
            let cells : cell key.0 m ≡ cell key.0 i = omega (arith, ap (λ z. cell z i) n-is) in
            let now-i : k.now (cell key.0 i) ≡ i = present x key s k id m0 at 6 i (omega arith) has-i in
            let same : m ≡ i = sym is ∙ (ap k.now cells ∙ now-i) in
            (λ q. (noted (chan_at c) r r (stowing (same q) m0), rest me.1))),
      )

  pub clears_chan_kept : (slots id : ℕ) (me : Me (Held L P) (View L A)) (m : ℕ) → 0 < me.0.parts → 0 < count (Free m) me.0.marks → count (ChanCleared m) me.0.marks ≡ 0
      → Allows (Rules x key) slots id me (chan_at (cell key.0 m)) (λ _. EMPTY (m + key.0)) (clears_chan (step slots (chan_at (cell key.0 m)) (EMPTY (m + key.0)) 0 maybe.none) me)
  clears_chan_kept slots id me m live has fresh s k wide at fits =
      let m0 : View L A = me.0 in
      let c : ℕ = cell key.0 m in
      let r : ℕ = chan s.words c in
      let within : c < key.0 = cell_below key.0 m k.small.0 in
      let is : k.now c ≡ m = present x key s k id m0 at 10 m (omega arith) has in
      let some-have : 0 < tally s.views (Free m) = has_some x key s id m0 at (Free m) has in
      let g = chans_of x key s k c m within is in
      let f = retires_of x key s k c m within is in
      let some-cells : 0 < key.0 = k.small.0 in
      let none-yet = only_where x key s id m0 at (ChanCleared m) m (λ j u there. ((k.tied j u there).clears m).1) g.once has fresh in
      let freed : tally s.views (Free m) ≡ 1 = omega (arith, g.once) in
      let done = g.chan_stays freed none-yet in
      let both-done = free_both x key s k c m within is some-have in
      let none-picks = f.used both-done.0 in
      let none-claims : tally s.views (Claimed m) ≡ 0 = dite (ℕ_discrete (tally s.views (Claimed m)) 0) (λ z. z) (λ ne. absurd (omega (arith, (g.unsent (omega arith)).1))) in
      let home = g.vacant (λ e. omega arith) (omega arith) in
      let w : View L A = noted (chan_at c) r (EMPTY (m + key.0)) (clearing_chan m m0) in
      let marks : (q j : ℕ) → q < 14 → (j ≢ m) ⊎ (q ≢ 12) → count (mark q j) w.marks ≡ count (mark q j) m0.marks = λ q j small which. gain_other q j 12 m m0.marks (omega arith) (omega arith) which in
      let tie = k.tied id m0 at in (
        w,
        keeps,
        tt,
        at_chan x key s k id m0 w c m (EMPTY (m + key.0)) s.homes record {
          shift = calm_shift x key s k id m0 w at live c m (chan_at c) (EMPTY (m + key.0)) s.homes within is refl refl refl refl (inr (clear_chan, m, (refl, done, refl))) refl
              (λ q j small seven eight ne. marks q j small (inl ne)) (λ q j which ne h. inl (omega (arith, marks q j (⊎_elim (λ e. omega arith) (λ e. omega arith) which) (inl ne))))
              (λ grows e i. inl i) refl (λ i h. inl h) (λ grows by i h. inl h) (λ grows e i. inl i)
              (tied_on x m0 w tie live tie.spends
              (λ by i r'. omega (arith, tie.receipts by i r', marks 2 by (omega arith) (inr (λ e. omega arith)), marks 3 by (omega arith) (inr (λ e. omega arith)), marks 13 by (omega arith) (inr (λ e. omega arith))))
              (λ by i r' h. r') refl (λ j. marks 13 j (omega arith) (inr (λ e. omega arith)))
              (λ j. let z = tie.clears j in let free : count (Free j) w.marks ≡ count (Free j) m0.marks = marks 10 j (omega arith) (inr (λ e. omega arith)) in (
                omega (arith, z.0, free, marks 11 j (omega arith) (inr (λ e. omega arith))),
                dite (ℕ_discrete j m) (λ e. subst (λ i. count (ChanCleared i) w.marks ≤ count (Free i) w.marks) (sym e) (omega (arith, more_here (ChanCleared m) m0.marks, marks 10 m (omega arith) (inr (λ e. omega arith))))) (λ ne. omega (arith, z.1, free, marks 12 j (omega arith) (inl ne))),
                omega (arith, z.2, free, marks 4 j (omega arith) (inr (λ e. omega arith))),
              ))
              (λ j item r'. let z = tie.rests j item r' in (z.0, omega (arith, z.1, marks 7 j (omega arith) (inr (λ e. omega arith))))))
              (λ by i r'. r') (λ j item there. there) (λ i. refl) (λ i item r'. r');
          calm = λ q which. marks q m (⊎_elim (λ e. omega arith) (λ z. omega arith) which) (inr (λ e. ⊎_elim (λ f. omega arith) (λ z. omega arith) which));
          chan = λ T after. let u = gains_tally x key s.views m0 w T after (ChanCleared m) refl in
              let e5 : T (Claimed m) ≡ tally s.views (Claimed m) = u.1 (Claimed m) (λ e. omega arith) in
              let e6 : T (Picking m) ≡ tally s.views (Picking m) = u.1 (Picking m) (λ e. omega arith) in
              let e10 : T (Free m) ≡ tally s.views (Free m) = u.1 (Free m) (λ e. omega arith) in
              let e11 : T (ClaimCleared m) ≡ tally s.views (ClaimCleared m) = u.1 (ClaimCleared m) (λ e. omega arith) in
              let e12 : T (ChanCleared m) ≡ tally s.views (ChanCleared m) + 1 = u.0 in
              record {
                claim_word = λ z. absurd (omega arith);
                chan_word = λ z. absurd (omega arith);
                unclaimed = λ z. absurd (omega arith);
                unsent = λ lt. absurd (omega arith);
                sent = λ z. absurd (omega arith);
                once = omega arith;
                claim_stays = λ e z. g.claim_stays freed (omega arith);
                claim_cleared = λ lt. let z = g.claim_cleared (omega arith) in (omega (arith, z.0), omega (arith, z.1), z.2);
                chan_stays = λ e z. absurd (omega arith);
                chan_cleared = λ _. (omega arith, omega arith, refl);
                full = λ e. absurd (omega arith);
                vacant = λ ne z. home;
                away = λ lt. absurd (omega arith);
              };
          retire = λ T after. let u = gains_tally x key s.views m0 w T after (ChanCleared m) refl in
              let e6 : T (Picking m) ≡ tally s.views (Picking m) = u.1 (Picking m) (λ e. omega arith) in
              let e9 : T (Right m) ≡ tally s.views (Right m) = u.1 (Right m) (λ e. omega arith) in
              let e10 : T (Free m) ≡ tally s.views (Free m) = u.1 (Free m) (λ e. omega arith) in
              let e13 : T (Kept m) ≡ tally s.views (Kept m) = u.1 (Kept m) (λ e. omega arith) in
              let b : ℕ = f.receivers in
              record {
                receivers = b;
                counted = omega (arith, f.counted);
                once = f.once;
                free = λ e. omega arith;
                bound = λ e. absurd (omega (arith, both-done.0, both-done.1));
                right = λ z. absurd (omega (arith, both-done.0));
                none = λ _. omega arith;
                used = λ _. omega arith;
                done = λ e lt. absurd (omega (arith, both-done.0, both-done.1));
              };
          wait = λ T after. unparked s k m0 w T after r (EMPTY (m + key.0)) (λ e. omega arith) (λ e. omega arith) (λ q j which. marks q j (⊎_elim (λ e. omega arith) (λ e. omega arith) which) (inr (λ e. ⊎_elim (λ f. omega arith) (λ f. omega arith) which)));
          parks = λ j e. absurd (omega arith);
          full = λ i e. absurd (omega arith);
          done = λ i e. let same : m ≡ i = omega arith in inr (is ∙ same, omega (arith, f.counted, both-done.0, both-done.1));
          fresh = λ i e. absurd (omega arith);
          places = λ j ne. refl;
          no_load = λ item e. let bad : some (some None) ≡ load_in {P = P} item = sym home ∙ e in cc;
          put = λ item e. let bad : some (some None) ≡ parcel_in {L = L} item = sym home ∙ e in cc;
        },
        (λ n i ns word. let n-is : key.0 ≡ n = omega (arith, k.tall) in let same : m ≡ i = omega arith in λ q. (noted (chan_at c) r (EMPTY (m + key.0)) (clearing_chan (same q) m0), me.1)),
      )
