-- The moves of a load's slot keep the rule.
use Rattle.std.proofs.Common.{◌≡◌, ◌≢◌, ◌⊎◌, ℕ, ◌+◌, ◌<◌, ◌≤◌, List, ◌∷◌, get_or, set, sym, refl, ap, ◌∙◌, subst, inl, inr, ⊎_elim, arith, length-set, Some, None}
use mathlib.Core.Logic.{dite}
use native.Mathlib.Decide.{ℕ_discrete, dec_le}
use mathlib.Core.Option as maybe
use mathlib.Core.Option.{some, some-injective, some-ne-none}
use lib.ListN.{get_elem?}
use Rattle.atomic_table.proofs.Lists.{set_else}
use Rattle.cell_rules.specs.declared.item.Item.TheVariants.{Load, Parcel}
use Rattle.cell_rules.specs.declared.view.View.{View}
use Rattle.cell_rules.specs.Lists.{count, without, In}
use Rattle.cell_rules.specs.Words.{cell, task_at, load_at, task, RUNNING, WAITING}
use Rattle.cell_rules.specs.Marks.{mark, Drawn, Opening, InHand, Lifted, Reopening, Parking, Waking, Free, Kept}
use Rattle.cell_rules.specs.Rule.{Means, Held, OneLoad, tally, Rules}
use Rattle.atomic_table.specs.Table.{takes, gives, Me, step, Allows, rest, put_back}
use Rattle.cell_rules.specs.Words.{UNMADE}
use Rattle.cell_rules.specs.Plays.{noted, opened, lifting, settling, raising, opens, lifts, settles, raises, sends}
use Rattle.cell_rules.proofs.Totals.{more_here, less_here, one_other, two_terms, none_in}
use Rattle.cell_rules.proofs.Turns.{St, Homes, st, After, at_place}
use Rattle.cell_rules.proofs.Still.{cell_below, wait_as, present, has_some, loads_of, chans_of, waits_of, retires_of, resting_home, after_same, receipts_stay, shelf_stays}
use Rattle.cell_rules.proofs.Tasks.{at_task}
use Rattle.cell_rules.proofs.Tallies.{gain_other, lose_other, turn_other, gains_tally, turns_tally, tied_calm}

module _ {L P A : Type 0} (x : Means L P A) (key : ℕ × ℕ × A) where
  -- a load of a task word, at which an empty slot is taken or given back
  pub slot_moves : (s : St x key) (k : Rules x key s) (id : ℕ) (v w : View L A) → get_elem? s.views id ≡ some v → 0 < v.parts → (c m : ℕ) → c < key.0 → k.now c ≡ m → (h z : maybe.Option (Held L P))
      → get_elem? s.homes (load_at c) ≡ some h → ((load : L) → h ≡ some (Some (Load load)) → ⊥) → ((item : _) → z ≡ some (Some item) → ⊥) → task s.words c ≢ WAITING m
      → w.parts ≡ v.parts → w.spent ≡ v.spent → w.about ≡ v.about → w.log ≡ (task_at c, task s.words c, task s.words c) ∷ v.log → w.names ≡ v.names → w.made ≡ v.made → w.sends ≡ v.sends → w.kept ≡ v.kept → w.receipts ≡ v.receipts → w.resting ≡ v.resting
      → ((q j : ℕ) → q < 14 → (j ≢ m) ⊎ (4 < q) → count (mark q j) w.marks ≡ count (mark q j) v.marks)
      → ((j : ℕ) → count (InHand j) v.marks + count (Lifted j) v.marks ≤ count (InHand j) w.marks + count (Lifted j) w.marks)
      → ((j : ℕ) → count (Reopening j) w.marks ≤ count (Free j) v.marks)
      → ((T : ℕ → ℕ) → After x key s.views v w T → get_elem? (set s.homes (load_at c) z) (load_at c) ≡ some z → OneLoad x (get_or s.words 0 0) c m (task s.words c) T (get_elem? (set s.homes (load_at c) z) (load_at c)))
      → Rules x key (st x key (set s.words (task_at c) (task s.words c)) (set s.homes (load_at c) z) (set s.views id w))
  slot_moves s k id v w me live c m within is h z at was empty awake parts spent about log names made sends kept receipts resting others hold raised load =
      let hs : Homes x key = set s.homes (load_at c) z in
      let here : get_elem? hs (load_at c) ≡ some z = at_place s.homes (load_at c) h z at in
      let y : ℕ = task s.words c in
      at_task x key s k id v w c m y hs k.name record {
        shift = record {
          me = me;
          live = live;
          within = within;
          is = is;
          parts = parts;
          spent = spent;
          about = about;
          log = log;
          step = inl refl;
          tall = length-set s.homes (load_at c) z;
          others = λ q j small seven other ne. others q j small (inl ne);
          wakes = λ q j which ne has. inl (omega (arith, others q j (⊎_elim (λ e. omega arith) (λ e. omega arith) which) (inl ne)));
          names = λ grows e i. inl (subst (λ l. In e l) names i);
          makes = λ i h. inl (subst (λ l. In i l) made h);
          sends = λ grows i h. inl (subst (λ l. In i l) sends h);
          receives = λ grows by i h. inl (subst (λ l. In (by, i) l) receipts h);
          keeps = λ grows e i. inl (subst (λ l. In e l) kept i);
          tied = tied_calm x v w (k.tied id v me) (omega arith) (omega (arith, (k.tied id v me).spends)) receipts kept resting hold
              (λ q j which. others q j (⊎_elim (λ e. omega arith) (λ t. omega arith) which) (inr (⊎_elim (λ e. omega arith) (λ t. omega arith) which))) raised;
          moved = receipts_stay x key s id v w hs me (λ by i r. subst (λ l. In (by, i) l) (sym receipts) r) (shelf_stays x key s.homes (load_at c) h z at was);
          shelf = λ i ne. set_else s.homes (load_at c) (load_at i) z (λ e. ne (omega arith));
          quiet = inr (inl awake);
          rests = λ i item r. resting_home x key s k id v me c m within is hs (λ j ne. set_else s.homes (load_at c) (load_at j) z (λ e. ne (omega arith))) i item (subst (λ l. In (i, item) l) resting r) (inr (inl awake));
        };
        calm = λ q low high seven eight. others q m high (inr (omega arith));
        awake = λ q j which ne. others q j (⊎_elim (λ e. omega arith) (λ e. omega arith) which) (inl ne);
        load = λ T after. load T after here;
        wait = λ T after. wait_as _ _ _ _ _ _ _ T (waits_of x key s k c m within is) refl refl refl (after_same x key s.views v w T after (Parking m) (others 7 m (omega arith) (inr (omega arith)))) (after_same x key s.views v w T after (Waking m) (others 8 m (omega arith) (inr (omega arith))));
        begun = λ ne. ne;
        titles = λ i was. refl;
        places = λ j ne. set_else s.homes (load_at c) j z ne;
        put = λ grows item e. absurd (empty (Load item) (some-injective z (some (Some (Load item))) (sym here ∙ e)));
        no_parcel = λ item e. empty (Parcel item) (some-injective z (some (Some (Parcel item))) (sym here ∙ e));
      }

  pub opens_kept : (slots id : ℕ) (me : Me (Held L P) (View L A)) (m : ℕ) → 0 < me.0.parts → 0 < count (Drawn m) me.0.marks
      → Allows (Rules x key) slots id me (task_at (cell key.0 m)) (λ n. n) (opens (step slots (task_at (cell key.0 m)) 0 0 maybe.none) me)
  opens_kept slots id me m live has s k wide at fits =
      let m0 : View L A = me.0 in
      let c : ℕ = cell key.0 m in
      let within : c < key.0 = cell_below key.0 m k.small.0 in
      let is : k.now c ≡ m = present x key s k id m0 at 0 m (omega arith) has in
      let some-have : 0 < tally s.views (Drawn m) = has_some x key s id m0 at (Drawn m) has in
      let g = loads_of x key s k c m within is in
      let zero-now : task s.words c ≡ UNMADE = dite (ℕ_discrete (task s.words c) UNMADE) (λ e. e) (λ ne. absurd (omega (arith, g.begun ne))) in
      let drawn : c < get_or s.words 0 0 = dite (dec_le (get_or s.words 0 0) c) (λ le. absurd (omega (arith, (g.fresh le).1))) (λ gt. omega arith) in
      let owed = g.owed drawn zero-now in
      let home = g.vacant zero-now (omega arith) in
      let w : View L A = noted (task_at c) (task s.words c) (task s.words c) (opened m m0) in (
        w,
        takes (load_at c) None,
        home,
        slot_moves s k id m0 w at live c m within is (some None) maybe.none home (λ load e. cc) (λ item e. cc) (λ e. absurd (omega arith)) refl refl refl refl refl refl refl refl refl refl
            (λ q j small which. turn_other q j 0 1 m m0.marks (omega arith) (omega arith) (omega arith) (⊎_elim (λ ne. inl ne) (λ lt. inr ((λ e. omega arith), λ e. omega arith)) which) has)
            (λ j. omega (arith, turn_other 2 j 0 1 m m0.marks (omega arith) (omega arith) (omega arith) (inr ((λ e. omega arith), λ e. omega arith)) has, turn_other 3 j 0 1 m m0.marks (omega arith) (omega arith) (omega arith) (inr ((λ e. omega arith), λ e. omega arith)) has))
            (λ j. omega (arith, turn_other 4 j 0 1 m m0.marks (omega arith) (omega arith) (omega arith) (inr ((λ e. omega arith), λ e. omega arith)) has, ((k.tied id m0 at).clears j).2))
            (λ T after here. let t = turns_tally x key s.views m0 w T after (Drawn m) (Opening m) refl (λ e. omega arith) has in
            let e0 : T (Drawn m) + 1 ≡ tally s.views (Drawn m) = t.0 in
            let e1 : T (Opening m) ≡ tally s.views (Opening m) + 1 = t.1 in
            let e2 : T (InHand m) ≡ tally s.views (InHand m) = t.2 (InHand m) (λ e. omega arith) (λ e. omega arith) in
            let e3 : T (Lifted m) ≡ tally s.views (Lifted m) = t.2 (Lifted m) (λ e. omega arith) (λ e. omega arith) in
            let e4 : T (Reopening m) ≡ tally s.views (Reopening m) = t.2 (Reopening m) (λ e. omega arith) (λ e. omega arith) in
            let e13 : T (Kept m) ≡ tally s.views (Kept m) = t.2 (Kept m) (λ e. omega arith) (λ e. omega arith) in
            record {
              unmade = g.unmade;
              carried = g.carried;
              fresh = λ le. absurd (omega arith);
              owed = λ _ _. omega arith;
              begun = λ ne. absurd (ne zero-now);
              running = λ e. absurd (omega arith);
              resting = λ ne. omega (arith, g.resting ne);
              stored = λ ne. absurd (ne zero-now);
              vacant = λ _ z. absurd (omega arith);
              vacated = λ e. absurd (omega arith);
              away = λ _. here;
              reopens = λ lt. let r = g.reopens (omega arith) in (omega (arith, r.0), omega (arith, r.1));
            }),
        (λ n i ns word has-i.
            let n-is : key.0 ≡ n = omega (arith, k.tall) in
            let cells : cell key.0 m ≡ cell key.0 i = omega (arith, ap (λ z. cell z i) n-is) in
            let now-i : k.now (cell key.0 i) ≡ i = present x key s k id m0 at 0 i (omega arith) has-i in
            let same : m ≡ i = sym is ∙ (ap k.now cells ∙ now-i) in
            (λ q. (noted (task_at c) (task s.words c) (task s.words c) (opened (same q) m0), (load_at (cell (n-is q) (same q)), None) ∷ me.1))),
      )

  pub lifts_kept : (slots id : ℕ) (me : Me (Held L P) (View L A)) (m : ℕ) → 0 < me.0.parts → 0 < count (InHand m) me.0.marks
      → Allows (Rules x key) slots id me (task_at (cell key.0 m)) (λ n. n) (lifts (step slots (task_at (cell key.0 m)) 0 0 maybe.none) me)
  lifts_kept slots id me m live has s k wide at fits =
      let m0 : View L A = me.0 in
      let c : ℕ = cell key.0 m in
      let within : c < key.0 = cell_below key.0 m k.small.0 in
      let is : k.now c ≡ m = present x key s k id m0 at 2 m (omega arith) has in
      let some-have : 0 < tally s.views (InHand m) = has_some x key s id m0 at (InHand m) has in
      let g = loads_of x key s k c m within is in
      let runs : task s.words c ≡ RUNNING m = dite (ℕ_discrete (task s.words c) (RUNNING m)) (λ e. e) (λ ne. absurd (omega (arith, g.resting ne))) in
      let held = g.running runs in
      let begun = g.begun (λ e. absurd (omega arith)) in
      let none-open : tally s.views (Reopening m) ≡ 0 = dite (ℕ_discrete (tally s.views (Reopening m)) 0) (λ z. z) (λ ne. absurd (omega (arith, (g.reopens (omega arith)).1))) in
      let home = g.vacated runs (omega arith) in
      let w : View L A = noted (task_at c) (task s.words c) (task s.words c) (lifting m m0) in (
        w,
        takes (load_at c) None,
        home,
        slot_moves s k id m0 w at live c m within is (some None) maybe.none home (λ load e. cc) (λ item e. cc) (λ e. absurd (omega arith)) refl refl refl refl refl refl refl refl refl refl
            (λ q j small which. turn_other q j 2 3 m m0.marks (omega arith) (omega arith) (omega arith) (⊎_elim (λ ne. inl ne) (λ lt. inr ((λ e. omega arith), λ e. omega arith)) which) has)
            (λ j. dite (ℕ_discrete j m) (λ e. subst (λ z. count (InHand z) m0.marks + count (Lifted z) m0.marks ≤ count (InHand z) w.marks + count (Lifted z) w.marks) (sym e) (omega (arith, more_here (Lifted m) (without (InHand m) m0.marks), less_here (InHand m) m0.marks has, one_other (InHand m) (Lifted m) (λ e. omega arith), lose_other 3 m 2 m m0.marks (omega arith) (omega arith) (inr (λ e. omega arith)) has)))
            (λ ne. omega (arith, turn_other 2 j 2 3 m m0.marks (omega arith) (omega arith) (omega arith) (inl ne) has, turn_other 3 j 2 3 m m0.marks (omega arith) (omega arith) (omega arith) (inl ne) has)))
            (λ j. omega (arith, turn_other 4 j 2 3 m m0.marks (omega arith) (omega arith) (omega arith) (inr ((λ e. omega arith), λ e. omega arith)) has, ((k.tied id m0 at).clears j).2))
            (λ T after here. let t = turns_tally x key s.views m0 w T after (InHand m) (Lifted m) refl (λ e. omega arith) has in
            let e0 : T (Drawn m) ≡ tally s.views (Drawn m) = t.2 (Drawn m) (λ e. omega arith) (λ e. omega arith) in
            let e1 : T (Opening m) ≡ tally s.views (Opening m) = t.2 (Opening m) (λ e. omega arith) (λ e. omega arith) in
            let e2 : T (InHand m) + 1 ≡ tally s.views (InHand m) = t.0 in
            let e3 : T (Lifted m) ≡ tally s.views (Lifted m) + 1 = t.1 in
            let e4 : T (Reopening m) ≡ tally s.views (Reopening m) = t.2 (Reopening m) (λ e. omega arith) (λ e. omega arith) in
            let e13 : T (Kept m) ≡ tally s.views (Kept m) = t.2 (Kept m) (λ e. omega arith) (λ e. omega arith) in
            record {
              unmade = g.unmade;
              carried = g.carried;
              fresh = λ le. absurd (omega (arith, (g.fresh le).0));
              owed = λ _ e. absurd (omega arith);
              begun = λ ne. omega arith;
              running = λ e. omega arith;
              resting = λ ne. absurd (ne runs);
              stored = λ _ ne. absurd (ne runs);
              vacant = λ e. absurd (omega arith);
              vacated = λ e z. absurd (omega arith);
              away = λ _. here;
              reopens = λ lt. absurd (omega arith);
            }),
        (λ n i ns word has-i.
            let n-is : key.0 ≡ n = omega (arith, k.tall) in
            let cells : cell key.0 m ≡ cell key.0 i = omega (arith, ap (λ z. cell z i) n-is) in
            let now-i : k.now (cell key.0 i) ≡ i = present x key s k id m0 at 2 i (omega arith) has-i in
            let same : m ≡ i = sym is ∙ (ap k.now cells ∙ now-i) in
            (λ q. (noted (task_at c) (task s.words c) (task s.words c) (lifting (same q) m0), (load_at (cell (n-is q) (same q)), None) ∷ me.1))),
      )

  pub settles_kept : (slots id : ℕ) (me : Me (Held L P) (View L A)) (m : ℕ) (others : List (ℕ × Held L P)) → 0 < me.0.parts → me.1 ≡ (load_at (cell key.0 m), None) ∷ others → 0 < count (Lifted m) me.0.marks
      → Allows (Rules x key) slots id me (task_at (cell key.0 m)) (λ n. n) (settles (step slots (task_at (cell key.0 m)) 0 0 maybe.none) me)
  settles_kept slots id me m others live carries has s k wide at fits =
      let m0 : View L A = me.0 in
      let c : ℕ = cell key.0 m in
      let within : c < key.0 = cell_below key.0 m k.small.0 in
      let is : k.now c ≡ m = present x key s k id m0 at 3 m (omega arith) has in
      let some-have : 0 < tally s.views (Lifted m) = has_some x key s id m0 at (Lifted m) has in
      let g = loads_of x key s k c m within is in
      let runs : task s.words c ≡ RUNNING m = dite (ℕ_discrete (task s.words c) (RUNNING m)) (λ e. e) (λ ne. absurd (omega (arith, g.resting ne))) in
      let held = g.running runs in
      let begun = g.begun (λ e. absurd (omega arith)) in
      let none-open : tally s.views (Reopening m) ≡ 0 = dite (ℕ_discrete (tally s.views (Reopening m)) 0) (λ z. z) (λ ne. absurd (omega (arith, (g.reopens (omega arith)).1))) in
      let home = g.away (omega arith) in
      let w : View L A = noted (task_at c) (task s.words c) (task s.words c) (settling m m0) in
      let kept : Rules x key (st x key (set s.words (task_at c) (task s.words c)) (set s.homes (load_at c) (some None)) (set s.views id w)) =
      slot_moves s k id m0 w at live c m within is maybe.none (some None) home (λ load e. cc) (λ item e. cc) (λ e. absurd (omega arith)) refl refl refl refl refl refl refl refl refl refl
      (λ q j small which. turn_other q j 3 2 m m0.marks (omega arith) (omega arith) (omega arith) (⊎_elim (λ ne. inl ne) (λ lt. inr ((λ e. omega arith), λ e. omega arith)) which) has)
      (λ j. dite (ℕ_discrete j m) (λ e. subst (λ z. count (InHand z) m0.marks + count (Lifted z) m0.marks ≤ count (InHand z) w.marks + count (Lifted z) w.marks) (sym e) (omega (arith, more_here (InHand m) (without (Lifted m) m0.marks), less_here (Lifted m) m0.marks has, one_other (Lifted m) (InHand m) (λ e. omega arith), lose_other 2 m 3 m m0.marks (omega arith) (omega arith) (inr (λ e. omega arith)) has)))
      (λ ne. omega (arith, turn_other 2 j 3 2 m m0.marks (omega arith) (omega arith) (omega arith) (inl ne) has, turn_other 3 j 3 2 m m0.marks (omega arith) (omega arith) (omega arith) (inl ne) has)))
      (λ j. omega (arith, turn_other 4 j 3 2 m m0.marks (omega arith) (omega arith) (omega arith) (inr ((λ e. omega arith), λ e. omega arith)) has, ((k.tied id m0 at).clears j).2))
      (λ T after here. let t = turns_tally x key s.views m0 w T after (Lifted m) (InHand m) refl (λ e. omega arith) has in
      let e0 : T (Drawn m) ≡ tally s.views (Drawn m) = t.2 (Drawn m) (λ e. omega arith) (λ e. omega arith) in
      let e1 : T (Opening m) ≡ tally s.views (Opening m) = t.2 (Opening m) (λ e. omega arith) (λ e. omega arith) in
      let e2 : T (InHand m) ≡ tally s.views (InHand m) + 1 = t.1 in
      let e3 : T (Lifted m) + 1 ≡ tally s.views (Lifted m) = t.0 in
      let e4 : T (Reopening m) ≡ tally s.views (Reopening m) = t.2 (Reopening m) (λ e. omega arith) (λ e. omega arith) in
      let e13 : T (Kept m) ≡ tally s.views (Kept m) = t.2 (Kept m) (λ e. omega arith) (λ e. omega arith) in
      record {
        unmade = g.unmade;
        carried = g.carried;
        fresh = λ le. absurd (omega (arith, (g.fresh le).0));
        owed = λ _ e. absurd (omega arith);
        begun = λ ne. omega arith;
        running = λ e. omega arith;
        resting = λ ne. absurd (ne runs);
        stored = λ _ ne. absurd (ne runs);
        vacant = λ e. absurd (omega arith);
        vacated = λ e z. here;
        away = λ lt. absurd (omega arith);
        reopens = λ lt. absurd (omega arith);
      }) in (
        w,
        gives,
        tt,
        subst (λ (l : List (ℕ × Held L P)). Rules x key (st x key (set s.words (task_at c) (task s.words c)) (put_back s.homes l) (set s.views id w))) (sym carries) kept,
        (λ n i ns word has-i.
            let n-is : key.0 ≡ n = omega (arith, k.tall) in
            let cells : cell key.0 m ≡ cell key.0 i = omega (arith, ap (λ z. cell z i) n-is) in
            let now-i : k.now (cell key.0 i) ≡ i = present x key s k id m0 at 3 i (omega arith) has-i in
            let same : m ≡ i = sym is ∙ (ap k.now cells ∙ now-i) in
            (λ q. (noted (task_at c) (task s.words c) (task s.words c) (settling (same q) m0), rest me.1))),
      )

  -- the slot of a free cell that its hand does not have out is not out
  only_there : (s : St x key) (k : Rules x key s) (id : ℕ) (v : View L A) → get_elem? s.views id ≡ some v → (m : ℕ) → tally s.views (Free m) ≤ 1 → 0 < count (Free m) v.marks → count (Reopening m) v.marks ≡ 0 → tally s.views (Reopening m) ≡ 0
  only_there s k id v at m once has none = none_in (λ (u : View L A). count (Reopening m) u.marks) s.views (λ j u there. dite (ℕ_discrete j id)
      (λ e. let same : v ≡ u = some-injective v u (sym at ∙ (ap (λ i. get_elem? s.views i) (sym e) ∙ there)) in ap (λ (z : View L A). count (Reopening m) z.marks) (sym same) ∙ none)
      (λ ne. omega (arith, ((k.tied j u there).clears m).2, two_terms (λ (z : View L A). count (Free m) z.marks) s.views j id u v ne there at)))

  pub raises_kept : (slots id : ℕ) (me : Me (Held L P) (View L A)) (m : ℕ) → 0 < me.0.parts → 0 < count (Free m) me.0.marks → count (Reopening m) me.0.marks ≡ 0
      → Allows (Rules x key) slots id me (task_at (cell key.0 m)) (λ n. n) (raises (step slots (task_at (cell key.0 m)) 0 0 maybe.none) me)
  raises_kept slots id me m live has fresh s k wide at fits =
      let m0 : View L A = me.0 in
      let c : ℕ = cell key.0 m in
      let within : c < key.0 = cell_below key.0 m k.small.0 in
      let is : k.now c ≡ m = present x key s k id m0 at 10 m (omega arith) has in
      let some-have : 0 < tally s.views (Free m) = has_some x key s id m0 at (Free m) has in
      let g = loads_of x key s k c m within is in
      let f = retires_of x key s k c m within is in
      let freed : tally s.views (Kept m) ≡ 1 = dite (dec_le 2 (f.receivers + tally s.views (Kept m)))
      (λ le. dite (ℕ_discrete (tally s.views (Kept m)) 1) (λ e. e) (λ ne. dite (ℕ_discrete (task s.words c) (RUNNING m)) (λ r. absurd (omega (arith, f.once, g.running r))) (λ n. absurd (omega (arith, f.once, g.resting n)))))
      (λ lt. absurd (omega (arith, f.bound (omega arith)))) in
      let runs : task s.words c ≡ RUNNING m = dite (ℕ_discrete (task s.words c) (RUNNING m)) (λ e. e) (λ ne. absurd (omega (arith, g.resting ne))) in
      let held = g.running runs in
      let begun = g.begun (λ e. absurd (omega arith)) in
      let none-open : tally s.views (Reopening m) ≡ 0 = only_there s k id m0 at m (chans_of x key s k c m within is).once has fresh in
      let home = g.vacated runs (omega arith) in
      let w : View L A = noted (task_at c) (task s.words c) (task s.words c) (raising m m0) in (
        w,
        takes (load_at c) None,
        home,
        slot_moves s k id m0 w at live c m within is (some None) maybe.none home (λ load e. cc) (λ item e. cc) (λ e. absurd (omega arith)) refl refl refl refl refl refl refl refl refl refl
            (λ q j small which. gain_other q j 4 m m0.marks (omega arith) (omega arith) (⊎_elim (λ ne. inl ne) (λ lt. inr (λ e. omega arith)) which))
            (λ j. omega (arith, gain_other 2 j 4 m m0.marks (omega arith) (omega arith) (inr (λ e. omega arith)), gain_other 3 j 4 m m0.marks (omega arith) (omega arith) (inr (λ e. omega arith))))
            (λ j. dite (ℕ_discrete j m) (λ e. subst (λ z. count (Reopening z) w.marks ≤ count (Free z) m0.marks) (sym e) (omega (arith, more_here (Reopening m) m0.marks))) (λ ne. omega (arith, gain_other 4 j 4 m m0.marks (omega arith) (omega arith) (inl ne), ((k.tied id m0 at).clears j).2)))
            (λ T after here. let t = gains_tally x key s.views m0 w T after (Reopening m) refl in
            let e0 : T (Drawn m) ≡ tally s.views (Drawn m) = t.1 (Drawn m) (λ e. omega arith) in
            let e1 : T (Opening m) ≡ tally s.views (Opening m) = t.1 (Opening m) (λ e. omega arith) in
            let e2 : T (InHand m) ≡ tally s.views (InHand m) = t.1 (InHand m) (λ e. omega arith) in
            let e3 : T (Lifted m) ≡ tally s.views (Lifted m) = t.1 (Lifted m) (λ e. omega arith) in
            let e4 : T (Reopening m) ≡ tally s.views (Reopening m) + 1 = t.0 in
            let e13 : T (Kept m) ≡ tally s.views (Kept m) = t.1 (Kept m) (λ e. omega arith) in
            record {
              unmade = g.unmade;
              carried = g.carried;
              fresh = λ le. absurd (omega (arith, (g.fresh le).0));
              owed = λ _ e. absurd (omega arith);
              begun = λ ne. omega arith;
              running = λ e. omega arith;
              resting = λ ne. absurd (ne runs);
              stored = λ _ ne. absurd (ne runs);
              vacant = λ e. absurd (omega arith);
              vacated = λ e z. absurd (omega arith);
              away = λ _. here;
              reopens = λ _. (omega arith, omega arith);
            }),
        (λ n i ns word has-i.
            let n-is : key.0 ≡ n = omega (arith, k.tall) in
            let cells : cell key.0 m ≡ cell key.0 i = omega (arith, ap (λ z. cell z i) n-is) in
            let now-i : k.now (cell key.0 i) ≡ i = present x key s k id m0 at 10 i (omega arith) has-i in
            let same : m ≡ i = sym is ∙ (ap k.now cells ∙ now-i) in
            (λ q. (noted (task_at c) (task s.words c) (task s.words c) (raising (same q) m0), (load_at (cell (n-is q) (same q)), None) ∷ me.1))),
      )
