-- The steps at which a load goes home, and the wake step, keep the rule.
use Rattle.std.proofs.Common.{◌≡◌, ◌≢◌, ◌⊎◌, ℕ, ◌+◌, ◌*◌, ◌<◌, ◌≤◌, List, [], ◌∷◌, get_or, set, sym, refl, ap, ◌∙◌, subst, inl, inr, ⊎_elim, arith, cond, eq-eqb, ne_eqb, length-set, get_or-set_same, Some}
use mathlib.Core.Logic.{dite}
use native.Mathlib.Decide.{ℕ_discrete, dec_le}
use mathlib.Core.Option as maybe
use mathlib.Core.Option.{some, some-injective, some-ne-none}
use lib.ListN.{get_elem?}
use Rattle.atomic_table.proofs.Lists.{set_else}
use Rattle.cell_rules.specs.declared.item.Item.TheVariants.{Load}
use Rattle.cell_rules.specs.declared.view.View.{View}
use Rattle.cell_rules.specs.Lists.{count, without, In, besides}
use Rattle.cell_rules.specs.Words.{cell, task_at, load_at, task, READY, RUNNING, WAITING}
use Rattle.cell_rules.specs.Marks.{mark, Drawn, Opening, InHand, Lifted, Reopening, Parking, Waking, Free, ClaimCleared, ChanCleared, Kept}
use Rattle.cell_rules.specs.Table.{IsStep}
use Rattle.cell_rules.specs.Rule.{Means, Held, OneLoad, OneWait, GoodLoad, Tied, Made, parked, tally, load_in, parcel_in, Rules}
use Rattle.std.proofs.Common.{eqb}
use Rattle.atomic_table.specs.Table.{keeps, gives, Me, step, Allows, rest, put_back}
use Rattle.cell_rules.specs.Lists.{besides}
use Rattle.cell_rules.specs.Words.{UNMADE, ENDED, HALTED}
use Rattle.cell_rules.specs.Table.{begin, home, wake}
use Rattle.cell_rules.specs.Plays.{noted, beginning, leaving, halting, waked, leaves, wakes, halts, sends, begins}
use Rattle.cell_rules.specs.Asks.{Knows, Tells, IsNew}
use Rattle.cell_rules.proofs.Totals.{more_here, In-besides, besides-In}
use Rattle.cell_rules.proofs.Turns.{St, Homes, st, After, at_place, Grows, named_on, load_on}
use Rattle.cell_rules.proofs.Still.{cell_below, present, has_some, loads_of, waits_of, resting_home, cell_of, receipts_move, receipts_stay, shelf_stays}
use Rattle.cell_rules.proofs.Tasks.{at_task}
use Rattle.cell_rules.proofs.Tallies.{lose_other, turn_other, loses_tally, turns_tally, tied_on, tied_calm}
use Rattle.cell_rules.proofs.Fetches.{wakeful}

module _ {L P A : Type 0} (x : Means L P A) (key : ℕ × ℕ × A) where
  -- a load goes home from the slot that the seat has out
  pub puts : (s : St x key) (k : Rules x key s) (id : ℕ) (v w : View L A) → get_elem? s.views id ≡ some v → 0 < v.parts → (c m y : ℕ) (load : L) (name' : ℕ → List ℕ) → c < key.0 → k.now c ≡ m
      → get_elem? s.homes (load_at c) ≡ some maybe.none → task s.words c ≢ WAITING m → y ≢ UNMADE → IsStep key.0 record { seat = id; word = task_at c; found = task s.words c; left = y }
      → w.parts ≡ v.parts → w.spent ≡ v.spent → w.about ≡ v.about → w.log ≡ (task_at c, task s.words c, y) ∷ v.log → w.sends ≡ v.sends → w.kept ≡ v.kept
      → ((i : ℕ) → Made key.0 k.now s.words i → k.name i ≡ name' i)
      → (Grows x key k.name name' k.now k.age k.now k.age s.words (set s.words (task_at c) y) → (e : ℕ × List ℕ) → In e w.names → In e v.names ⊎ ((name' e.0 ≡ e.1) × Made key.0 k.now (set s.words (task_at c) y) e.0))
      → ((i : ℕ) → In i w.made → In i v.made ⊎ Made key.0 k.now (set s.words (task_at c) y) i)
      → (Grows x key k.name name' k.now k.age k.now k.age s.words (set s.words (task_at c) y) → GoodLoad x key.0 name' key.2 k.now k.age (set s.words (task_at c) y) load)
      → ((by i : ℕ) → In (by, i) v.receipts → In (by, i) w.receipts ⊎ In i (x.received load)) → ((by i : ℕ) → In (by, i) w.receipts → In (by, i) v.receipts)
      → Tied x w → ((i : ℕ) (item : L) → In (i, item) w.resting → ((m ≡ i) × (load ≡ item)) ⊎ In (i, item) v.resting)
      → ((q j : ℕ) → q < 14 → (j ≢ m) ⊎ (4 < q) × (q ≢ 7) → count (mark q j) w.marks ≡ count (mark q j) v.marks)
      → ((T : ℕ → ℕ) → After x key s.views v w T → get_elem? (set s.homes (load_at c) (some (Some (Load load)))) (load_at c) ≡ load_in load → OneLoad x (get_or s.words 0 0) c m y T (get_elem? (set s.homes (load_at c) (some (Some (Load load)))) (load_at c)))
      → ((T : ℕ → ℕ) → After x key s.views v w T → OneWait m y (parked key.0 s.words m) T)
      → Rules x key (st x key (set s.words (task_at c) y) (set s.homes (load_at c) (some (Some (Load load)))) (set s.views id w))
  puts s k id v w me live c m y load name' within is gone calm made row parts spent about log sends kept titles names makes fine receipts fewer tied rests others turn wait =
      let hs : Homes x key = set s.homes (load_at c) (some (Some (Load load))) in
      let back : get_elem? hs (load_at c) ≡ load_in load = at_place s.homes (load_at c) maybe.none (some (Some (Load load))) gone in
      let here : get_elem? (set s.views id w) id ≡ some w = at_place s.views id v w me in
      let place : cell key.0 m ≡ c = cell_of x key s k c m within is in
      at_task x key s k id v w c m y hs name' record {
        shift = record {
          me = me;
          live = live;
          within = within;
          is = is;
          parts = parts;
          spent = spent;
          about = about;
          log = log;
          step = row;
          tall = length-set s.homes (load_at c) (some (Some (Load load)));
          others = λ q j small seven other ne. others q j small (inl ne);
          wakes = λ q j which ne has. inl (omega (arith, others q j (⊎_elim (λ e. omega arith) (λ e. omega arith) which) (inl ne)));
          names = names;
          makes = makes;
          sends = λ grows i h. inl (subst (λ l. In i l) sends h);
          receives = λ grows by i h. inl (fewer by i h);
          keeps = λ grows e i. inl (subst (λ l. In e l) kept i);
          tied = tied;
          moved = receipts_move x key s id v w hs me
              (λ by i r. ⊎_elim (λ stays. inl (id, w, by, here, stays)) (λ told. inr (load_at c, load, back, told)) (receipts by i r))
              (λ j item i there r. inr (j, item, shelf_stays x key s.homes (load_at c) maybe.none (some (Some (Load load))) gone (λ l e. cc) j item there, r));
          shelf = λ i ne. set_else s.homes (load_at c) (load_at i) (some (Some (Load load))) (λ e. ne (omega arith));
          quiet = inr (inl calm);
          rests = λ i item r. ⊎_elim (λ t. let at-i : cell key.0 i ≡ c = ap (cell key.0) (sym t.0) ∙ place in ap (λ z. get_elem? hs (load_at z)) at-i ∙ (back ∙ ap (λ (z : L). load_in {P = P} z) t.1))
              (λ old. resting_home x key s k id v me c m within is hs (λ j ne. set_else s.homes (load_at c) (load_at j) (some (Some (Load load))) (λ e. ne (omega arith))) i item old (inr (inl calm))) (rests i item r);
        };
        calm = λ q low high seven eight. others q m high (inr (omega arith, seven));
        awake = λ q j which ne. others q j (⊎_elim (λ e. omega arith) (λ e. omega arith) which) (inl ne);
        load = λ T after. turn T after back;
        wait = wait;
        begun = λ _. made;
        titles = titles;
        places = λ j ne. set_else s.homes (load_at c) j (some (Some (Load load))) ne;
        put = λ grows item e. let both : load_in {P = P} load ≡ load_in item = sym back ∙ e in let one-load : load ≡ item = cc in subst (λ (z : L). GoodLoad x key.0 name' key.2 k.now k.age (set s.words (task_at c) y) z) one-load (fine grows);
        no_parcel = λ item e. let both : load_in {P = P} load ≡ parcel_in item = sym back ∙ e in cc;
      }

  -- what a load tells that its hand knows is so
  pub known : (s : St x key) (k : Rules x key s) (id : ℕ) (v : View L A) → get_elem? s.views id ≡ some v → 0 < v.parts → (load : L) → Knows x v load → GoodLoad x key.0 k.name key.2 k.now k.age s.words load
  known s k id v at live load knows = let good = k.views id v at in record {
    named = λ e i. good.named e (knows.mentions e i);
    forked = λ m i. let t = knows.forked m i in (good.named (m, t.0) t.1).1;
    sent = λ m i. good.sent m (knows.sent m i);
    received = λ m i. let t = knows.received m i in (good.named (m, t.0) t.1).1;
    program = let both : x.about load ∷ [] ≡ key.2 ∷ [] = sym knows.program ∙ good.program live in cc;
  }

  told : (v : View L A) (load : L) (m : ℕ) → Tells x v load m → (by i : ℕ) → In (by, i) v.receipts → In (by, i) (besides m v.receipts) ⊎ In i (x.received load)
  told v load m tells by i r = dite (ℕ_discrete by m) (λ q. inr (tells i (subst (λ z. In (z, i) v.receipts) q r))) (λ ne. inl (In-besides m (by, i) v.receipts r ne))

  -- the view whose load went home hangs together
  homed : (v w : View L A) → Tied x v → 0 < w.parts → (m : ℕ) → w.parts ≡ v.parts → w.spent ≡ v.spent → w.kept ≡ v.kept → w.receipts ≡ besides m v.receipts
      → ((q j : ℕ) → q < 14 → (j ≢ m) ⊎ ((q ≢ 3) × (q ≢ 7)) → count (mark q j) w.marks ≡ count (mark q j) v.marks)
      → ((j : ℕ) (load : L) → In (j, load) w.resting → (x.number load ≡ j) × (0 < count (Parking j) w.marks)) → Tied x w
  homed v w tie live m parts spent kept receipts others rests =
      let keeps-kept : (j : ℕ) → count (Kept j) w.marks ≡ count (Kept j) v.marks = λ j. others 13 j (omega arith) (inr ((λ e. omega arith), λ e. omega arith)) in
      let free : (j : ℕ) → count (Free j) w.marks ≡ count (Free j) v.marks = λ j. others 10 j (omega arith) (inr ((λ e. omega arith), λ e. omega arith)) in
      let cleared : (j : ℕ) → count (ClaimCleared j) w.marks ≡ count (ClaimCleared j) v.marks = λ j. others 11 j (omega arith) (inr ((λ e. omega arith), λ e. omega arith)) in
      let cleared' : (j : ℕ) → count (ChanCleared j) w.marks ≡ count (ChanCleared j) v.marks = λ j. others 12 j (omega arith) (inr ((λ e. omega arith), λ e. omega arith)) in
      let opens : (j : ℕ) → count (Reopening j) w.marks ≡ count (Reopening j) v.marks = λ j. others 4 j (omega arith) (inr ((λ e. omega arith), λ e. omega arith)) in
      tied_on x v w tie live (omega (arith, tie.spends))
      (λ by i r. let t = besides-In m (by, i) v.receipts (subst (λ l. In (by, i) l) receipts r) in omega (arith, tie.receipts by i t.1, others 2 by (omega arith) (inl t.0), others 3 by (omega arith) (inl t.0), keeps-kept by))
      (λ by i r has. (besides-In m (by, i) v.receipts (subst (λ l. In (by, i) l) receipts r)).1)
      kept keeps-kept (λ j. let t = tie.clears j in (omega (arith, t.0, free j, cleared j), omega (arith, t.1, free j, cleared' j), omega (arith, t.2, free j, opens j))) rests

  pub leaves_kept : (slots id : ℕ) (me : Me (Held L P) (View L A)) (m new : ℕ) (load : L) (others : List (ℕ × Held L P)) → 0 < me.0.parts → me.1 ≡ (load_at (cell key.0 m), Some (Load load)) ∷ others → x.number load ≡ m → 0 < count (Lifted m) me.0.marks
      → Knows x me.0 load → Tells x me.0 load m → (new ≡ READY m) ⊎ (new ≡ ENDED m) ⊎ (new ≡ HALTED m)
      → Allows (Rules x key) slots id me (task_at (cell key.0 m)) (λ _. new) (leaves (step slots (task_at (cell key.0 m)) new 0 maybe.none) me)
  leaves_kept slots id me m new load others live carries is-number has knows tells word s k wide at fits =
      let m0 : View L A = me.0 in
      let c : ℕ = cell key.0 m in
      let within : c < key.0 = cell_below key.0 m k.small.0 in
      let is : k.now c ≡ m = present x key s k id m0 at 3 m (omega arith) has in
      let some-have : 0 < tally s.views (Lifted m) = has_some x key s id m0 at (Lifted m) has in
      let g = loads_of x key s k c m within is in
      let runs : task s.words c ≡ RUNNING m = dite (ℕ_discrete (task s.words c) (RUNNING m)) (λ e. e) (λ ne. absurd (omega (arith, g.resting ne))) in
      let held = g.running runs in
      let begun = g.begun (λ e. absurd (omega arith)) in
      let gone = g.away (omega arith) in
      let none-open : tally s.views (Reopening m) ≡ 0 = dite (ℕ_discrete (tally s.views (Reopening m)) 0) (λ z. z) (λ ne. absurd (omega (arith, (g.reopens (omega arith)).1))) in
      let fits-word : (8 * m < new) × (new ≤ 8 * m + 5) × (new ≢ RUNNING m) × (new ≢ WAITING m) = ⊎_elim (λ e. (omega arith, omega arith, (λ q. omega arith), λ q. omega arith)) (λ r. ⊎_elim (λ e. (omega arith, omega arith, (λ q. omega arith), λ q. omega arith)) (λ e. (omega arith, omega arith, (λ q. omega arith), λ q. omega arith)) r) word in
      let w : View L A = noted (task_at c) (task s.words c) new (leaving m m0) in
      let marks : (q j : ℕ) → q < 14 → (j ≢ m) ⊎ (q ≢ 3) → count (mark q j) w.marks ≡ count (mark q j) m0.marks = λ q j small which. lose_other q j 3 m m0.marks (omega arith) (omega arith) which has in
      let kept : Rules x key (st x key (set s.words (task_at c) new) (set s.homes (load_at c) (some (Some (Load load)))) (set s.views id w)) =
      puts s k id m0 w at live c m new load k.name within is gone (λ e. omega arith) (λ e. omega (arith, fits-word.0)) (inr (home, m, (refl, runs, ⊎_elim (λ e. inl e) (λ r. ⊎_elim (λ e. inr (inl e)) (λ e. inr (inr (inl e))) r) word))) refl refl refl refl refl refl (λ i was. refl)
      (λ grows e i. inl i) (λ i h. inl h) (λ grows. load_on x key k.name k.name k.now k.age k.now k.age s.words _ grows load (known s k id m0 at live load knows)) (told m0 load m tells) (λ by i r. (besides-In m (by, i) m0.receipts r).1)
      (homed m0 w (k.tied id m0 at) live m refl refl refl refl (λ q j small which. marks q j small (⊎_elim (λ ne. inl ne) (λ t. inr t.0) which))
      (λ j item r. let t = (k.tied id m0 at).rests j item r in (t.0, omega (arith, t.1, marks 7 j (omega arith) (inr (λ e. omega arith))))))
      (λ i item r. inr r) (λ q j small which. marks q j small (⊎_elim (λ ne. inl ne) (λ t. inr (λ e. omega arith)) which))
      (λ T after back. let u = loses_tally x key s.views m0 w T after (Lifted m) refl has in
      let e3 : T (Lifted m) + 1 ≡ tally s.views (Lifted m) = u.0 in
      let e0 : T (Drawn m) ≡ tally s.views (Drawn m) = u.1 (Drawn m) (λ e. omega arith) in
      let e1 : T (Opening m) ≡ tally s.views (Opening m) = u.1 (Opening m) (λ e. omega arith) in
      let e2 : T (InHand m) ≡ tally s.views (InHand m) = u.1 (InHand m) (λ e. omega arith) in
      let e4 : T (Reopening m) ≡ tally s.views (Reopening m) = u.1 (Reopening m) (λ e. omega arith) in
      let e13 : T (Kept m) ≡ tally s.views (Kept m) = u.1 (Kept m) (λ e. omega arith) in
      record {
        unmade = λ e. absurd (omega (arith, fits-word.0));
        carried = λ _. (fits-word.0, fits-word.1);
        fresh = λ le. absurd (omega (arith, (g.fresh le).0));
        owed = λ _ e. absurd (omega (arith, fits-word.0));
        begun = λ ne. omega arith;
        running = λ e. absurd (fits-word.2 e);
        resting = λ ne. omega arith;
        stored = λ _ _. (load, back, is-number);
        vacant = λ e. absurd (omega (arith, fits-word.0));
        vacated = λ e. absurd (fits-word.2 e);
        away = λ h. absurd (omega arith);
        reopens = λ h. absurd (omega arith);
      })
      (λ T after. wakeful x key s k m0 w T after c m new within is (marks 7 m (omega arith) (inr (λ e. omega arith))) (marks 8 m (omega arith) (inr (λ e. omega arith))) (λ e. omega arith) fits-word.3) in (
        w,
        gives,
        tt,
        subst (λ (l : List (ℕ × Held L P)). Rules x key (st x key (set s.words (task_at c) new) (put_back s.homes l) (set s.views id w))) (sym carries) kept,
        (λ i has-i which. let same : m ≡ i = ⊎_elim (λ e. ⊎_elim (λ a. omega arith) (λ r. ⊎_elim (λ a. omega arith) (λ a. omega arith) r) word) (λ r'. ⊎_elim (λ e. ⊎_elim (λ a. omega arith) (λ r. ⊎_elim (λ a. omega arith) (λ a. omega arith) r) word) (λ e. ⊎_elim (λ a. omega arith) (λ r. ⊎_elim (λ a. omega arith) (λ a. omega arith) r) word) r') which in
            λ q. (noted (task_at c) (task s.words c) new (leaving (same q) m0), rest me.1)),
      )

  pub first_load : (a b : ℕ) (l l' : L) (xs ys : List (ℕ × Held L P)) → (a, Some (Load l)) ∷ xs ≡ (b, Some (Load l')) ∷ ys → l ≡ l'
  first_load a b l l' xs ys e = let heads : (a, Some (Load l)) ≡ (b, Some (Load l')) = cc in let seconds : Some (Load l) ≡ Some (Load l') = ap (λ (p : ℕ × Held L P). p.1) heads in cc

  pub halts_kept : (slots id : ℕ) (me : Me (Held L P) (View L A)) (m : ℕ) (load : L) (others : List (ℕ × Held L P)) → 0 < me.0.parts → me.1 ≡ (load_at (cell key.0 m), Some (Load load)) ∷ others → x.number load ≡ m → 0 < count (Lifted m) me.0.marks
      → Knows x me.0 load → Tells x me.0 load m
      → Allows (Rules x key) slots id me (task_at (cell key.0 m)) (λ _. WAITING m) (halts (step slots (task_at (cell key.0 m)) (WAITING m) 0 maybe.none) me)
  halts_kept slots id me m load others live carries is-number has knows tells s k wide at fits =
      let m0 : View L A = me.0 in
      let c : ℕ = cell key.0 m in
      let within : c < key.0 = cell_below key.0 m k.small.0 in
      let is : k.now c ≡ m = present x key s k id m0 at 3 m (omega arith) has in
      let some-have : 0 < tally s.views (Lifted m) = has_some x key s id m0 at (Lifted m) has in
      let g = loads_of x key s k c m within is in
      let runs : task s.words c ≡ RUNNING m = dite (ℕ_discrete (task s.words c) (RUNNING m)) (λ e. e) (λ ne. absurd (omega (arith, g.resting ne))) in
      let held = g.running runs in
      let begun = g.begun (λ e. absurd (omega arith)) in
      let none-waits = (waits_of x key s k c m within is).awake (λ e. absurd (omega arith)) in
      let gone = g.away (omega arith) in
      let none-open : tally s.views (Reopening m) ≡ 0 = dite (ℕ_discrete (tally s.views (Reopening m)) 0) (λ z. z) (λ ne. absurd (omega (arith, (g.reopens (omega arith)).1))) in
      let w : View L A = noted (task_at c) (task s.words c) (WAITING m) (halting m load m0) in
      let marks : (q j : ℕ) → q < 14 → (j ≢ m) ⊎ ((q ≢ 3) × (q ≢ 7)) → count (mark q j) w.marks ≡ count (mark q j) m0.marks = λ q j small which. turn_other q j 3 7 m m0.marks (omega arith) (omega arith) (omega arith) which has in
      let kept : Rules x key (st x key (set s.words (task_at c) (WAITING m)) (set s.homes (load_at c) (some (Some (Load load)))) (set s.views id w)) =
      puts s k id m0 w at live c m (WAITING m) load k.name within is gone (λ e. omega arith) (λ e. omega arith) (inr (home, m, (refl, runs, inr (inr (inr refl))))) refl refl refl refl refl refl (λ i was. refl)
      (λ grows e i. inl i) (λ i h. inl h) (λ grows. load_on x key k.name k.name k.now k.age k.now k.age s.words _ grows load (known s k id m0 at live load knows)) (told m0 load m tells) (λ by i r. (besides-In m (by, i) m0.receipts r).1)
      (homed m0 w (k.tied id m0 at) live m refl refl refl refl marks
      (λ j item r. ⊎_elim (λ e. let first : m ≡ j = ap (λ (p : ℕ × L). p.0) (sym e) in let second : load ≡ item = ap (λ (p : ℕ × L). p.1) (sym e) in (ap x.number (sym second) ∙ (is-number ∙ first), subst (λ z. 0 < count (Parking z) w.marks) first (omega (arith, more_here (Parking m) (without (Lifted m) m0.marks)))))
      (λ old. let t = (k.tied id m0 at).rests j item old in (t.0, dite (ℕ_discrete j m) (λ e. subst (λ z. 0 < count (Parking z) w.marks) (sym e) (omega (arith, more_here (Parking m) (without (Lifted m) m0.marks)))) (λ ne. omega (arith, t.1, marks 7 j (omega arith) (inl ne))))) r))
      (λ i item r. ⊎_elim (λ e. inl (ap (λ (p : ℕ × L). p.0) (sym e), ap (λ (p : ℕ × L). p.1) (sym e))) (λ old. inr old) r) (λ q j small which. marks q j small (⊎_elim (λ ne. inl ne) (λ t. inr ((λ e. omega arith), t.1)) which))
      (λ T after back. let u = turns_tally x key s.views m0 w T after (Lifted m) (Parking m) refl (λ e. omega arith) has in
      let e3 : T (Lifted m) + 1 ≡ tally s.views (Lifted m) = u.0 in
      let e0 : T (Drawn m) ≡ tally s.views (Drawn m) = u.2 (Drawn m) (λ e. omega arith) (λ e. omega arith) in
      let e1 : T (Opening m) ≡ tally s.views (Opening m) = u.2 (Opening m) (λ e. omega arith) (λ e. omega arith) in
      let e2 : T (InHand m) ≡ tally s.views (InHand m) = u.2 (InHand m) (λ e. omega arith) (λ e. omega arith) in
      let e4 : T (Reopening m) ≡ tally s.views (Reopening m) = u.2 (Reopening m) (λ e. omega arith) (λ e. omega arith) in
      let e13 : T (Kept m) ≡ tally s.views (Kept m) = u.2 (Kept m) (λ e. omega arith) (λ e. omega arith) in
      record {
        unmade = λ e. absurd (omega arith);
        carried = λ _. (omega arith, omega arith);
        fresh = λ le. absurd (omega (arith, (g.fresh le).0));
        owed = λ _ e. absurd (omega arith);
        begun = λ ne. omega arith;
        running = λ e. absurd (omega arith);
        resting = λ ne. omega arith;
        stored = λ _ _. (load, back, is-number);
        vacant = λ e. absurd (omega arith);
        vacated = λ e. absurd (omega arith);
        away = λ h. absurd (omega arith);
        reopens = λ h. absurd (omega arith);
      })
      (λ T after. let u = turns_tally x key s.views m0 w T after (Lifted m) (Parking m) refl (λ e. omega arith) has in
      let e7 : T (Parking m) ≡ tally s.views (Parking m) + 1 = u.1 in
      let e8 : T (Waking m) ≡ tally s.views (Waking m) = u.2 (Waking m) (λ e. omega arith) (λ e. omega arith) in
      record { waiting = λ e. omega arith; awake = λ ne. absurd (ne refl) }) in (
        w,
        gives,
        tt,
        subst (λ (l : List (ℕ × Held L P)). Rules x key (st x key (set s.words (task_at c) (WAITING m)) (put_back s.homes l) (set s.views id w))) (sym carries) kept,
        (λ i place item word there. let same : m ≡ i = omega arith in
            let one-load : load ≡ item = first_load (load_at c) place load item others (rest me.1) (sym carries ∙ there) in
            λ q. (noted (task_at c) (task s.words c) (WAITING m) (halting (same q) (one-load q) m0), rest me.1)),
      )

  pub begins_kept : (slots id : ℕ) (me : Me (Held L P) (View L A)) (m : ℕ) (load : L) (others : List (ℕ × Held L P)) → 0 < me.0.parts → me.1 ≡ (load_at (cell key.0 m), Some (Load load)) ∷ others → x.number load ≡ m → 0 < count (Opening m) me.0.marks
      → IsNew x me.0 load
      → Allows (Rules x key) slots id me (task_at (cell key.0 m)) (λ _. READY m) (begins x (step slots (task_at (cell key.0 m)) (READY m) 0 maybe.none) me)
  begins_kept slots id me m load others live carries is-number has new s k wide at fits =
      let m0 : View L A = me.0 in
      let c : ℕ = cell key.0 m in
      let within : c < key.0 = cell_below key.0 m k.small.0 in
      let is : k.now c ≡ m = present x key s k id m0 at 1 m (omega arith) has in
      let some-have : 0 < tally s.views (Opening m) = has_some x key s id m0 at (Opening m) has in
      let g = loads_of x key s k c m within is in
      let zero-now : task s.words c ≡ UNMADE = dite (ℕ_discrete (task s.words c) UNMADE) (λ e. e) (λ ne. absurd (omega (arith, g.begun ne))) in
      let drawn : c < get_or s.words 0 0 = dite (dec_le (get_or s.words 0 0) c) (λ le. absurd (omega (arith, (g.fresh le).1))) (λ gt. omega arith) in
      let owed = g.owed drawn zero-now in
      let rests = g.resting (λ e. absurd (omega arith)) in
      let gone = g.away (omega arith) in
      let none-open : tally s.views (Reopening m) ≡ 0 = dite (ℕ_discrete (tally s.views (Reopening m)) 0) (λ z. z) (λ ne. absurd (omega (arith, (g.reopens (omega arith)).1))) in
      let w : View L A = noted (task_at c) (task s.words c) (READY m) (beginning m (x.title load) m0) in
      let marks : (q j : ℕ) → q < 14 → (j ≢ m) ⊎ (q ≢ 1) → count (mark q j) w.marks ≡ count (mark q j) m0.marks = λ q j small which. lose_other q j 1 m m0.marks (omega arith) (omega arith) which has in
      let name' : ℕ → List ℕ = λ i. cond (eqb i m) (x.title load) (k.name i) in
      let its : name' m ≡ x.title load = ap (λ b. cond b (x.title load) (k.name m)) (eq-eqb m m refl) in
      let theirs : (i : ℕ) → i ≢ m → k.name i ≡ name' i = λ i ne. sym (ap (λ b. cond b (x.title load) (k.name i)) (ne_eqb i m ne)) in
      let old = k.views id m0 at in
      let ws : List ℕ = set s.words (task_at c) (READY m) in
      let now-ready : task ws c ≡ READY m = get_or-set_same s.words (task_at c) (READY m) 0 (omega (arith, k.wide)) in
      let is-made : Made key.0 k.now ws m = (omega arith, λ z. absurd (omega arith)) in
      let kept : Rules x key (st x key ws (set s.homes (load_at c) (some (Some (Load load)))) (set s.views id w)) =
      puts s k id m0 w at live c m (READY m) load name' within is gone (λ e. omega arith) (λ e. omega arith) (inr (begin, m, (refl, zero-now, refl))) refl refl refl refl refl refl
      (λ i was. theirs i (λ e. was.1 (ap (λ z. task s.words (cell key.0 z)) e ∙ zero-now)))
      (λ grows e i. ⊎_elim (λ q. inr (subst (λ (z : ℕ × List ℕ). (name' z.0 ≡ z.1) × Made key.0 k.now ws z.0) (sym q) (its, is-made))) (λ i'. inl i') i)
      (λ i h. ⊎_elim (λ q. inr (subst (λ z. Made key.0 k.now ws z) (sym q) is-made)) (λ i'. inl i') h)
      (λ grows. record {
        named = λ e i. ⊎_elim (λ q. subst (λ (z : ℕ × List ℕ). (name' z.0 ≡ z.1) × Made key.0 k.now ws z.0) (sym (q ∙ ap (λ j. (j, x.title load)) is-number)) (its, is-made))
            (λ i'. named_on x key k.name name' k.now k.age k.now k.age s.words ws grows e (old.named e i')) (new.mentions e i);
        forked = λ i h. absurd (subst (λ l. In i l) new.forked h);
        sent = λ i h. absurd (subst (λ l. In i l) new.sent h);
        received = λ i h. absurd (subst (λ l. In i l) new.received h);
        program = let both : x.about load ∷ [] ≡ key.2 ∷ [] = sym new.program ∙ old.program live in cc;
      })
      (λ by i r. inl r) (λ by i r. r)
      (tied_calm x m0 w (k.tied id m0 at) live (k.tied id m0 at).spends refl refl refl (λ j. omega (arith, marks 2 j (omega arith) (inr (λ e. omega arith)), marks 3 j (omega arith) (inr (λ e. omega arith))))
      (λ q j which. marks q j (⊎_elim (λ e. omega arith) (λ t. omega arith) which) (inr (λ e. ⊎_elim (λ f. omega arith) (λ t. omega arith) which)))
      (λ j. omega (arith, marks 4 j (omega arith) (inr (λ e. omega arith)), ((k.tied id m0 at).clears j).2)))
      (λ i item r. inr r) (λ q j small which. marks q j small (⊎_elim (λ ne. inl ne) (λ t. inr (λ e. omega arith)) which))
      (λ T after back. let u = loses_tally x key s.views m0 w T after (Opening m) refl has in
      let e1 : T (Opening m) + 1 ≡ tally s.views (Opening m) = u.0 in
      let e0 : T (Drawn m) ≡ tally s.views (Drawn m) = u.1 (Drawn m) (λ e. omega arith) in
      let e2 : T (InHand m) ≡ tally s.views (InHand m) = u.1 (InHand m) (λ e. omega arith) in
      let e3 : T (Lifted m) ≡ tally s.views (Lifted m) = u.1 (Lifted m) (λ e. omega arith) in
      let e4 : T (Reopening m) ≡ tally s.views (Reopening m) = u.1 (Reopening m) (λ e. omega arith) in
      let e13 : T (Kept m) ≡ tally s.views (Kept m) = u.1 (Kept m) (λ e. omega arith) in
      record {
        unmade = λ e. absurd (omega arith);
        carried = λ _. (omega arith, omega arith);
        fresh = λ le. absurd (omega arith);
        owed = λ _ e. absurd (omega arith);
        begun = λ ne. omega arith;
        running = λ e. absurd (omega arith);
        resting = λ ne. omega arith;
        stored = λ _ _. (load, back, is-number);
        vacant = λ e. absurd (omega arith);
        vacated = λ e. absurd (omega arith);
        away = λ h. absurd (omega arith);
        reopens = λ h. absurd (omega arith);
      })
      (λ T after. wakeful x key s k m0 w T after c m (READY m) within is (marks 7 m (omega arith) (inr (λ e. omega arith))) (marks 8 m (omega arith) (inr (λ e. omega arith))) (λ e. omega arith) (λ e. omega arith)) in (
        w,
        gives,
        tt,
        subst (λ (l : List (ℕ × Held L P)). Rules x key (st x key ws (put_back s.homes l) (set s.views id w))) (sym carries) kept,
        (λ i place item word there. let same : m ≡ i = omega arith in
            let one-load : load ≡ item = first_load (load_at c) place load item others (rest me.1) (sym carries ∙ there) in
            λ q. (noted (task_at c) (task s.words c) (READY m) (beginning (same q) (x.title (one-load q)) m0), rest me.1)),
      )

  pub wakes_kept : (slots id : ℕ) (me : Me (Held L P) (View L A)) (m : ℕ) → 0 < me.0.parts → 0 < count (Waking m) me.0.marks
      → Allows (Rules x key) slots id me (task_at (cell key.0 m)) (λ _. READY m) (wakes (step slots (task_at (cell key.0 m)) (READY m) 0 maybe.none) me)
  wakes_kept slots id me m live has s k wide at fits =
      let m0 : View L A = me.0 in
      let c : ℕ = cell key.0 m in
      let t : ℕ = task s.words c in
      let within : c < key.0 = cell_below key.0 m k.small.0 in
      let is : k.now c ≡ m = present x key s k id m0 at 8 m (omega arith) has in
      let some-have : 0 < tally s.views (Waking m) = has_some x key s id m0 at (Waking m) has in
      let side = waits_of x key s k c m within is in
      let waits : t ≡ WAITING m = dite (ℕ_discrete t (WAITING m)) (λ e. e) (λ ne. absurd (omega (arith, side.awake ne))) in
      let once = side.waiting waits in
      let g = loads_of x key s k c m within is in
      let there = g.stored (λ e. omega arith) (λ e. omega arith) in
      let none-has = g.resting (λ e. omega arith) in
      let none-draws = g.begun (λ e. omega arith) in
      let none-open : tally s.views (Reopening m) ≡ 0 = dite (ℕ_discrete (tally s.views (Reopening m)) 0) (λ z. z) (λ ne. absurd (omega (arith, (g.reopens (omega arith)).1))) in
      let w : View L A = noted (task_at c) t (READY m) (waked m m0) in
      let marks : (q j : ℕ) → q < 14 → (j ≢ m) ⊎ (q ≢ 8) → count (mark q j) w.marks ≡ count (mark q j) m0.marks = λ q j small which. lose_other q j 8 m m0.marks (omega arith) (omega arith) which has in
      let tie = k.tied id m0 at in (
        w,
        keeps,
        tt,
        at_task x key s k id m0 w c m (READY m) s.homes k.name record {
          shift = record {
            me = at;
            live = live;
            within = within;
            is = is;
            parts = refl;
            spent = refl;
            about = refl;
            log = refl;
            step = inr (wake, m, (refl, waits, refl));
            tall = refl;
            others = λ q j small seven other ne. marks q j small (inl ne);
            wakes = λ q j which ne h. inl (omega (arith, marks q j (⊎_elim (λ e. omega arith) (λ e. omega arith) which) (inl ne)));
            names = λ grows e i. inl i;
            makes = λ i h. inl h;
            sends = λ grows i h. inl h;
            receives = λ grows by i h. inl h;
            keeps = λ grows e i. inl i;
            tied = tied_calm x m0 w tie live tie.spends refl refl refl (λ j. omega (arith, marks 2 j (omega arith) (inr (λ e. omega arith)), marks 3 j (omega arith) (inr (λ e. omega arith))))
                (λ q j which. marks q j (⊎_elim (λ e. omega arith) (λ z. omega arith) which) (inr (λ e. ⊎_elim (λ f. omega arith) (λ z. omega arith) which)))
                (λ j. omega (arith, marks 4 j (omega arith) (inr (λ e. omega arith)), (tie.clears j).2));
            moved = receipts_stay x key s id m0 w s.homes at (λ by i r. r) (λ j item here. here);
            shelf = λ i ne. refl;
            quiet = inl refl;
            rests = λ i item r. k.rested id m0 i item at r;
          };
          calm = λ q low high seven eight. marks q m high (inr eight);
          awake = λ q j which ne. marks q j (⊎_elim (λ e. omega arith) (λ e. omega arith) which) (inl ne);
          load = λ T after. let u = loses_tally x key s.views m0 w T after (Waking m) refl has in
              let e0 : T (Drawn m) ≡ tally s.views (Drawn m) = u.1 (Drawn m) (λ e. omega arith) in
              let e1 : T (Opening m) ≡ tally s.views (Opening m) = u.1 (Opening m) (λ e. omega arith) in
              let e2 : T (InHand m) ≡ tally s.views (InHand m) = u.1 (InHand m) (λ e. omega arith) in
              let e3 : T (Lifted m) ≡ tally s.views (Lifted m) = u.1 (Lifted m) (λ e. omega arith) in
              let e4 : T (Reopening m) ≡ tally s.views (Reopening m) = u.1 (Reopening m) (λ e. omega arith) in
              let e13 : T (Kept m) ≡ tally s.views (Kept m) = u.1 (Kept m) (λ e. omega arith) in
              record {
                unmade = λ e. absurd (omega arith);
                carried = λ _. (omega arith, omega arith);
                fresh = λ le. absurd (omega (arith, (g.fresh le).0));
                owed = λ lt z. absurd (omega arith);
                begun = λ _. omega arith;
                running = λ e. absurd (omega arith);
                resting = λ _. omega arith;
                stored = λ _ _. there;
                vacant = λ z. absurd (omega arith);
                vacated = λ z. absurd (omega arith);
                away = λ h. absurd (omega arith);
                reopens = λ h. absurd (omega arith);
              };
          wait = λ T after. let u = loses_tally x key s.views m0 w T after (Waking m) refl has in
              let e8 : T (Waking m) + 1 ≡ tally s.views (Waking m) = u.0 in
              let e7 : T (Parking m) ≡ tally s.views (Parking m) = u.1 (Parking m) (λ e. omega arith) in
              record { waiting = λ e. absurd (omega arith); awake = λ _. omega arith };
          begun = λ _ e. omega arith;
          titles = λ i was. refl;
          places = λ j ne. refl;
          put = λ grows item e. load_on x key k.name k.name k.now k.age k.now k.age s.words _ grows item (k.items (load_at c) item e);
          no_parcel = λ item e. let both : load_in {P = P} there.0 ≡ parcel_in item = sym there.1 ∙ e in cc;
        },
        (λ i word. let same : m ≡ i = omega arith in λ q. (noted (task_at c) t (READY m) (waked (same q) m0), me.1)),
      )
