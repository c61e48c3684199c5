-- The steps at which a load comes into hand keep the rule.
use Rattle.std.proofs.Common.{◌≡◌, ◌≢◌, ◌⊎◌, ℕ, ◌+◌, ◌<◌, ◌≤◌, List, [], ◌∷◌, ◌++◌, get_or, set, sym, refl, ap, ◌∙◌, subst, inl, inr, ⊎_elim, arith, length-set, Some}
use mathlib.Core.Logic.{dite}
use native.Mathlib.Decide.{ℕ_discrete}
use mathlib.Core.Option as maybe
use mathlib.Core.Option.{some, some-injective, some-ne-none}
use lib.ListN.{get_elem?}
use Rattle.atomic_table.proofs.Lists.{at_set, set_else}
use Rattle.cell_rules.specs.declared.item.Item.TheVariants.{Load}
use Rattle.cell_rules.specs.declared.view.View.{View}
use Rattle.cell_rules.specs.Lists.{count, without, In}
use Rattle.cell_rules.specs.Words.{cell, task_at, chan_at, load_at, parcel_at, task, claim, chan, retire, READY, RUNNING, WAITING}
use Rattle.cell_rules.specs.Marks.{mark, Drawn, Opening, InHand, Lifted, Reopening, Parking, Waking, Free, ClaimCleared, ChanCleared, Kept}
use Rattle.cell_rules.specs.Table.{IsStep}
use Rattle.cell_rules.specs.Rule.{Means, Held, OneLoad, OneParcel, OneWait, TwoFinishers, Made, Done, Sent, parked, tally, load_in, parcel_in, Rules}
use lib.Seq.{set-get_or}
use prog.Atomic.{either}
use Rattle.std.proofs.Common.{eqb}
use Rattle.atomic_table.specs.Table.{Act, keeps, takes, Valid, Me, step, Allows, stepped, carried_after}
use Rattle.atomic_table.proofs.Lists.{exchanged}
use Rattle.cell_rules.specs.Words.{UNMADE}
use Rattle.cell_rules.specs.Table.{take, reclaim}
use Rattle.cell_rules.specs.Plays.{CanTake, noted, receipts_of, taking, reclaiming, sends, takes_load, reclaims}
use Rattle.cell_rules.proofs.Totals.{term_le, more_here, In-append, In-left, In-right, In-map, besides-In}
use Rattle.cell_rules.proofs.Turns.{St, Homes, st, After, at_place, Grows, view_on, load_on, rebuilt}
use Rattle.cell_rules.proofs.Still.{cell_below, present, has_some, loads_of, waits_of, resting_home, after_same, receipts_move, receipts_stay}
use Rattle.cell_rules.proofs.Tasks.{at_task}
use Rattle.cell_rules.proofs.Tallies.{gain_other, lose_other, turn_other, turns_tally, tied_on, tied_calm}

pub of_receipts : (m by i : ℕ) (xs : List ℕ) → In (by, i) (receipts_of m xs) → (by ≡ m) × In i xs
of_receipts m by i [] h = absurd h
of_receipts m by i (z ∷ zs) h = ⊎_elim (λ s. (ap (λ (p : ℕ × ℕ). p.0) s, inl (ap (λ (p : ℕ × ℕ). p.1) s))) (λ t. let u = of_receipts m by i zs t in (u.0, inr u.1)) h

module _ {L P A : Type 0} (x : Means L P A) (key : ℕ × ℕ × A) where
  -- a compare and exchange that finds another word adds to the log, and maybe to what is known as sent
  pub looked : (s : St x key) (k : Rules x key s) (id : ℕ) (v u : View L A) → get_elem? s.views id ≡ some v → 0 < v.parts → (p : ℕ) → ((i : ℕ) → In i u.sends → In i v.sends ⊎ Sent key.0 k.now k.age s.words i)
      → u.parts ≡ v.parts → u.spent ≡ v.spent → u.about ≡ v.about → u.marks ≡ v.marks → u.made ≡ v.made → u.kept ≡ v.kept → u.resting ≡ v.resting → (u.names ≡ v.names) × (u.receipts ≡ v.receipts) → u.log ≡ v.log
      → Rules x key (st x key (set s.words p (get_or s.words p 0)) s.homes (set s.views id (noted p (get_or s.words p 0) (get_or s.words p 0) u)))
  looked s k id v u at live p sends parts spent about marks made kept resting told log =
      let w : View L A = noted p (get_or s.words p 0) (get_or s.words p 0) u in
      let y : ℕ = get_or s.words p 0 in
      let words : set s.words p y ≡ s.words = set-get_or s.words p 0 in
      let wd : (i : ℕ) → get_or (set s.words p y) i 0 ≡ get_or s.words i 0 = λ i. ap (λ l. get_or l i 0) words in
      let grows : Grows x key k.name k.name k.now k.age k.now k.age s.words (set s.words p y) = record {
        made = λ m was. (refl, subst (λ l. Made key.0 k.now l m) (sym words) was);
        sent = λ m was. subst (λ l. Sent key.0 k.now k.age l m) (sym words) was;
      } in
      let calm : (T : ℕ → ℕ) → After x key s.views v w T → T ≡ tally s.views = λ T after. λ z q. (let same : T q ≡ tally s.views q = omega (arith, after q, ap (count q) marks) in same) z in
      rebuilt x key s k id v w p y s.homes k.name k.now k.age record {
        me = at;
        live = live;
        parts = parts;
        log = ap (λ l. (p, y, y) ∷ l) log;
        step = inl refl;
        tall = refl;
        whole = k.whole;
        placed = k.placed;
        low = k.low;
        draws = omega (arith, k.draws, wd 0, spent);
        loads = λ T after i lt. subst (λ (q : (List ℕ) × (ℕ → ℕ)). OneLoad x (get_or q.0 0 0) i (k.now i) (task q.0 i) q.1 (get_elem? s.homes (load_at i))) (λ z. (sym words z, sym (calm T after) z)) (k.loads i lt);
        older = λ T after m lt. subst (λ (q : ℕ → ℕ). q (Kept m) ≡ 1) (sym (calm T after)) (k.older m lt);
        newer = λ T after m lt. subst (λ (q : ℕ → ℕ). q (Kept m) ≡ 0) (sym (calm T after)) (k.newer m lt);
        chans = λ T after i lt. subst (λ (q : (List ℕ) × (ℕ → ℕ)). OneParcel x key.0 (k.now i) (claim q.0 i) (chan q.0 i) q.1 (get_elem? s.homes (parcel_at i))) (λ z. (sym words z, sym (calm T after) z)) (k.chans i lt);
        waits = λ T after i lt. subst (λ (q : (List ℕ) × (ℕ → ℕ)). OneWait (k.now i) (task q.0 i) (parked key.0 q.0 (k.now i)) q.1) (λ z. (sym words z, sym (calm T after) z)) (k.waits i lt);
        parks = λ c j lt e. k.parks c j lt (sym (wd (chan_at c)) ∙ e);
        retires = λ T after i lt. subst (λ (q : (List ℕ) × (ℕ → ℕ)). TwoFinishers (k.age i) (k.now i) (chan q.0 i) (retire q.0 i) q.1) (λ z. (sym words z, sym (calm T after) z)) (k.retires i lt);
        made = grows.made;
        sent = grows.sent;
        good = view_on x key k.name k.name k.now k.age k.now k.age s.words (set s.words p y) grows v w (k.views id v at) (λ e i. inl (subst (λ l. In e l) told.0 i)) (λ i h. inl (subst (λ l. In i l) made h)) (λ i h. ⊎_elim (λ old. inl old) (λ new. inr (grows.sent i new)) (sends i h))
            (λ by i h. inl (subst (λ l. In (by, i) l) told.1 h)) (λ e i. inl (subst (λ l. In e l) kept i)) parts about (λ q m small has. present x key s k id v at q m small (subst (λ l. 0 < count (mark q m) l) marks has));
        present = λ j u ne there q m. present x key s k j u there q m;
        items = λ j load e. inl e;
        parcels = λ j parcel e. inl e;
        received = λ m done. receipts_stay x key s id v w s.homes at (λ by i r. subst (λ l. In (by, i) l) (sym told.1) r) (λ j item there. there) m (k.received m (subst (λ l. Done key.0 k.now k.age l m) words done));
        tied = tied_calm x v w (k.tied id v at) (omega arith) (omega (arith, (k.tied id v at).spends)) told.1 kept resting (λ j. omega (arith, ap (count (InHand j)) marks, ap (count (Lifted j)) marks)) (λ q j _. ap (count (mark q j)) marks) (λ j. omega (arith, ap (count (Reopening j)) marks, ((k.tied id v at).clears j).2));
        rested = λ j u m load there r. ⊎_elim (λ (q : (j ≡ id) × (w ≡ u)). k.rested id v m load at (subst (λ l. In (m, load) l) resting (subst (λ (z : View L A). In (m, load) z.resting) (sym q.1) r))) (λ (q : (j ≢ id) × (get_elem? s.views j ≡ some u)). k.rested j u m load q.1 r) (at_set s.views id j w u there);
      }

  pub unmoved : (s : St x key) (k : Rules x key s) (id : ℕ) (me : Me (Held L P) (View L A)) → get_elem? s.views id ≡ some me.0 → 0 < me.0.parts → (p : ℕ)
      → Rules x key (stepped s p (get_or s.words p 0) id me.1 (noted p (get_or s.words p 0) (get_or s.words p 0) me.0) keeps)
  unmoved s k id me at live p = looked s k id me.0 me.0 at live p (λ i h. inl h) refl refl refl refl refl refl refl (refl, refl) refl

  -- neither word says that the task waits
  pub wakeful : (s : St x key) (k : Rules x key s) (v w : View L A) (T : ℕ → ℕ) → After x key s.views v w T → (c m y : ℕ) → c < key.0 → k.now c ≡ m → count (Parking m) w.marks ≡ count (Parking m) v.marks → count (Waking m) w.marks ≡ count (Waking m) v.marks
      → task s.words c ≢ WAITING m → y ≢ WAITING m → OneWait m y (parked key.0 s.words m) T
  wakeful s k v w T after c m y within is same same' ne ne' =
      let e7 : T (Parking m) ≡ tally s.views (Parking m) = after_same x key s.views v w T after (Parking m) same in
      let e8 : T (Waking m) ≡ tally s.views (Waking m) = after_same x key s.views v w T after (Waking m) same' in
      record { waiting = λ e. absurd (ne' e); awake = λ _. omega (arith, (waits_of x key s k c m within is).awake ne) }

  -- the load of the cell c comes into hand
  pub fetches : (s : St x key) (k : Rules x key s) (id : ℕ) (v w : View L A) → get_elem? s.views id ≡ some v → 0 < v.parts → (c m : ℕ) (load : L) → c < key.0 → k.now c ≡ m
      → get_elem? s.homes (load_at c) ≡ load_in load → task s.words c ≢ RUNNING m → task s.words c ≢ UNMADE → IsStep key.0 record { seat = id; word = task_at c; found = task s.words c; left = RUNNING m }
      → w.parts ≡ v.parts → w.spent ≡ v.spent → w.about ≡ v.about → w.log ≡ (task_at c, task s.words c, RUNNING m) ∷ v.log → w.made ≡ v.made → w.kept ≡ v.kept
      → ((e : ℕ × List ℕ) → In e w.names → In e (x.mentions load) ⊎ In e v.names) → ((i : ℕ) → In i w.sends → In i (x.sent load) ⊎ In i v.sends) → w.receipts ≡ receipts_of m (x.received load) ++ v.receipts
      → ((i : ℕ) (item : L) → In (i, item) w.resting → In (i, item) v.resting × ((task s.words c ≢ WAITING m) ⊎ (i ≢ m))) → (task s.words c ≢ WAITING m) ⊎ (0 < count (Parking m) v.marks)
      → ((q j : ℕ) → q < 14 → (j ≢ m) ⊎ ((q ≢ 3) × (q ≢ 7)) → count (mark q j) w.marks ≡ count (mark q j) v.marks) → count (Lifted m) w.marks ≡ count (Lifted m) v.marks + 1
      → ((T : ℕ → ℕ) → After x key s.views v w T → OneWait m (RUNNING m) (parked key.0 s.words m) T)
      → Rules x key (st x key (set s.words (task_at c) (RUNNING m)) (set s.homes (load_at c) maybe.none) (set s.views id w))
  fetches s k id v w me live c m load within is at idle begun row parts spent about log made kept names sends receipts rests quiet others lifted wait =
      let hs : Homes x key = set s.homes (load_at c) maybe.none in
      let gone : get_elem? hs (load_at c) ≡ some maybe.none = at_place s.homes (load_at c) (some (Some (Load load))) maybe.none at in
      let here : get_elem? (set s.views id w) id ≡ some w = at_place s.views id v w me in
      let good = k.items (load_at c) load at in
      let g = loads_of x key s k c m within is in
      let none-has = g.resting idle in
      let none-draws = g.begun begun in
      let none-open : tally s.views (Reopening m) ≡ 0 = dite (ℕ_discrete (tally s.views (Reopening m)) 0) (λ z. z) (λ ne. absurd (omega (arith, (g.reopens (omega arith)).1))) in
      let none-kept : count (Kept m) v.marks ≡ 0 = omega (arith, term_le (λ (z : View L A). count (Kept m) z.marks) s.views id v me) in
      let keeps-kept : (j : ℕ) → count (Kept j) w.marks ≡ count (Kept j) v.marks = λ j. others 13 j (omega arith) (inr ((λ e. omega arith), λ e. omega arith)) in
      let free : (j : ℕ) → count (Free j) w.marks ≡ count (Free j) v.marks = λ j. others 10 j (omega arith) (inr ((λ e. omega arith), λ e. omega arith)) in
      let cleared : (j : ℕ) → count (ClaimCleared j) w.marks ≡ count (ClaimCleared j) v.marks = λ j. others 11 j (omega arith) (inr ((λ e. omega arith), λ e. omega arith)) in
      let cleared' : (j : ℕ) → count (ChanCleared j) w.marks ≡ count (ChanCleared j) v.marks = λ j. others 12 j (omega arith) (inr ((λ e. omega arith), λ e. omega arith)) in
      let opens : (j : ℕ) → count (Reopening j) w.marks ≡ count (Reopening j) v.marks = λ j. others 4 j (omega arith) (inr ((λ e. omega arith), λ e. omega arith)) in
      let held : (j : ℕ) → count (InHand j) w.marks ≡ count (InHand j) v.marks = λ j. others 2 j (omega arith) (inr ((λ e. omega arith), λ e. omega arith)) in
      let lifts-more : (j : ℕ) → count (Lifted j) v.marks ≤ count (Lifted j) w.marks = λ j. dite (ℕ_discrete j m) (λ e. subst (λ z. count (Lifted z) v.marks ≤ count (Lifted z) w.marks) (sym e) (omega arith)) (λ ne. omega (arith, others 3 j (omega arith) (inl ne))) in
      let tie = k.tied id v me in
      at_task x key s k id v w c m (RUNNING m) hs k.name record {
        shift = record {
          me = me;
          live = live;
          within = within;
          is = is;
          parts = parts;
          spent = spent;
          about = about;
          log = log;
          step = row;
          tall = length-set s.homes (load_at c) maybe.none;
          others = λ q j small seven other ne. others q j small (inl ne);
          wakes = λ q j which ne has. inl (omega (arith, others q j (⊎_elim (λ e. omega arith) (λ e. omega arith) which) (inl ne)));
          names = λ grows e i. ⊎_elim (λ a. inr ((load_on x key k.name k.name k.now k.age k.now k.age s.words _ grows load good).named e a)) (λ b. inl b) (names e i);
          makes = λ i h. inl (subst (λ l. In i l) made h);
          sends = λ grows i h. ⊎_elim (λ a. inr ((load_on x key k.name k.name k.now k.age k.now k.age s.words _ grows load good).sent i a)) (λ b. inl b) (sends i h);
          receives = λ grows by i h. ⊎_elim (λ a. inr ((load_on x key k.name k.name k.now k.age k.now k.age s.words _ grows load good).received i (of_receipts m by i (x.received load) a).1)) (λ b. inl b) (In-append (by, i) (receipts_of m (x.received load)) v.receipts (subst (λ l. In (by, i) l) receipts h));
          keeps = λ grows e i. inl (subst (λ l. In e l) kept i);
          tied = tied_on x v w tie (omega arith) (omega (arith, tie.spends))
              (λ by i r. ⊎_elim (λ a. let u = of_receipts m by i (x.received load) a in subst (λ z. 0 < count (InHand z) w.marks + count (Lifted z) w.marks + count (Kept z) w.marks) (sym u.0) (omega arith))
              (λ b. omega (arith, tie.receipts by i b, held by, lifts-more by, keeps-kept by)) (In-append (by, i) (receipts_of m (x.received load)) v.receipts (subst (λ l. In (by, i) l) receipts r)))
              (λ by i r has. ⊎_elim (λ a. let u = of_receipts m by i (x.received load) a in let has' : 0 < count (Kept m) v.marks = subst (λ z. 0 < count (Kept z) v.marks) u.0 has in absurd (omega arith)) (λ b. b) (In-append (by, i) (receipts_of m (x.received load)) v.receipts (subst (λ l. In (by, i) l) receipts r)))
              kept keeps-kept (λ j. let t = tie.clears j in (omega (arith, t.0, free j, cleared j), omega (arith, t.1, free j, cleared' j), omega (arith, t.2, free j, opens j)))
              (λ j item r. let t = rests j item r in let u = tie.rests j item t.0 in (
                u.0,
                ⊎_elim (λ calm. dite (ℕ_discrete j m)
                    (λ e. let has : 0 < count (Parking m) v.marks = subst (λ z. 0 < count (Parking z) v.marks) e u.1 in absurd (omega (arith, (waits_of x key s k c m within is).awake calm, has_some x key s id v me (Parking m) has)))
                    (λ ne. omega (arith, u.1, others 7 j (omega arith) (inl ne)))) (λ ne. omega (arith, u.1, others 7 j (omega arith) (inl ne))) t.1,
              ));
          moved = receipts_move x key s id v w hs me (λ by i r. inl (id, w, by, here, subst (λ l. In (by, i) l) (sym receipts) (In-right (by, i) (receipts_of m (x.received load)) v.receipts r)))
              (λ j item i there r. dite (ℕ_discrete j (load_at c))
              (λ q. let both : load_in {P = P} load ≡ load_in item = sym at ∙ (ap (λ z. get_elem? s.homes z) (sym q) ∙ there) in let one-load : item ≡ load = cc in
              inl (id, w, m, here, subst (λ l. In (m, i) l) (sym receipts) (In-left (m, i) (receipts_of m (x.received load)) v.receipts (In-map (λ (z : ℕ). (m, z)) i (x.received load) (subst (λ (z : L). In i (x.received z)) one-load r)))))
              (λ ne. inr (j, item, set_else s.homes (load_at c) j maybe.none ne ∙ there, r)));
          shelf = λ i ne. set_else s.homes (load_at c) (load_at i) maybe.none (λ e. ne (omega arith));
          quiet = inr quiet;
          rests = λ i item r. let t = rests i item r in resting_home x key s k id v me c m within is hs (λ j ne. set_else s.homes (load_at c) (load_at j) maybe.none (λ e. ne (omega arith))) i item t.0 (inr t.1);
        };
        calm = λ q low high seven eight. others q m high (inr ((λ e. omega arith), seven));
        awake = λ q j which ne. others q j (⊎_elim (λ e. omega arith) (λ e. omega arith) which) (inl ne);
        load = λ T after.
            let e0 : T (Drawn m) ≡ tally s.views (Drawn m) = after_same x key s.views v w T after (Drawn m) (others 0 m (omega arith) (inr ((λ e. omega arith), λ e. omega arith))) in
            let e1 : T (Opening m) ≡ tally s.views (Opening m) = after_same x key s.views v w T after (Opening m) (others 1 m (omega arith) (inr ((λ e. omega arith), λ e. omega arith))) in
            let e2 : T (InHand m) ≡ tally s.views (InHand m) = after_same x key s.views v w T after (InHand m) (held m) in
            let e3 : T (Lifted m) ≡ tally s.views (Lifted m) + 1 = omega (arith, after (Lifted m)) in
            let e4 : T (Reopening m) ≡ tally s.views (Reopening m) = after_same x key s.views v w T after (Reopening m) (opens m) in
            let e13 : T (Kept m) ≡ tally s.views (Kept m) = after_same x key s.views v w T after (Kept m) (keeps-kept m) in record {
              unmade = λ e. absurd (omega arith);
              carried = λ _. (omega arith, omega arith);
              fresh = λ le. absurd (begun (g.fresh le).0);
              owed = λ lt z. absurd (omega arith);
              begun = λ _. omega arith;
              running = λ _. omega arith;
              resting = λ ne. absurd (ne refl);
              stored = λ _ ne. absurd (ne refl);
              vacant = λ z. absurd (omega arith);
              vacated = λ _ z. absurd (omega arith);
              away = λ _. gone;
              reopens = λ lt. absurd (omega arith);
            };
        wait = wait;
        begun = λ _ e. omega arith;
        titles = λ i was. refl;
        places = λ j ne. set_else s.homes (load_at c) j maybe.none ne;
        put = λ grows item e. let bad : some maybe.none ≡ load_in {P = P} item = sym gone ∙ e in cc;
        no_parcel = λ item e. let bad : some maybe.none ≡ parcel_in {L = L} item = sym gone ∙ e in cc;
      }

  pub takes_kept : (slots id : ℕ) (me : Me (Held L P) (View L A)) (m : ℕ) → 0 < me.0.parts
      → Allows (Rules x key) slots id me (task_at (cell key.0 m)) (λ n. either (eqb n (READY m)) (RUNNING m) n) (takes_load x (step slots (task_at (cell key.0 m)) (READY m) (RUNNING m) maybe.none) me)
  takes_kept slots id me m live s k wide at fits =
      let m0 : View L A = me.0 in
      let c : ℕ = cell key.0 m in
      let t : ℕ = task s.words c in
      let within : c < key.0 = cell_below key.0 m k.small.0 in
      let play : ℕ → Me (Held L P) (View L A) → Type 0 = takes_load x (step slots (task_at c) (READY m) (RUNNING m) maybe.none) me in
      let G = λ (n : ℕ). (w : View L A) × (a : Act (Held L P)) × Valid s.homes me.1 a × Rules x key (stepped s (task_at c) n id me.1 w a) × play t (w, carried_after me.1 a) in
      exchanged t (READY m) (RUNNING m) G
      (λ hit. let old = k.loads c within in
      let told = old.carried (λ e. omega arith) in
      let is : k.now c ≡ m = omega (arith, told.0, told.1) in
      let g = loads_of x key s k c m within is in
      let home = g.stored (λ e. omega arith) (λ e. omega arith) in
      let load : L = home.0 in
      let none-kept : count (Kept (x.number load)) m0.marks ≡ 0 = ap (λ z. count (Kept z) m0.marks) home.2 ∙ omega (arith, g.resting (λ e. omega arith), term_le (λ (z : View L A). count (Kept m) z.marks) s.views id m0 at) in
      let can : CanTake x m0 load = ((k.views id m0 at).program live ∙ ap (λ z. z ∷ []) (sym (k.items (load_at c) load home.1).program), none-kept) in
      let w : View L A = noted (task_at c) t (RUNNING m) (taking x m load m0) in
      let others : (q j : ℕ) → q < 14 → (j ≢ m) ⊎ (q ≢ 3) → count (mark q j) w.marks ≡ count (mark q j) m0.marks = λ q j small which. gain_other q j 3 m m0.marks (omega arith) (omega arith) which in (
        w,
        takes (load_at c) (Some (Load load)),
        home.1,
        fetches s k id m0 w at live c m load within is home.1 (λ e. omega arith) (λ e. omega arith) (inr (take, m, (refl, hit, refl))) refl refl refl refl refl refl
            (λ e i. In-append e (x.mentions load) m0.names i) (λ i h. In-append i (x.sent load) m0.sends h) refl (λ i item r. (r, inl (λ e. omega arith))) (inl (λ e. omega arith))
            (λ q j small which. others q j small (⊎_elim (λ ne. inl ne) (λ t. inr t.0) which)) (more_here (Lifted m) m0.marks)
            (λ T after. wakeful s k m0 w T after c m (RUNNING m) within is (others 7 m (omega arith) (inr (λ e. omega arith))) (others 8 m (omega arith) (inr (λ e. omega arith))) (λ e. omega arith) (λ e. omega arith)),
        λ n i ns word. let n-is : key.0 ≡ n = omega (arith, k.tall) in let same : m ≡ i = omega arith in
            ((λ _. (load, home.2 ∙ same, can, λ q. (noted (task_at c) t (RUNNING m) (taking x (same q) load m0), (load_at (cell (n-is q) (same q)), Some (Load load)) ∷ me.1))), λ ne. absurd (ne (hit ∙ ap READY same))),
      ))
      (λ miss. (noted (task_at c) t t m0, keeps, tt, unmoved s k id me at live (task_at c), λ n i ns word. let same : m ≡ i = omega arith in ((λ e. absurd (miss (e ∙ ap READY (sym same)))), λ _. refl)))

  pub reclaims_kept : (slots id : ℕ) (me : Me (Held L P) (View L A)) (m : ℕ) (load : L) → 0 < me.0.parts → 0 < count (Parking m) me.0.marks → In (m, load) me.0.resting
      → Allows (Rules x key) slots id me (task_at (cell key.0 m)) (λ _. RUNNING m) (reclaims x (step slots (task_at (cell key.0 m)) (RUNNING m) 0 maybe.none) me)
  reclaims_kept slots id me m load live has rests s k wide at fits =
      let m0 : View L A = me.0 in
      let c : ℕ = cell key.0 m in
      let t : ℕ = task s.words c in
      let within : c < key.0 = cell_below key.0 m k.small.0 in
      let is : k.now c ≡ m = present x key s k id m0 at 7 m (omega arith) has in
      let side = waits_of x key s k c m within is in
      let some-have : 0 < tally s.views (Parking m) = has_some x key s id m0 at (Parking m) has in
      let waits : t ≡ WAITING m = dite (ℕ_discrete t (WAITING m)) (λ e. e) (λ ne. absurd (omega (arith, side.awake ne))) in
      let once = side.waiting waits in
      let g = loads_of x key s k c m within is in
      let home : get_elem? s.homes (load_at c) ≡ load_in load = k.rested id m0 m load at rests in
      let w : View L A = noted (task_at c) t (RUNNING m) (reclaiming x m load m0) in
      let others : (q j : ℕ) → q < 14 → (j ≢ m) ⊎ ((q ≢ 7) × (q ≢ 3)) → count (mark q j) w.marks ≡ count (mark q j) m0.marks = λ q j small which. turn_other q j 7 3 m m0.marks (omega arith) (omega arith) (omega arith) which has in (
        w,
        takes (load_at c) (Some (Load load)),
        home,
        fetches s k id m0 w at live c m load within is home (λ e. omega arith) (λ e. omega arith) (inr (reclaim, m, (refl, waits, refl))) refl refl refl refl refl refl
            (λ e i. inr i) (λ i h. inr h) refl (λ i item r. let u = besides-In m (i, item) m0.resting r in (u.1, inr u.0)) (inr has)
            (λ q j small which. others q j small (⊎_elim (λ ne. inl ne) (λ z. inr (z.1, z.0)) which)) (more_here (Lifted m) (without (Parking m) m0.marks) ∙ ap (λ z. z + 1) (lose_other 3 m 7 m m0.marks (omega arith) (omega arith) (inr (λ e. omega arith)) has))
            (λ T after. let u = turns_tally x key s.views m0 w T after (Parking m) (Lifted m) refl (λ e. omega arith) has in
            let e7 : T (Parking m) + 1 ≡ tally s.views (Parking m) = u.0 in let e8 : T (Waking m) ≡ tally s.views (Waking m) = u.2 (Waking m) (λ e. omega arith) (λ e. omega arith) in
            record { waiting = λ e. absurd (omega arith); awake = λ _. omega arith }),
        λ n i item ns word r. let n-is : key.0 ≡ n = omega (arith, k.tall) in let same : m ≡ i = omega arith in
            let theirs : get_elem? s.homes (load_at c) ≡ load_in item = ap (λ z. get_elem? s.homes (load_at (cell key.0 z))) same ∙ k.rested id m0 i item at r in
            let both : load_in {P = P} load ≡ load_in item = sym home ∙ theirs in
            let one-load : load ≡ item = cc in
            (λ q. (noted (task_at c) t (RUNNING m) (reclaiming x (same q) (one-load q) m0), (load_at (cell (n-is q) (same q)), Some (Load (one-load q))) ∷ me.1)),
      )
