-- Steps on the claim word, the channel word and the retire word of a cell.
use Rattle.std.proofs.Common.{◌≡◌, ◌≢◌, ◌⊎◌, ℕ, ◌+◌, ◌*◌, ◌<◌, ◌≤◌, List, length, get_or, set, sym, refl, ap, ◌∙◌, subst, inl, inr, ⊎_elim, arith, get_or-set_other, get_or-set_same}
use mathlib.Core.Logic.{dite}
use native.Mathlib.Decide.{ℕ_discrete}
use lib.ListN.{get_elem?}
use Rattle.cell_rules.specs.declared.view.View.{View}
use Rattle.cell_rules.specs.Lists.{one, count}
use Rattle.cell_rules.specs.Words.{cell, task_at, claim_at, chan_at, retire_at, load_at, parcel_at, task, claim, FULL, DONE, PARKED}
use Rattle.cell_rules.specs.Words.{chan as chan_word, retire as retire_word}
use Rattle.cell_rules.specs.Marks.{mark, Parking, Waking}
use Rattle.cell_rules.specs.Rule.{Means, OneLoad, OneParcel, OneWait, TwoFinishers, GoodParcel, Received, Freed, Done, Sent, parked, tally, load_in, parcel_in, Rules}
use Rattle.cell_rules.proofs.Totals.{below-same, below-set}
use Rattle.cell_rules.proofs.Turns.{St, Homes, st, After, Grows, parcel_on, rebuilt}
use Rattle.cell_rules.proofs.Still.{SameLoads, same_loads, same_chans, load_as, chan_as, retire_as, retire_only, wait_as, present, apart, after_same, made_as, done_as, sent_as}
use Rattle.cell_rules.proofs.Tasks.{Shift, good_now, other_marks, older_now, newer_now, rested_now}

module _ {L P A : Type 0} (x : Means L P A) (key : ℕ × ℕ × A) where
  -- the marks of all present numbers, from those of the number of the step and those of the others
  all_loads : (s : St x key) (k : Rules x key s) (id : ℕ) (v w : View L A) (p y : ℕ) (hs : Homes x key) (c m : ℕ) (g : Shift x key s k id v w p y hs k.name c m)
      → ((q : ℕ) → (q < 5) ⊎ (q ≡ 13) → count (mark q m) w.marks ≡ count (mark q m) v.marks) → (T : ℕ → ℕ) → After x key s.views v w T → (i : ℕ) → i < key.0 → SameLoads (k.now i) (tally s.views) T
  all_loads s k id v w p y hs c m g calm T after i lt = dite (ℕ_discrete i c)
      (λ e q which. after_same x key s.views v w T after (mark q (k.now i)) (subst (λ j. count (mark q j) w.marks ≡ count (mark q j) v.marks) (sym (ap k.now e ∙ g.is)) (calm q which)))
      (λ ne. same_loads (k.now i) (tally s.views) T (other_marks x key s k id v w p y hs k.name c m g T after i lt ne))

  all_chans : (s : St x key) (k : Rules x key s) (id : ℕ) (v w : View L A) (p y : ℕ) (hs : Homes x key) (c m : ℕ) (g : Shift x key s k id v w p y hs k.name c m)
      → (which : ℕ → Type 0) → ((q : ℕ) → 5 ≤ q → q < 14 → q ≢ 7 → q ≢ 8 → which q → count (mark q m) w.marks ≡ count (mark q m) v.marks) → (T : ℕ → ℕ) → After x key s.views v w T → (i : ℕ) → i < key.0
      → (q : ℕ) → 5 ≤ q → q < 14 → q ≢ 7 → q ≢ 8 → which q → T (mark q (k.now i)) ≡ tally s.views (mark q (k.now i))
  all_chans s k id v w p y hs c m g which calm T after i lt q low high seven eight this = dite (ℕ_discrete i c)
      (λ e. after_same x key s.views v w T after (mark q (k.now i)) (subst (λ j. count (mark q j) w.marks ≡ count (mark q j) v.marks) (sym (ap k.now e ∙ g.is)) (calm q low high seven eight this)))
      (λ ne. other_marks x key s k id v w p y hs k.name c m g T after i lt ne q high seven eight)

  -- a step on the claim word
  pub record AtClaim (s : St x key) (k : Rules x key s) (id : ℕ) (v w : View L A) (c m y : ℕ) (hs : Homes x key) : Type 0 where
    pub shift : Shift x key s k id v w (claim_at c) y hs k.name c m
    -- of the marks of m only those of the claim change
    pub calm : (q : ℕ) → q < 14 → q ≢ 5 → q ≢ 11 → count (mark q m) w.marks ≡ count (mark q m) v.marks
    pub awake : (q j : ℕ) → (q ≡ 7) ⊎ (q ≡ 8) → j ≢ m → count (mark q j) w.marks ≡ count (mark q j) v.marks
    pub chan : (T : ℕ → ℕ) → After x key s.views v w T → OneParcel x key.0 m y (chan_word s.words c) T (get_elem? hs (parcel_at c))
    pub places : (j : ℕ) → j ≢ parcel_at c → get_elem? hs j ≡ get_elem? s.homes j
    pub no_load : (load : L) → get_elem? hs (parcel_at c) ≡ load_in load → ⊥
    pub no_parcel : (parcel : P) → get_elem? hs (parcel_at c) ≡ parcel_in parcel → ⊥

  pub at_claim : (s : St x key) (k : Rules x key s) (id : ℕ) (v w : View L A) (c m y : ℕ) (hs : Homes x key) → AtClaim s k id v w c m y hs → Rules x key (st x key (set s.words (claim_at c) y) hs (set s.views id w))
  at_claim s k id v w c m y hs t =
      let g = t.shift in
      let ws : List ℕ = set s.words (claim_at c) y in
      let near : claim_at c < length s.words = omega (arith, k.wide, g.within) in
      let else : (j : ℕ) → j ≢ claim_at c → get_or s.words j 0 ≡ get_or ws j 0 = λ j ne. sym (get_or-set_other s.words (claim_at c) j y 0 ne) in
      let draw : get_or s.words 0 0 ≡ get_or ws 0 0 = else 0 (λ e. omega arith) in
      let tasks : (i : ℕ) → task s.words i ≡ task ws i = λ i. else (task_at i) (λ e. omega arith) in
      let chans-same : (i : ℕ) → chan_word s.words i ≡ chan_word ws i = λ i. else (chan_at i) (λ e. omega arith) in
      let retires-same : (i : ℕ) → retire_word s.words i ≡ retire_word ws i = λ i. else (retire_at i) (λ e. omega arith) in
      let here : claim ws c ≡ y = get_or-set_same s.words (claim_at c) y 0 near in
      let there : (i : ℕ) → i ≢ c → claim s.words i ≡ claim ws i = λ i ne. else (claim_at i) (λ e. ne (omega arith)) in
      let parks : (j : ℕ) → parked key.0 s.words j ≡ parked key.0 ws j = λ j. below-same _ _ key.0 (λ i _. ap (λ h. one (PARKED j) h) (chans-same i)) in
      let grows : Grows x key k.name k.name k.now k.age k.now k.age s.words ws = record {
        made = λ i was. (refl, made_as x key k.now s.words ws i (λ ne z. ne (tasks (cell key.0 i) ∙ z)) was);
        sent = λ i. sent_as x key k.now k.age s.words ws i (λ e. inl (sym (chans-same (cell key.0 i)) ∙ e)) (λ e. inl (sym (chans-same (cell key.0 i)) ∙ e)) (λ e. sym (retires-same (cell key.0 i)) ∙ e);
      } in
      let calm-chans = all_chans s k id v w (claim_at c) y hs c m g (λ q. (q ≢ 5) × (q ≢ 11)) (λ q low high seven eight this. t.calm q high this.0 this.1) in
      rebuilt x key s k id v w (claim_at c) y hs k.name k.now k.age record {
        me = g.me;
        live = g.live;
        parts = g.parts;
        log = g.log;
        step = g.step;
        tall = g.tall;
        whole = k.whole;
        placed = k.placed;
        low = k.low;
        draws = omega (arith, draw, k.draws, g.spent);
        loads = λ T after i lt. load_as x _ i _ _ _ _ _ _ _ T _ (k.loads i lt) draw refl (tasks i) (sym (t.places (load_at i) (λ e. omega arith)))
            (all_loads s k id v w (claim_at c) y hs c m g (λ q which. t.calm q (⊎_elim (λ lt. omega arith) (λ e. omega arith) which) (λ e. ⊎_elim (λ lt. omega arith) (λ f. omega arith) which) (λ e. ⊎_elim (λ lt. omega arith) (λ f. omega arith) which)) T after i lt);
        older = older_now x key s k id v w (claim_at c) y hs k.name c m g;
        newer = newer_now x key s k id v w (claim_at c) y hs k.name c m g;
        chans = λ T after i lt. dite (ℕ_discrete i c)
            (λ e. subst (λ j. OneParcel x key.0 (k.now j) (claim ws j) (chan_word ws j) T (get_elem? hs (parcel_at j))) (sym e)
            (subst (λ (q : ℕ × ℕ × ℕ). OneParcel x key.0 q.0 q.1 q.2 T (get_elem? hs (parcel_at c))) (λ z. (sym g.is z, sym here z, chans-same c z)) (t.chan T after)))
            (λ ne. chan_as x key.0 _ _ _ _ _ _ _ _ T _ (k.chans i lt) refl (there i ne) (chans-same i) (sym (t.places (parcel_at i) (λ e. ne (omega arith)))) (same_chans (k.now i) (tally s.views) T (other_marks x key s k id v w (claim_at c) y hs k.name c m g T after i lt ne)));
        waits = λ T after i lt. wait_as _ _ _ _ _ _ _ T (k.waits i lt) refl (tasks i) (parks (k.now i))
            (dite (ℕ_discrete i c) (λ e. after_same x key s.views v w T after (Parking (k.now i)) (subst (λ j. count (Parking j) w.marks ≡ count (Parking j) v.marks) (sym (ap k.now e ∙ g.is)) (t.calm 7 (omega arith) (λ e. omega arith) (λ e. omega arith)))) (λ ne. after_same x key s.views v w T after (Parking (k.now i)) (t.awake 7 (k.now i) (inl refl) (apart x key s k c m i g.within g.is lt ne))))
            (dite (ℕ_discrete i c) (λ e. after_same x key s.views v w T after (Waking (k.now i)) (subst (λ j. count (Waking j) w.marks ≡ count (Waking j) v.marks) (sym (ap k.now e ∙ g.is)) (t.calm 8 (omega arith) (λ e. omega arith) (λ e. omega arith)))) (λ ne. after_same x key s.views v w T after (Waking (k.now i)) (t.awake 8 (k.now i) (inr refl) (apart x key s k c m i g.within g.is lt ne))));
        parks = λ i j lt e. k.parks i j lt (chans-same i ∙ e);
        retires = λ T after i lt. retire_only _ _ _ _ _ _ _ _ _ T (k.retires i lt) refl refl (chans-same i) (retires-same i)
            (calm-chans T after i lt 6 (omega arith) (omega arith) (λ e. omega arith) (λ e. omega arith) ((λ e. omega arith), λ e. omega arith))
            (calm-chans T after i lt 9 (omega arith) (omega arith) (λ e. omega arith) (λ e. omega arith) ((λ e. omega arith), λ e. omega arith))
            (calm-chans T after i lt 10 (omega arith) (omega arith) (λ e. omega arith) (λ e. omega arith) ((λ e. omega arith), λ e. omega arith))
            (calm-chans T after i lt 13 (omega arith) (omega arith) (λ e. omega arith) (λ e. omega arith) ((λ e. omega arith), λ e. omega arith));
        made = grows.made;
        sent = grows.sent;
        good = good_now x key s k id v w (claim_at c) y hs k.name c m g grows;
        present = λ j u ne at q i. present x key s k j u at q i;
        items = λ j load e. dite (ℕ_discrete j (parcel_at c)) (λ q. absurd (t.no_load load (ap (λ i. get_elem? hs i) (sym q) ∙ e))) (λ ne. inl (sym (t.places j ne) ∙ e));
        parcels = λ j parcel e. dite (ℕ_discrete j (parcel_at c)) (λ q. absurd (t.no_parcel parcel (ap (λ i. get_elem? hs i) (sym q) ∙ e))) (λ ne. inl (sym (t.places j ne) ∙ e));
        received = λ i done. g.moved i (k.received i (done_as x key k.now k.age ws s.words i (λ e. inl (chans-same (cell key.0 i) ∙ e)) (λ e. retires-same (cell key.0 i) ∙ e) done));
        tied = g.tied;
        rested = rested_now x key s k id v w (claim_at c) y hs k.name c m g;
      }

  -- a step on the channel word
  pub record AtChan (s : St x key) (k : Rules x key s) (id : ℕ) (v w : View L A) (c m y : ℕ) (hs : Homes x key) : Type 0 where
    pub shift : Shift x key s k id v w (chan_at c) y hs k.name c m
    -- the marks of loads stay
    pub calm : (q : ℕ) → (q < 5) ⊎ (q ≡ 13) → count (mark q m) w.marks ≡ count (mark q m) v.marks
    pub chan : (T : ℕ → ℕ) → After x key s.views v w T → OneParcel x key.0 m (claim s.words c) y T (get_elem? hs (parcel_at c))
    pub retire : (T : ℕ → ℕ) → After x key s.views v w T → TwoFinishers (k.age c) m y (retire_word s.words c) T
    pub wait : (T : ℕ → ℕ) → After x key s.views v w T → (i q : ℕ) → i < key.0 → q + one (PARKED (k.now i)) (chan_word s.words c) ≡ parked key.0 s.words (k.now i) + one (PARKED (k.now i)) y → OneWait (k.now i) (task s.words i) q T
    pub parks : (j : ℕ) → y ≡ PARKED j → k.now (cell key.0 j) ≡ j
    pub full : (i : ℕ) → chan_word s.words c ≡ FULL i → (y ≡ FULL i) ⊎ (y ≡ DONE i)
    pub done : (i : ℕ) → chan_word s.words c ≡ DONE i → (y ≡ DONE i) ⊎ ((k.now c ≡ i) × Freed k.age s.words c)
    pub fresh : (i : ℕ) → y ≡ DONE i → (chan_word s.words c ≡ DONE i) ⊎ Received x hs (set s.views id w) i
    pub places : (j : ℕ) → j ≢ parcel_at c → get_elem? hs j ≡ get_elem? s.homes j
    pub no_load : (load : L) → get_elem? hs (parcel_at c) ≡ load_in load → ⊥
    pub put : (parcel : P) → get_elem? hs (parcel_at c) ≡ parcel_in parcel → GoodParcel x key.0 k.name key.2 k.now k.age s.words parcel

  pub at_chan : (s : St x key) (k : Rules x key s) (id : ℕ) (v w : View L A) (c m y : ℕ) (hs : Homes x key) → AtChan s k id v w c m y hs → Rules x key (st x key (set s.words (chan_at c) y) hs (set s.views id w))
  at_chan s k id v w c m y hs t =
      let g = t.shift in
      let ws : List ℕ = set s.words (chan_at c) y in
      let near : chan_at c < length s.words = omega (arith, k.wide, g.within) in
      let else : (j : ℕ) → j ≢ chan_at c → get_or s.words j 0 ≡ get_or ws j 0 = λ j ne. sym (get_or-set_other s.words (chan_at c) j y 0 ne) in
      let draw : get_or s.words 0 0 ≡ get_or ws 0 0 = else 0 (λ e. omega arith) in
      let tasks : (i : ℕ) → task s.words i ≡ task ws i = λ i. else (task_at i) (λ e. omega arith) in
      let claims : (i : ℕ) → claim s.words i ≡ claim ws i = λ i. else (claim_at i) (λ e. omega arith) in
      let retires-same : (i : ℕ) → retire_word s.words i ≡ retire_word ws i = λ i. else (retire_at i) (λ e. omega arith) in
      let here : chan_word ws c ≡ y = get_or-set_same s.words (chan_at c) y 0 near in
      let there : (i : ℕ) → i ≢ c → chan_word s.words i ≡ chan_word ws i = λ i ne. else (chan_at i) (λ e. ne (omega arith)) in
      let counts : (j : ℕ) → parked key.0 ws j + one (PARKED j) (chan_word s.words c) ≡ parked key.0 s.words j + one (PARKED j) y =
      λ j. below-set _ _ key.0 c g.within (λ i ne. ap (λ h. one (PARKED j) h) (sym (there i ne))) ∙ ap (λ h. parked key.0 s.words j + one (PARKED j) h) here in
      let freed-on : (i : ℕ) → Freed k.age s.words (cell key.0 i) → Freed k.age ws (cell key.0 i) = λ i e. sym (retires-same (cell key.0 i)) ∙ e in
      let done-on : (i : ℕ) → chan_word s.words (cell key.0 i) ≡ DONE i → Done key.0 k.now k.age ws i = λ i was. dite (ℕ_discrete (cell key.0 i) c)
      (λ e. ⊎_elim (λ q. inl (ap (chan_word ws) e ∙ (here ∙ q))) (λ f. inr (inl (ap k.now e ∙ f.0, freed-on i (subst (λ j. Freed k.age s.words j) (sym e) f.1)))) (t.done i (ap (chan_word s.words) (sym e) ∙ was)))
      (λ ne. inl (sym (there (cell key.0 i) ne) ∙ was)) in
      let full-on : (i : ℕ) → chan_word s.words (cell key.0 i) ≡ FULL i → Sent key.0 k.now k.age ws i = λ i was. dite (ℕ_discrete (cell key.0 i) c)
      (λ e. ⊎_elim (λ q. inl (ap (chan_word ws) e ∙ (here ∙ q))) (λ q. inr (inl (ap (chan_word ws) e ∙ (here ∙ q)))) (t.full i (ap (chan_word s.words) (sym e) ∙ was)))
      (λ ne. inl (sym (there (cell key.0 i) ne) ∙ was)) in
      let grows : Grows x key k.name k.name k.now k.age k.now k.age s.words ws = record {
        made = λ i was. (refl, made_as x key k.now s.words ws i (λ ne z. ne (tasks (cell key.0 i) ∙ z)) was);
        sent = λ i. sent_as x key k.now k.age s.words ws i (full-on i) (done-on i) (freed-on i);
      } in
      rebuilt x key s k id v w (chan_at c) y hs k.name k.now k.age record {
        me = g.me;
        live = g.live;
        parts = g.parts;
        log = g.log;
        step = g.step;
        tall = g.tall;
        whole = k.whole;
        placed = k.placed;
        low = k.low;
        draws = omega (arith, draw, k.draws, g.spent);
        loads = λ T after i lt. load_as x _ i _ _ _ _ _ _ _ T _ (k.loads i lt) draw refl (tasks i) (sym (t.places (load_at i) (λ e. omega arith))) (all_loads s k id v w (chan_at c) y hs c m g t.calm T after i lt);
        older = older_now x key s k id v w (chan_at c) y hs k.name c m g;
        newer = newer_now x key s k id v w (chan_at c) y hs k.name c m g;
        chans = λ T after i lt. dite (ℕ_discrete i c)
            (λ e. subst (λ j. OneParcel x key.0 (k.now j) (claim ws j) (chan_word ws j) T (get_elem? hs (parcel_at j))) (sym e)
            (subst (λ (q : ℕ × ℕ × ℕ). OneParcel x key.0 q.0 q.1 q.2 T (get_elem? hs (parcel_at c))) (λ z. (sym g.is z, claims c z, sym here z)) (t.chan T after)))
            (λ ne. chan_as x key.0 _ _ _ _ _ _ _ _ T _ (k.chans i lt) refl (claims i) (there i ne) (sym (t.places (parcel_at i) (λ e. ne (omega arith)))) (same_chans (k.now i) (tally s.views) T (other_marks x key s k id v w (chan_at c) y hs k.name c m g T after i lt ne)));
        waits = λ T after i lt. subst (λ z. OneWait (k.now i) z (parked key.0 ws (k.now i)) T) (tasks i) (t.wait T after i (parked key.0 ws (k.now i)) lt (counts (k.now i)));
        parks = λ i j lt e. dite (ℕ_discrete i c) (λ q. t.parks j (sym here ∙ (ap (chan_word ws) (sym q) ∙ e))) (λ ne. k.parks i j lt (there i ne ∙ e));
        retires = λ T after i lt. dite (ℕ_discrete i c)
            (λ e. subst (λ j. TwoFinishers (k.age j) (k.now j) (chan_word ws j) (retire_word ws j) T) (sym e)
            (subst (λ (q : ℕ × ℕ × ℕ). TwoFinishers (k.age c) q.0 q.1 q.2 T) (λ z. (sym g.is z, sym here z, retires-same c z)) (t.retire T after)))
            (λ ne. retire_as _ _ _ _ _ _ _ _ _ T (k.retires i lt) refl refl (there i ne) (retires-same i) (same_chans (k.now i) (tally s.views) T (other_marks x key s k id v w (chan_at c) y hs k.name c m g T after i lt ne)));
        made = grows.made;
        sent = grows.sent;
        good = good_now x key s k id v w (chan_at c) y hs k.name c m g grows;
        present = λ j u ne at q i. present x key s k j u at q i;
        items = λ j load e. dite (ℕ_discrete j (parcel_at c)) (λ q. absurd (t.no_load load (ap (λ i. get_elem? hs i) (sym q) ∙ e))) (λ ne. inl (sym (t.places j ne) ∙ e));
        parcels = λ j parcel e. dite (ℕ_discrete j (parcel_at c)) (λ q. inr (parcel_on x key k.name k.name k.now k.age k.now k.age s.words ws grows parcel (t.put parcel (ap (λ i. get_elem? hs i) (sym q) ∙ e)))) (λ ne. inl (sym (t.places j ne) ∙ e));
        received = λ i done. ⊎_elim
            (λ e. dite (ℕ_discrete (cell key.0 i) c) (λ q. ⊎_elim (λ was. g.moved i (k.received i (inl (ap (chan_word s.words) q ∙ was)))) (λ new. new) (t.fresh i (sym here ∙ (ap (chan_word ws) (sym q) ∙ e)))) (λ ne. g.moved i (k.received i (inl (there (cell key.0 i) ne ∙ e)))))
            (λ r. ⊎_elim (λ f. g.moved i (k.received i (inr (inl (f.0, retires-same (cell key.0 i) ∙ f.1))))) (λ lt. g.moved i (k.received i (inr (inr lt)))) r) done;
        tied = g.tied;
        rested = rested_now x key s k id v w (chan_at c) y hs k.name c m g;
      }

  -- a step on the retire word
  pub record AtRetire (s : St x key) (k : Rules x key s) (id : ℕ) (v w : View L A) (c m y : ℕ) : Type 0 where
    pub shift : Shift x key s k id v w (retire_at c) y s.homes k.name c m
    pub calm : (q : ℕ) → (q ≡ 7) ⊎ (q ≡ 8) → count (mark q m) w.marks ≡ count (mark q m) v.marks
    pub awake : (q j : ℕ) → (q ≡ 7) ⊎ (q ≡ 8) → j ≢ m → count (mark q j) w.marks ≡ count (mark q j) v.marks
    pub load : (T : ℕ → ℕ) → After x key s.views v w T → OneLoad x (get_or s.words 0 0) c m (task s.words c) T (get_elem? s.homes (load_at c))
    pub chan : (T : ℕ → ℕ) → After x key s.views v w T → OneParcel x key.0 m (claim s.words c) (chan_word s.words c) T (get_elem? s.homes (parcel_at c))
    pub retire : (T : ℕ → ℕ) → After x key s.views v w T → TwoFinishers (k.age c) m (chan_word s.words c) y T
    -- the cell is free no more than before, and only once its channel was received
    pub stays : Freed k.age s.words c → y ≡ 2 * k.age c + 2
    pub freed : y ≡ 2 * k.age c + 2 → Done key.0 k.now k.age s.words m

  pub at_retire : (s : St x key) (k : Rules x key s) (id : ℕ) (v w : View L A) (c m y : ℕ) → AtRetire s k id v w c m y → Rules x key (st x key (set s.words (retire_at c) y) s.homes (set s.views id w))
  at_retire s k id v w c m y t =
      let g = t.shift in
      let ws : List ℕ = set s.words (retire_at c) y in
      let near : retire_at c < length s.words = omega (arith, k.wide, g.within) in
      let else : (j : ℕ) → j ≢ retire_at c → get_or s.words j 0 ≡ get_or ws j 0 = λ j ne. sym (get_or-set_other s.words (retire_at c) j y 0 ne) in
      let draw : get_or s.words 0 0 ≡ get_or ws 0 0 = else 0 (λ e. omega arith) in
      let tasks : (i : ℕ) → task s.words i ≡ task ws i = λ i. else (task_at i) (λ e. omega arith) in
      let claims : (i : ℕ) → claim s.words i ≡ claim ws i = λ i. else (claim_at i) (λ e. omega arith) in
      let chans-same : (i : ℕ) → chan_word s.words i ≡ chan_word ws i = λ i. else (chan_at i) (λ e. omega arith) in
      let here : retire_word ws c ≡ y = get_or-set_same s.words (retire_at c) y 0 near in
      let there : (i : ℕ) → i ≢ c → retire_word s.words i ≡ retire_word ws i = λ i ne. else (retire_at i) (λ e. ne (omega arith)) in
      let parks : (j : ℕ) → parked key.0 s.words j ≡ parked key.0 ws j = λ j. below-same _ _ key.0 (λ i _. ap (λ h. one (PARKED j) h) (chans-same i)) in
      let freed-on : (i : ℕ) → Freed k.age s.words (cell key.0 i) → Freed k.age ws (cell key.0 i) = λ i f. dite (ℕ_discrete (cell key.0 i) c)
      (λ e. subst (λ j. Freed k.age ws j) (sym e) (here ∙ t.stays (subst (λ j. Freed k.age s.words j) e f))) (λ ne. sym (there (cell key.0 i) ne) ∙ f) in
      let grows : Grows x key k.name k.name k.now k.age k.now k.age s.words ws = record {
        made = λ i was. (refl, made_as x key k.now s.words ws i (λ ne z. ne (tasks (cell key.0 i) ∙ z)) was);
        sent = λ i. sent_as x key k.now k.age s.words ws i (λ e. inl (sym (chans-same (cell key.0 i)) ∙ e)) (λ e. inl (sym (chans-same (cell key.0 i)) ∙ e)) (freed-on i);
      } in
      rebuilt x key s k id v w (retire_at c) y s.homes k.name k.now k.age record {
        me = g.me;
        live = g.live;
        parts = g.parts;
        log = g.log;
        step = g.step;
        tall = g.tall;
        whole = k.whole;
        placed = k.placed;
        low = k.low;
        draws = omega (arith, draw, k.draws, g.spent);
        loads = λ T after i lt. dite (ℕ_discrete i c)
            (λ e. subst (λ j. OneLoad x (get_or ws 0 0) j (k.now j) (task ws j) T (get_elem? s.homes (load_at j))) (sym e)
            (subst (λ (q : ℕ × ℕ × ℕ). OneLoad x q.0 c q.1 q.2 T (get_elem? s.homes (load_at c))) (λ z. (draw z, sym g.is z, tasks c z)) (t.load T after)))
            (λ ne. load_as x _ i _ _ _ _ _ _ _ T _ (k.loads i lt) draw refl (tasks i) refl (same_loads (k.now i) (tally s.views) T (other_marks x key s k id v w (retire_at c) y s.homes k.name c m g T after i lt ne)));
        older = older_now x key s k id v w (retire_at c) y s.homes k.name c m g;
        newer = newer_now x key s k id v w (retire_at c) y s.homes k.name c m g;
        chans = λ T after i lt. dite (ℕ_discrete i c)
            (λ e. subst (λ j. OneParcel x key.0 (k.now j) (claim ws j) (chan_word ws j) T (get_elem? s.homes (parcel_at j))) (sym e)
            (subst (λ (q : ℕ × ℕ × ℕ). OneParcel x key.0 q.0 q.1 q.2 T (get_elem? s.homes (parcel_at c))) (λ z. (sym g.is z, claims c z, chans-same c z)) (t.chan T after)))
            (λ ne. chan_as x key.0 _ _ _ _ _ _ _ _ T _ (k.chans i lt) refl (claims i) (chans-same i) refl (same_chans (k.now i) (tally s.views) T (other_marks x key s k id v w (retire_at c) y s.homes k.name c m g T after i lt ne)));
        waits = λ T after i lt. wait_as _ _ _ _ _ _ _ T (k.waits i lt) refl (tasks i) (parks (k.now i))
            (dite (ℕ_discrete i c) (λ e. after_same x key s.views v w T after (Parking (k.now i)) (subst (λ j. count (Parking j) w.marks ≡ count (Parking j) v.marks) (sym (ap k.now e ∙ g.is)) (t.calm 7 (inl refl)))) (λ ne. after_same x key s.views v w T after (Parking (k.now i)) (t.awake 7 (k.now i) (inl refl) (apart x key s k c m i g.within g.is lt ne))))
            (dite (ℕ_discrete i c) (λ e. after_same x key s.views v w T after (Waking (k.now i)) (subst (λ j. count (Waking j) w.marks ≡ count (Waking j) v.marks) (sym (ap k.now e ∙ g.is)) (t.calm 8 (inr refl)))) (λ ne. after_same x key s.views v w T after (Waking (k.now i)) (t.awake 8 (k.now i) (inr refl) (apart x key s k c m i g.within g.is lt ne))));
        parks = λ i j lt e. k.parks i j lt (chans-same i ∙ e);
        retires = λ T after i lt. dite (ℕ_discrete i c)
            (λ e. subst (λ j. TwoFinishers (k.age j) (k.now j) (chan_word ws j) (retire_word ws j) T) (sym e)
            (subst (λ (q : ℕ × ℕ × ℕ). TwoFinishers (k.age c) q.0 q.1 q.2 T) (λ z. (sym g.is z, chans-same c z, sym here z)) (t.retire T after)))
            (λ ne. retire_as _ _ _ _ _ _ _ _ _ T (k.retires i lt) refl refl (chans-same i) (there i ne) (same_chans (k.now i) (tally s.views) T (other_marks x key s k id v w (retire_at c) y s.homes k.name c m g T after i lt ne)));
        made = grows.made;
        sent = grows.sent;
        good = good_now x key s k id v w (retire_at c) y s.homes k.name c m g grows;
        present = λ j u ne at q i. present x key s k j u at q i;
        items = λ j load e. inl e;
        parcels = λ j parcel e. inl e;
        received = λ i done. ⊎_elim (λ e. g.moved i (k.received i (inl (chans-same (cell key.0 i) ∙ e))))
            (λ r. ⊎_elim (λ f. dite (ℕ_discrete (cell key.0 i) c)
            (λ e. let one-number : m ≡ i = sym g.is ∙ (ap k.now (sym e) ∙ f.0) in g.moved i (k.received i (subst (λ z. Done key.0 k.now k.age s.words z) one-number (t.freed (sym here ∙ (subst (λ j. Freed k.age ws j) e f.1))))))
            (λ ne. g.moved i (k.received i (inr (inl (f.0, there (cell key.0 i) ne ∙ f.1)))))) (λ lt. g.moved i (k.received i (inr (inr lt)))) r) done;
        tied = g.tied;
        rested = rested_now x key s k id v w (retire_at c) y s.homes k.name c m g;
      }
