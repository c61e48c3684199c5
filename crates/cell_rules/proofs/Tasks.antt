-- A step on the task word of a cell.
use Rattle.std.proofs.Common.{◌≡◌, ◌≢◌, ◌⊎◌, ℕ, ◌<◌, ◌≤◌, List, ◌∷◌, length, get_or, set, sym, refl, ap, ◌∙◌, subst, inl, inr, ⊎_elim, arith, get_or-set_other, get_or-set_same}
use mathlib.Core.Logic.{dite}
use native.Mathlib.Decide.{ℕ_discrete}
use mathlib.Core.Option.{some}
use lib.ListN.{get_elem?}
use Rattle.atomic_table.proofs.Lists.{at_set}
use Rattle.cell_rules.specs.declared.view.View.{View}
use Rattle.cell_rules.specs.Lists.{one, count, In}
use Rattle.cell_rules.specs.Words.{cell, task_at, claim_at, chan_at, retire_at, load_at, parcel_at, task, claim, chan, retire, PARKED, WAITING}
use Rattle.cell_rules.specs.Marks.{mark, Parking, Waking, Kept}
use Rattle.cell_rules.specs.Table.{IsStep}
use Rattle.cell_rules.specs.Rule.{Means, OneLoad, OneWait, GoodView, GoodLoad, Tied, Received, Made, Sent, parked, tally, load_in, parcel_in, Rules}
use Rattle.cell_rules.proofs.Totals.{two_terms, below-same}
use Rattle.cell_rules.proofs.Turns.{St, Homes, st, After, Grows, view_on, rebuilt}
use Rattle.cell_rules.proofs.Still.{Same, same_loads, SameChans, load_as, chan_as, retire_as, wait_as, present, waits_of, resting_home, apart, cell_of, after_same, made_as, done_as, sent_as}

module _ {L P A : Type 0} (x : Means L P A) (key : ℕ × ℕ × A) where
  -- what every step on the cell c of the present number m has to show
  pub record Shift (s : St x key) (k : Rules x key s) (id : ℕ) (v w : View L A) (p y : ℕ) (hs : Homes x key) (name' : ℕ → List ℕ) (c m : ℕ) : Type 0 where
    pub me : get_elem? s.views id ≡ some v
    pub live : 0 < v.parts
    pub within : c < key.0
    pub is : k.now c ≡ m
    pub parts : w.parts ≡ v.parts
    pub spent : w.spent ≡ v.spent
    pub about : w.about ≡ v.about
    pub log : w.log ≡ (p, get_or s.words p 0, y) ∷ v.log
    pub step : IsStep key.0 record { seat = id; word = p; found = get_or s.words p 0; left = y }
    pub tall : length hs ≡ length s.homes
    -- the marks of other numbers stay, those of parking and waking aside
    pub others : (q j : ℕ) → q < 14 → q ≢ 7 → q ≢ 8 → j ≢ m → count (mark q j) w.marks ≡ count (mark q j) v.marks
    pub wakes : (q j : ℕ) → (q ≡ 7) ⊎ (q ≡ 8) → j ≢ m → 0 < count (mark q j) w.marks → (0 < count (mark q j) v.marks) ⊎ (k.now (cell key.0 j) ≡ j)
    pub names : Grows x key k.name name' k.now k.age k.now k.age s.words (set s.words p y) → (e : ℕ × List ℕ) → In e w.names → In e v.names ⊎ ((name' e.0 ≡ e.1) × Made key.0 k.now (set s.words p y) e.0)
    pub makes : (i : ℕ) → In i w.made → In i v.made ⊎ Made key.0 k.now (set s.words p y) i
    pub sends : Grows x key k.name name' k.now k.age k.now k.age s.words (set s.words p y) → (i : ℕ) → In i w.sends → In i v.sends ⊎ Sent key.0 k.now k.age (set s.words p y) i
    pub receives : Grows x key k.name name' k.now k.age k.now k.age s.words (set s.words p y) → (by i : ℕ) → In (by, i) w.receipts → In (by, i) v.receipts ⊎ Made key.0 k.now (set s.words p y) i
    pub keeps : Grows x key k.name name' k.now k.age k.now k.age s.words (set s.words p y) → (e : ℕ × L) → In e w.kept → In e v.kept ⊎ GoodLoad x key.0 name' key.2 k.now k.age (set s.words p y) e.1
    pub tied : Tied x w
    -- what was received stays so
    pub moved : (i : ℕ) → Received x s.homes s.views i → Received x hs (set s.views id w) i
    -- loads that are being parked stay at home
    pub shelf : (i : ℕ) → i ≢ c → get_elem? hs (load_at i) ≡ get_elem? s.homes (load_at i)
    pub quiet : (get_elem? hs (load_at c) ≡ get_elem? s.homes (load_at c)) ⊎ (task s.words c ≢ WAITING m) ⊎ (0 < count (Parking m) v.marks)
    pub rests : (i : ℕ) (load : L) → In (i, load) w.resting → get_elem? hs (load_at (cell key.0 i)) ≡ load_in load

  module _ (s : St x key) (k : Rules x key s) (id : ℕ) (v w : View L A) (p y : ℕ) (hs : Homes x key) (name' : ℕ → List ℕ) (c m : ℕ) (t : Shift s k id v w p y hs name' c m) where
    pub present_now : (q j : ℕ) → q < 13 → 0 < count (mark q j) w.marks → k.now (cell key.0 j) ≡ j
    present_now q j small has = dite (ℕ_discrete j m)
        (λ e. ap (λ z. k.now (cell key.0 z)) e ∙ (ap k.now (cell_of x key s k c m t.within t.is) ∙ (t.is ∙ sym e)))
        (λ ne. let waits : (q ≡ 7) ⊎ (q ≡ 8) → k.now (cell key.0 j) ≡ j = λ which. ⊎_elim (λ old. present x key s k id v t.me q j small old) (λ now. now) (t.wakes q j which ne has) in
        dite (ℕ_discrete q 7) (λ e. waits (inl e)) (λ seven. dite (ℕ_discrete q 8) (λ e. waits (inr e)) (λ other. present x key s k id v t.me q j small (omega (arith, t.others q j (omega arith) seven other ne)))))

    pub good_now : Grows x key k.name name' k.now k.age k.now k.age s.words (set s.words p y) → GoodView x key.0 name' key.2 k.now k.age (set s.words p y) w
    good_now grows = view_on x key k.name name' k.now k.age k.now k.age s.words (set s.words p y) grows v w (k.views id v t.me) (t.names grows) t.makes (t.sends grows) (t.receives grows) (t.keeps grows) t.parts t.about present_now

    -- what marks the tally has of the present number of another cell
    pub other_marks : (T : ℕ → ℕ) → After x key s.views v w T → (i : ℕ) → i < key.0 → i ≢ c → Same (k.now i) (tally s.views) T
    other_marks T after i lt ne q small seven other = after_same x key s.views v w T after (mark q (k.now i)) (t.others q (k.now i) small seven other (apart x key s k c m i t.within t.is lt ne))

    pub older_now : (T : ℕ → ℕ) → After x key s.views v w T → (j : ℕ) → j < k.now (cell key.0 j) → T (Kept j) ≡ 1
    older_now T after j lt =
        let ne : j ≢ m = λ e. let back : k.now (cell key.0 j) ≡ m = ap (λ z. k.now (cell key.0 z)) e ∙ (ap k.now (cell_of x key s k c m t.within t.is) ∙ t.is) in omega arith in
        after_same x key s.views v w T after (Kept j) (t.others 13 j (omega arith) (λ e. omega arith) (λ e. omega arith) ne) ∙ k.older j lt

    pub newer_now : (T : ℕ → ℕ) → After x key s.views v w T → (j : ℕ) → k.now (cell key.0 j) < j → T (Kept j) ≡ 0
    newer_now T after j lt =
        let ne : j ≢ m = λ e. let back : k.now (cell key.0 j) ≡ m = ap (λ z. k.now (cell key.0 z)) e ∙ (ap k.now (cell_of x key s k c m t.within t.is) ∙ t.is) in omega arith in
        after_same x key s.views v w T after (Kept j) (t.others 13 j (omega arith) (λ e. omega arith) (λ e. omega arith) ne) ∙ k.newer j lt

    pub rested_now : (j : ℕ) (u : View L A) (i : ℕ) (load : L) → get_elem? (set s.views id w) j ≡ some u → In (i, load) u.resting → get_elem? hs (load_at (cell key.0 i)) ≡ load_in load
    rested_now j u i load at rests = ⊎_elim (λ (q : (j ≡ id) × (w ≡ u)). t.rests i load (subst (λ (z : View L A). In (i, load) z.resting) (sym q.1) rests))
        (λ (q : (j ≢ id) × (get_elem? s.views j ≡ some u)). resting_home x key s k j u q.1 c m t.within t.is hs t.shelf i load rests
        (⊎_elim (λ same. inl same) (λ r. ⊎_elim (λ ne. inr (inl ne))
        (λ has. inr (inr (λ e.
        let theirs = ((k.tied j u q.1).rests i load rests).1 in
        let theirs' : 0 < count (Parking m) u.marks = subst (λ z. 0 < count (Parking z) u.marks) e theirs in
        let two = two_terms (λ (z : View L A). count (Parking m) z.marks) s.views j id u v q.0 q.1 t.me in
        let side = waits_of x key s k c m t.within t.is in
        dite (ℕ_discrete (task s.words c) (WAITING m)) (λ z. omega (arith, side.waiting z)) (λ z. omega (arith, side.awake z))))) r) t.quiet)) (at_set s.views id j w u at)

  -- a step on the task word
  pub record AtTask (s : St x key) (k : Rules x key s) (id : ℕ) (v w : View L A) (c m y : ℕ) (hs : Homes x key) (name' : ℕ → List ℕ) : Type 0 where
    pub shift : Shift s k id v w (task_at c) y hs name' c m
    -- of the marks of m only those of the load, of parking and of waking change
    pub calm : (q : ℕ) → 5 ≤ q → q < 14 → q ≢ 7 → q ≢ 8 → count (mark q m) w.marks ≡ count (mark q m) v.marks
    pub awake : (q j : ℕ) → (q ≡ 7) ⊎ (q ≡ 8) → j ≢ m → count (mark q j) w.marks ≡ count (mark q j) v.marks
    pub load : (T : ℕ → ℕ) → After x key s.views v w T → OneLoad x (get_or s.words 0 0) c m y T (get_elem? hs (load_at c))
    pub wait : (T : ℕ → ℕ) → After x key s.views v w T → OneWait m y (parked key.0 s.words m) T
    pub begun : task s.words c ≢ 0 → y ≢ 0
    pub titles : (i : ℕ) → Made key.0 k.now s.words i → k.name i ≡ name' i
    pub places : (j : ℕ) → j ≢ load_at c → get_elem? hs j ≡ get_elem? s.homes j
    pub put : Grows x key k.name name' k.now k.age k.now k.age s.words (set s.words (task_at c) y) → (load : L) → get_elem? hs (load_at c) ≡ load_in load → GoodLoad x key.0 name' key.2 k.now k.age (set s.words (task_at c) y) load
    pub no_parcel : (parcel : P) → get_elem? hs (load_at c) ≡ parcel_in parcel → ⊥

  pub at_task : (s : St x key) (k : Rules x key s) (id : ℕ) (v w : View L A) (c m y : ℕ) (hs : Homes x key) (name' : ℕ → List ℕ) → AtTask s k id v w c m y hs name' → Rules x key (st x key (set s.words (task_at c) y) hs (set s.views id w))
  at_task s k id v w c m y hs name' t =
      let g = t.shift in
      let ws : List ℕ = set s.words (task_at c) y in
      let near : task_at c < length s.words = omega (arith, k.wide, g.within) in
      let else : (j : ℕ) → j ≢ task_at c → get_or s.words j 0 ≡ get_or ws j 0 = λ j ne. sym (get_or-set_other s.words (task_at c) j y 0 ne) in
      let draw : get_or s.words 0 0 ≡ get_or ws 0 0 = else 0 (λ e. omega arith) in
      let claims : (i : ℕ) → claim s.words i ≡ claim ws i = λ i. else (claim_at i) (λ e. omega arith) in
      let chans-same : (i : ℕ) → chan s.words i ≡ chan ws i = λ i. else (chan_at i) (λ e. omega arith) in
      let retires-same : (i : ℕ) → retire s.words i ≡ retire ws i = λ i. else (retire_at i) (λ e. omega arith) in
      let here : task ws c ≡ y = get_or-set_same s.words (task_at c) y 0 near in
      let there : (i : ℕ) → i ≢ c → task s.words i ≡ task ws i = λ i ne. else (task_at i) (λ e. ne (omega arith)) in
      let parks : (j : ℕ) → parked key.0 s.words j ≡ parked key.0 ws j = λ j. below-same _ _ key.0 (λ i _. ap (λ h. one (PARKED j) h) (chans-same i)) in
      let grows : Grows x key k.name name' k.now k.age k.now k.age s.words ws = record {
        made = λ i was. (t.titles i was, made_as x key k.now s.words ws i (λ ne. dite (ℕ_discrete (cell key.0 i) c) (λ e z. t.begun (λ q. ne (ap (λ j. task s.words j) e ∙ q)) (sym here ∙ (ap (λ j. task ws j) (sym e) ∙ z))) (λ other z. ne (there (cell key.0 i) other ∙ z))) was);
        sent = λ i. sent_as x key k.now k.age s.words ws i (λ e. inl (sym (chans-same (cell key.0 i)) ∙ e)) (λ e. inl (sym (chans-same (cell key.0 i)) ∙ e)) (λ e. sym (retires-same (cell key.0 i)) ∙ e);
      } in
      let calm : (T : ℕ → ℕ) → After x key s.views v w T → (i : ℕ) → i < key.0 → SameChans (k.now i) (tally s.views) T = λ T after i lt q low high seven eight. dite (ℕ_discrete i c)
      (λ e. after_same x key s.views v w T after (mark q (k.now i)) (subst (λ j. count (mark q j) w.marks ≡ count (mark q j) v.marks) (sym (ap k.now e ∙ g.is)) (t.calm q low high seven eight)))
      (λ ne. other_marks s k id v w (task_at c) y hs name' c m g T after i lt ne q high seven eight) in
      rebuilt x key s k id v w (task_at c) y hs name' k.now k.age record {
        me = g.me;
        live = g.live;
        parts = g.parts;
        log = g.log;
        step = g.step;
        tall = g.tall;
        whole = k.whole;
        placed = k.placed;
        low = k.low;
        draws = omega (arith, draw, k.draws, g.spent);
        loads = λ T after i lt. dite (ℕ_discrete i c)
            (λ e. subst (λ j. OneLoad x (get_or ws 0 0) j (k.now j) (task ws j) T (get_elem? hs (load_at j))) (sym e)
            (subst (λ (q : ℕ × ℕ × ℕ). OneLoad x q.0 c q.1 q.2 T (get_elem? hs (load_at c))) (λ z. (draw z, sym g.is z, sym here z)) (t.load T after)))
            (λ ne. load_as x _ i _ _ _ _ _ _ _ T _ (k.loads i lt) draw refl (there i ne) (sym (g.shelf i ne)) (same_loads (k.now i) (tally s.views) T (other_marks s k id v w (task_at c) y hs name' c m g T after i lt ne)));
        older = older_now s k id v w (task_at c) y hs name' c m g;
        newer = newer_now s k id v w (task_at c) y hs name' c m g;
        chans = λ T after i lt. chan_as x key.0 _ _ _ _ _ _ _ _ T _ (k.chans i lt) refl (claims i) (chans-same i) (sym (t.places (parcel_at i) (λ e. omega arith)))
            (calm T after i lt);
        waits = λ T after i lt. dite (ℕ_discrete i c)
            (λ e. subst (λ j. OneWait (k.now j) (task ws j) (parked key.0 ws (k.now j)) T) (sym e)
            (subst (λ (q : ℕ × ℕ × ℕ). OneWait q.0 q.1 q.2 T) (λ z. (sym g.is z, sym here z, (parks m ∙ ap (parked key.0 ws) (sym g.is)) z)) (t.wait T after)))
            (λ ne. wait_as _ _ _ _ _ _ _ T (k.waits i lt) refl (there i ne) (parks (k.now i)) (after_same x key s.views v w T after (Parking (k.now i)) (t.awake 7 (k.now i) (inl refl) (apart x key s k c m i g.within g.is lt ne)))
            (after_same x key s.views v w T after (Waking (k.now i)) (t.awake 8 (k.now i) (inr refl) (apart x key s k c m i g.within g.is lt ne))));
        parks = λ i j lt e. k.parks i j lt (chans-same i ∙ e);
        retires = λ T after i lt. retire_as _ _ _ _ _ _ _ _ _ T (k.retires i lt) refl refl (chans-same i) (retires-same i) (calm T after i lt);
        made = grows.made;
        sent = grows.sent;
        good = good_now s k id v w (task_at c) y hs name' c m g grows;
        present = λ j u ne at q i. present x key s k j u at q i;
        items = λ j load e. dite (ℕ_discrete j (load_at c)) (λ q. inr (t.put grows load (ap (λ i. get_elem? hs i) (sym q) ∙ e))) (λ ne. inl (sym (t.places j ne) ∙ e));
        parcels = λ j parcel e. dite (ℕ_discrete j (load_at c)) (λ q. absurd (t.no_parcel parcel (ap (λ i. get_elem? hs i) (sym q) ∙ e))) (λ ne. inl (sym (t.places j ne) ∙ e));
        received = λ i done. g.moved i (k.received i (done_as x key k.now k.age ws s.words i (λ e. inl (chans-same (cell key.0 i) ∙ e)) (λ e. retires-same (cell key.0 i) ∙ e) done));
        tied = g.tied;
        rested = rested_now s k id v w (task_at c) y hs name' c m g;
      }
