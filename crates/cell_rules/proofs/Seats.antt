-- The draw step, and the beginning, splitting and joining of seats, keep the rule.
use Rattle.std.proofs.Common.{◌≡◌, ◌≢◌, ◌⊎◌, ℕ, zero, suc, ◌+◌, ◌*◌, ◌%◌, ◌^◌, ◌<◌, ◌≤◌, List, [], ◌∷◌, ◌++◌, length, get_or, set, sym, refl, ap, ◌∙◌, subst, inl, inr, ⊎_elim, arith, length-set, get_or-set_other, get_or-set_same, Some, None}
use mathlib.Core.Logic.{dite}
use native.Mathlib.Decide.{ℕ_discrete, dec_le}
use mathlib.Core.Option as maybe
use mathlib.Core.Option.{some, some-injective, some-ne-none}
use lib.ListN.{get_elem?}
use Rattle.atomic_table.proofs.Lists.{at_set, set_else}
use Rattle.cell_rules.specs.declared.item.Item.TheVariants.{Load, Parcel}
use Rattle.cell_rules.specs.declared.view.View.{View}
use Rattle.cell_rules.specs.Lists.{total, one, count, In}
use Rattle.cell_rules.specs.Words.{cell, task_at, claim_at, chan_at, retire_at, load_at, parcel_at, task, claim, chan, retire, FREE, EMPTY, PARKED, RUNNING}
use Rattle.cell_rules.specs.Marks.{mark, Drawn, Opening, InHand, Lifted, Reopening, Parking, Free, ClaimCleared, ChanCleared, Kept}
use Rattle.cell_rules.specs.Table.{own}
use Rattle.cell_rules.specs.Rule.{Means, Held, Home, OneLoad, OneParcel, OneWait, TwoFinishers, GoodView, Tied, Received, parked, tally, load_in, Rules}
use Rattle.std.proofs.Common.{map, replicate, length-append}
use Rattle.atomic_table.specs.Table.{keeps, Me, step, Allows}
use Rattle.cell_rules.specs.Words.{UNMADE}
use Rattle.cell_rules.specs.Table.{draw}
use Rattle.std.proofs.lemmas.List.{length-map, length-replicate}
use Rattle.atomic_table.specs.Table.{opening, Splits, Joins}
use Rattle.atomic_table.proofs.Lists.{at_longer}
use Rattle.cell_rules.specs.Words.{words_at_start}
use Rattle.cell_rules.specs.Rule.{fresh, blank, dealt, hand_of, both}
use Rattle.cell_rules.specs.Plays.{noted, drawing, spending, draws, sends}
use Rattle.cell_rules.proofs.Totals.{term_le, total-set, one_other, In-append, In-left, In-right, two_terms}
use Rattle.cell_rules.proofs.Turns.{St, st, After, at_place, Grows, view_on, rebuilt}
use Rattle.cell_rules.proofs.Still.{cell_below, cell_small, load_as, chan_as, retire_as, wait_as, present, loads_of, after_same, made_as, done_as, sent_as, receipts_stay}
use Rattle.cell_rules.proofs.Tallies.{gain_other, gains_tally, tied_calm}
use Rattle.std.proofs.Math.Nat.{mod-le}
use Rattle.cell_rules.proofs.Totals.{none-below, below-same, total_le, total-append}

at_end : {A : Type 0} (l : List A) (a b : A) (j : ℕ) → get_elem? (l ++ a ∷ []) j ≡ some b → (get_elem? l j ≡ some b) ⊎ ((j ≡ length l) × (a ≡ b))
at_end [] a b zero e = inr (refl, some-injective a b e)
at_end [] a b (suc j) e = absurd (some-ne-none b (sym e))
at_end (y ∷ ys) a b zero e = inl e
at_end (y ∷ ys) a b (suc j) e = ⊎_elim (λ q. inl q) (λ q. inr (omega (arith, q.0), q.1)) (at_end ys a b j e)

-- at the start there are no older numbers
old_start : (n m : ℕ) → 0 < n → m < cell n m → ⊥
unfolding cell
old_start n m some-cells lt = omega (arith, mod-le m n)

module _ {L P A : Type 0} (x : Means L P A) (key : ℕ × ℕ × A) where
  few : (s : St x key) → Rules x key s → get_or s.words 0 0 < 4294967296
  few s k = omega (arith, k.draws, k.small.1, k.parts, total_le (λ (v : View L A). v.spent) (λ (v : View L A). v.parts) s.views (λ j v e. (k.tied j v e).spends))

  -- one more number is drawn: of another cell, or of this one
  further : (a i m t : ℕ) (T : ℕ → ℕ) (h : Home L P) → OneLoad x a i m t T h → i ≢ a → OneLoad x (a + 1) i m t T h
  further a i m t T h g ne = record {
    unmade = g.unmade;
    carried = g.carried;
    fresh = λ le. g.fresh (omega arith);
    owed = λ lt. g.owed (omega arith);
    begun = g.begun;
    running = g.running;
    resting = g.resting;
    stored = g.stored;
    vacant = g.vacant;
    vacated = g.vacated;
    away = g.away;
    reopens = g.reopens;
  }

  reached : (a i m t : ℕ) (T T' : ℕ → ℕ) (h : Home L P) → OneLoad x a i m t T h → i ≡ a → T' (Drawn m) ≡ T (Drawn m) + 1 → ((q : ℕ) → 0 < q → q < 14 → T' (mark q m) ≡ T (mark q m)) → OneLoad x (a + 1) i m t T' h
  reached a i m t T T' h g e e0 others =
      let f = g.fresh (omega arith) in
      let e1 : T' (Opening m) ≡ T (Opening m) = others 1 (omega arith) (omega arith) in
      let e2 : T' (InHand m) ≡ T (InHand m) = others 2 (omega arith) (omega arith) in
      let e3 : T' (Lifted m) ≡ T (Lifted m) = others 3 (omega arith) (omega arith) in
      let e4 : T' (Reopening m) ≡ T (Reopening m) = others 4 (omega arith) (omega arith) in
      let e13 : T' (Kept m) ≡ T (Kept m) = others 13 (omega arith) (omega arith) in record {
        unmade = g.unmade;
        carried = g.carried;
        fresh = λ le. absurd (omega arith);
        owed = λ lt z. omega (arith, f.1);
        begun = λ n. absurd (n f.0);
        running = λ z. omega (arith, g.running z);
        resting = λ z. omega (arith, g.resting z);
        stored = g.stored;
        vacant = λ z y. g.vacant z (omega arith);
        vacated = λ z y. g.vacated z (omega arith);
        away = λ lt. g.away (omega arith);
        reopens = λ lt. let r = g.reopens (omega arith) in (omega (arith, r.0), omega (arith, r.1));
      }

  -- the draw word goes up by 1, and the seat's view to w
  drew : (s : St x key) (k : Rules x key s) (id : ℕ) (v w : View L A) (y : ℕ) → get_elem? s.views id ≡ some v → 0 < v.parts → y ≡ get_or s.words 0 0 + 1 → y + v.spent ≤ key.0 + total (λ u. u.spent) s.views + w.spent
      → w.parts ≡ v.parts → w.about ≡ v.about → w.log ≡ (0, get_or s.words 0 0, y) ∷ v.log → w.names ≡ v.names → w.made ≡ v.made → w.sends ≡ v.sends → w.kept ≡ v.kept → w.receipts ≡ v.receipts → w.resting ≡ v.resting → w.spent ≤ w.parts
      → ((q j : ℕ) → 0 < q → q < 14 → count (mark q j) w.marks ≡ count (mark q j) v.marks) → ((j : ℕ) → 0 < count (Drawn j) w.marks → (0 < count (Drawn j) v.marks) ⊎ (k.now (cell key.0 j) ≡ j))
      → ((T : ℕ → ℕ) → After x key s.views v w T → (i : ℕ) → i < key.0 → OneLoad x (get_or s.words 0 0 + 1) i (k.now i) (task s.words i) T (get_elem? s.homes (load_at i)))
      → Rules x key (st x key (set s.words 0 y) s.homes (set s.views id w))
  drew s k id v w y me live is drawn parts about log names made sends kept receipts resting spends marks draws loads =
      let ws : List ℕ = set s.words 0 y in
      let now : get_or ws 0 0 ≡ y = get_or-set_same s.words 0 y 0 (omega (arith, k.wide)) in
      let else : (j : ℕ) → j ≢ 0 → get_or s.words j 0 ≡ get_or ws j 0 = λ j ne. sym (get_or-set_other s.words 0 j y 0 ne) in
      let tasks : (i : ℕ) → task s.words i ≡ task ws i = λ i. else (task_at i) (λ e. omega arith) in
      let claims : (i : ℕ) → claim s.words i ≡ claim ws i = λ i. else (claim_at i) (λ e. omega arith) in
      let chans : (i : ℕ) → chan s.words i ≡ chan ws i = λ i. else (chan_at i) (λ e. omega arith) in
      let retires : (i : ℕ) → retire s.words i ≡ retire ws i = λ i. else (retire_at i) (λ e. omega arith) in
      let parks : (j : ℕ) → parked key.0 s.words j ≡ parked key.0 ws j = λ j. below-same _ _ key.0 (λ i _. ap (λ h. one (PARKED j) h) (chans i)) in
      let grows : Grows x key k.name k.name k.now k.age k.now k.age s.words ws = record {
        made = λ i was. (refl, made_as x key k.now s.words ws i (λ ne z. ne (tasks (cell key.0 i) ∙ z)) was);
        sent = λ i. sent_as x key k.now k.age s.words ws i (λ e. inl (sym (chans (cell key.0 i)) ∙ e)) (λ e. inl (sym (chans (cell key.0 i)) ∙ e)) (λ e. sym (retires (cell key.0 i)) ∙ e);
      } in
      let tie = k.tied id v me in
      let same : (T : ℕ → ℕ) → After x key s.views v w T → (q j : ℕ) → 0 < q → q < 14 → T (mark q j) ≡ tally s.views (mark q j) = λ T after q j low high. after_same x key s.views v w T after (mark q j) (marks q j low high) in
      rebuilt x key s k id v w 0 y s.homes k.name k.now k.age record {
        me = me;
        live = live;
        parts = parts;
        log = log;
        step = inr (draw, 0, (refl, is));
        tall = refl;
        whole = k.whole;
        placed = k.placed;
        low = k.low;
        draws = omega (arith, now);
        loads = λ T after i lt. subst (λ (q : ℕ × ℕ). OneLoad x q.0 i (k.now i) q.1 T (get_elem? s.homes (load_at i))) (λ z. (sym (now ∙ is) z, tasks i z)) (loads T after i lt);
        older = λ T after j lt. same T after 13 j (omega arith) (omega arith) ∙ k.older j lt;
        newer = λ T after j lt. same T after 13 j (omega arith) (omega arith) ∙ k.newer j lt;
        chans = λ T after i lt. chan_as x key.0 _ _ _ _ _ _ _ _ T _ (k.chans i lt) refl (claims i) (chans i) refl (λ q low high seven eight. same T after q (k.now i) (omega arith) high);
        waits = λ T after i lt. wait_as _ _ _ _ _ _ _ T (k.waits i lt) refl (tasks i) (parks (k.now i)) (same T after 7 (k.now i) (omega arith) (omega arith)) (same T after 8 (k.now i) (omega arith) (omega arith));
        parks = λ i j lt e. k.parks i j lt (chans i ∙ e);
        retires = λ T after i lt. retire_as _ _ _ _ _ _ _ _ _ T (k.retires i lt) refl refl (chans i) (retires i) (λ q low high seven eight. same T after q (k.now i) (omega arith) high);
        made = grows.made;
        sent = grows.sent;
        good = view_on x key k.name k.name k.now k.age k.now k.age s.words ws grows v w (k.views id v me) (λ e i. inl (subst (λ l. In e l) names i)) (λ i h. inl (subst (λ l. In i l) made h)) (λ i h. inl (subst (λ l. In i l) sends h)) (λ by i h. inl (subst (λ l. In (by, i) l) receipts h)) (λ e i. inl (subst (λ l. In e l) kept i)) parts about
            (λ q j lt has. dite (ℕ_discrete q 0) (λ e. ⊎_elim (λ old. present x key s k id v me 0 j (omega arith) old) (λ new. new) (draws j (subst (λ z. 0 < count (mark z j) w.marks) e has))) (λ ne. present x key s k id v me q j lt (omega (arith, marks q j (omega arith) (omega arith)))));
        present = λ j u ne at q i. present x key s k j u at q i;
        items = λ j load e. inl e;
        parcels = λ j parcel e. inl e;
        received = λ i done. receipts_stay x key s id v w s.homes me (λ by j r. subst (λ l. In (by, j) l) (sym receipts) r) (λ j item there. there) i (k.received i (done_as x key k.now k.age ws s.words i (λ e. inl (chans (cell key.0 i) ∙ e)) (λ e. retires (cell key.0 i) ∙ e) done));
        tied = tied_calm x v w tie (omega arith) spends receipts kept resting (λ j. omega (arith, marks 2 j (omega arith) (omega arith), marks 3 j (omega arith) (omega arith)))
            (λ q j which. marks q j (⊎_elim (λ e. omega arith) (λ z. omega arith) which) (⊎_elim (λ e. omega arith) (λ z. omega arith) which)) (λ j. omega (arith, marks 4 j (omega arith) (omega arith), (tie.clears j).2));
        rested = λ j u i item at r. ⊎_elim (λ (q : (j ≡ id) × (w ≡ u)). k.rested id v i item me (subst (λ l. In (i, item) l) resting (subst (λ (z : View L A). In (i, item) z.resting) (sym q.1) r))) (λ (q : (j ≢ id) × (get_elem? s.views j ≡ some u)). k.rested j u i item q.1 r) (at_set s.views id j w u at);
      }

  pub draws_kept : (slots id : ℕ) (me : Me (Held L P) (View L A)) → me.0.spent < me.0.parts → Allows (Rules x key) slots id me 0 (λ n. (n + 1) % 2 ^ 64) (draws (step slots 0 1 0 maybe.none) me)
  draws_kept slots id me room s k wide at fits =
      let m0 : View L A = me.0 in
      let a : ℕ = get_or s.words 0 0 in
      let small : a < 4294967296 = few s k in
      let y : ℕ = (a + 1) % 2 ^ 64 in
      let more-one : y ≡ a + 1 = omega arith in
      dite (dec_le key.0 a)
      (λ full. let w : View L A = noted 0 a y (spending m0) in (
        w,
        keeps,
        tt,
        drew s k id m0 w y at (omega arith) more-one (omega (arith, k.draws)) refl refl refl refl refl refl refl refl refl (omega arith) (λ q j low high. refl) (λ j has. inl has)
            (λ T after i lt. load_as x _ i _ _ _ _ _ _ _ T _ (further a i _ _ _ _ (k.loads i lt) (omega arith)) refl refl refl refl (λ q which. after_same x key s.views m0 w T after (mark q (k.now i)) refl)),
        λ n ns. let n-is : key.0 ≡ n = omega (arith, k.tall) in ((λ lt. absurd (omega arith)), λ _ q. (noted 0 a (more-one q) (spending m0), me.1)),
      ))
      (λ left. let w : View L A = noted 0 a y (drawing a m0) in
      let lt-a : a < key.0 = omega arith in
      let g = k.loads a lt-a in
      let is : k.now a ≡ a = g.unmade (g.fresh (omega arith)).0 in
      let marks : (q j : ℕ) → 0 < q → q < 14 → count (mark q j) w.marks ≡ count (mark q j) m0.marks = λ q j low high. gain_other q j 0 a m0.marks (omega arith) (omega arith) (inr (λ e. omega arith)) in (
        w,
        keeps,
        tt,
        drew s k id m0 w y at (omega arith) more-one (omega (arith, k.draws)) refl refl refl refl refl refl refl refl refl (k.tied id m0 at).spends marks
            (λ j has. dite (ℕ_discrete j a) (λ e. inr (ap (λ z. k.now (cell key.0 z)) e ∙ (ap k.now (cell_small key.0 a lt-a) ∙ (is ∙ sym e)))) (λ ne. inl (omega (arith, gain_other 0 j 0 a m0.marks (omega arith) (omega arith) (inl ne)))))
            (λ T after i lt. dite (ℕ_discrete i a)
            (λ e. let now-i : k.now i ≡ a = ap k.now e ∙ is in
            reached a i (k.now i) (task s.words i) (tally s.views) T _ (k.loads i lt) e (subst (λ z. T (Drawn z) ≡ tally s.views (Drawn z) + 1) (sym now-i) (gains_tally x key s.views m0 w T after (Drawn a) refl).0)
            (λ q low high. after_same x key s.views m0 w T after (mark q (k.now i)) (marks q (k.now i) low high)))
            (λ ne. load_as x _ i _ _ _ _ _ _ _ T _ (further a i _ _ _ _ (k.loads i lt) ne) refl refl refl refl
            (λ q which. dite (ℕ_discrete q 0) (λ e. after_same x key s.views m0 w T after (mark q (k.now i)) (gain_other q (k.now i) 0 a m0.marks (omega arith) (omega arith) (inl (λ z. ne (sym (k.placed i lt) ∙ (ap (cell key.0) z ∙ cell_small key.0 a lt-a))))))
            (λ nz. after_same x key s.views m0 w T after (mark q (k.now i)) (marks q (k.now i) (omega arith) (⊎_elim (λ z. omega arith) (λ z. omega arith) which)))))),
        λ n ns. let n-is : key.0 ≡ n = omega (arith, k.tall) in ((λ _ q. (noted 0 a (more-one q) (drawing a m0), me.1)), λ gt. absurd (left (omega arith))),
      ))

  -- views that have each mark as often as before
  regrouped : (s : St x key) (k : Rules x key s) (vs : List (View L A)) → ((q : ℕ) → tally s.views q ≡ tally vs q) → get_or s.words 0 0 ≤ key.0 + total (λ v. v.spent) vs → total (λ v. v.parts) vs ≡ key.1
      → ((j : ℕ) (v : View L A) → get_elem? vs j ≡ some v → GoodView x key.0 k.name key.2 k.now k.age s.words v) → ((m : ℕ) → Received x s.homes s.views m → Received x s.homes vs m) → ((j : ℕ) (v : View L A) → get_elem? vs j ≡ some v → Tied x v)
      → ((j : ℕ) (v : View L A) (m : ℕ) (load : L) → get_elem? vs j ≡ some v → In (m, load) v.resting → get_elem? s.homes (load_at (cell key.0 m)) ≡ load_in load)
      → ((j : ℕ) (v : View L A) → get_elem? vs j ≡ some v → 0 < v.parts → own j k.trace ≡ v.log) → ((j : ℕ) → length vs ≤ j → own j k.trace ≡ []) → Rules x key (st x key s.words s.homes vs)
  regrouped s k vs same draws parts views moved tied rested logs later =
      let T : tally s.views ≡ tally vs = λ i q. same q i in record {
        name = k.name;
        now = k.now;
        age = k.age;
        whole = k.whole;
        placed = k.placed;
        low = k.low;
        wide = k.wide;
        tall = k.tall;
        small = k.small;
        draws = draws;
        parts = parts;
        loads = λ i lt. subst (λ (t : ℕ → ℕ). OneLoad x (get_or s.words 0 0) i (k.now i) (task s.words i) t (get_elem? s.homes (load_at i))) T (k.loads i lt);
        older = λ m lt. sym (same (Kept m)) ∙ k.older m lt;
        newer = λ m lt. sym (same (Kept m)) ∙ k.newer m lt;
        chans = λ i lt. subst (λ (t : ℕ → ℕ). OneParcel x key.0 (k.now i) (claim s.words i) (chan s.words i) t (get_elem? s.homes (parcel_at i))) T (k.chans i lt);
        views = views;
        items = k.items;
        parcels = k.parcels;
        received = λ m done. moved m (k.received m done);
        waits = λ i lt. subst (λ (t : ℕ → ℕ). OneWait (k.now i) (task s.words i) (parked key.0 s.words (k.now i)) t) T (k.waits i lt);
        parks = k.parks;
        retires = λ i lt. subst (λ (t : ℕ → ℕ). TwoFinishers (k.age i) (k.now i) (chan s.words i) (retire s.words i) t) T (k.retires i lt);
        tied = tied;
        rested = rested;
        trace = k.trace;
        runs = k.runs;
        legal = k.legal;
        logs = logs;
        later = later;
      }

  fresh_good : (s : St x key) (k : Rules x key s) (parts : ℕ) (about : List A) → (0 < parts → about ≡ key.2 ∷ []) → GoodView x key.0 k.name key.2 k.now k.age s.words (fresh parts about)
  fresh_good s k parts about program = record { named = λ e i. absurd i; made = λ m i. absurd i; sent = λ m i. absurd i; received = λ by m i. absurd i; kept = λ e i. absurd i; present = λ q m lt has. absurd (omega arith); program = program }

  fresh_tied : (parts : ℕ) (about : List A) → (parts ≡ 0 → fresh {L = L} {A = A} parts about ≡ blank) → Tied x (fresh parts about)
  fresh_tied parts about idle = record { spends = omega arith; idle = idle; receipts = λ by m i. absurd i; kept = λ m load i. absurd i; keeps = λ m has. absurd (omega arith); clears = λ m. (omega arith, omega arith, omega arith); rests = λ m load i. absurd i }

  pub deals_kept : (id : ℕ) (v : View L A) → v.spent + 1 < v.parts → Splits (Rules x key) id v (dealt v) (hand_of v)
  deals_kept id v room s k me =
      let vs : List (View L A) = set s.views id (dealt v) in
      let vs' : List (View L A) = vs ++ hand_of v ∷ [] in
      let same : (f : View L A → ℕ) → f (dealt v) ≡ f v → f (hand_of v) ≡ 0 → total f s.views ≡ total f vs' = λ f e z. omega (arith, total-append f vs (hand_of v ∷ []), total-set f s.views id v (dealt v) me) in
      let old = k.views id v me in
      let tie = k.tied id v me in
      let split : (C : ℕ → View L A → Type 0) → C id (dealt v) → C (length vs) (hand_of v) → ((j : ℕ) (u : View L A) → get_elem? s.views j ≡ some u → C j u) → (j : ℕ) (u : View L A) → get_elem? vs' j ≡ some u → C j u = λ C left right others j u e. ⊎_elim
      (λ t. ⊎_elim (λ (q : (j ≡ id) × (dealt v ≡ u)). subst (λ (z : ℕ × View L A). C z.0 z.1) (λ i. (sym q.0 i, q.1 i)) left) (λ (q : (j ≢ id) × (get_elem? s.views j ≡ some u)). others j u q.1) (at_set s.views id j (dealt v) u t))
      (λ (q : (j ≡ length vs) × (hand_of v ≡ u)). subst (λ (z : ℕ × View L A). C z.0 z.1) (λ i. (sym q.0 i, q.1 i)) right) (at_end vs (hand_of v) u j e) in
      regrouped s k vs' (λ q. same (λ u. count q u.marks) refl refl) (omega (arith, k.draws, same (λ u. u.spent) refl refl)) (omega (arith, k.parts, total-append (λ u. u.parts) vs (hand_of v ∷ []), total-set (λ u. u.parts) s.views id v (dealt v) me))
      (split (λ j u. GoodView x key.0 k.name key.2 k.now k.age s.words u) record { named = old.named; made = old.made; sent = old.sent; received = old.received; kept = old.kept; present = old.present; program = λ h. old.program (omega arith) } (fresh_good s k 1 v.about (λ h. old.program (omega arith))) k.views)
      (λ m was. ⊎_elim (λ t. inl (t.0, t.1, t.2, at_longer vs (hand_of v ∷ []) t.0 t.1 t.3, t.4)) (λ t. inr t) (receipts_stay x key s id v (dealt v) s.homes me (λ by i r. r) (λ j item there. there) m was))
      (split (λ j u. Tied x u) record { spends = omega (arith, tie.spends); idle = λ z. absurd (omega arith); receipts = tie.receipts; kept = tie.kept; keeps = tie.keeps; clears = tie.clears; rests = tie.rests } (fresh_tied 1 v.about (λ z. absurd (omega arith))) k.tied)
      (λ j u m load e. split (λ j' u'. In (m, load) u'.resting → get_elem? s.homes (load_at (cell key.0 m)) ≡ load_in load) (λ r. k.rested id v m load me r) (λ r. absurd r) (λ j' u' e' r. k.rested j' u' m load e' r) j u e)
      (split (λ j u. 0 < u.parts → own j k.trace ≡ u.log) (λ h. k.logs id v me (omega arith)) (λ h. k.later (length vs) (omega (arith, length-set s.views id (dealt v)))) k.logs)
      (λ j far. k.later j (omega (arith, length-append vs (hand_of v ∷ []), length-set s.views id (dealt v))))

  count_both : (q : ℕ) (v w : View L A) → count q (both v w).marks ≡ count q v.marks + count q w.marks
  count_both q v w = total-append (one q) v.marks w.marks

  -- a kept load of one hand got nothing that another hand has
  not_theirs : (s : St x key) (k : Rules x key s) (i j : ℕ) (v w : View L A) → i ≢ j → get_elem? s.views i ≡ some v → get_elem? s.views j ≡ some w → (m : ℕ) → 0 < count (Kept m) v.marks → 0 < count (InHand m) w.marks + count (Lifted m) w.marks + count (Kept m) w.marks → ⊥
  not_theirs s k i j v w ne ei ej m kept holds =
      let c : ℕ = cell key.0 m in
      let within : c < key.0 = cell_below key.0 m k.small.0 in
      let a = two_terms (λ (z : View L A). count (Kept m) z.marks) s.views i j v w ne ei ej in
      let b2 = term_le (λ (z : View L A). count (InHand m) z.marks) s.views j w ej in
      let b3 = term_le (λ (z : View L A). count (Lifted m) z.marks) s.views j w ej in
      dite (ℕ_discrete (k.now c) m)
      (λ is. let g = loads_of x key s k c m within is in dite (ℕ_discrete (task s.words c) (RUNNING m)) (λ e. omega (arith, g.running e)) (λ n. omega (arith, g.resting n)))
      (λ n. dite (ℕ_discrete (count (InHand m) w.marks) 0)
      (λ z2. dite (ℕ_discrete (count (Lifted m) w.marks) 0)
      (λ z3. dite (dec_le m (k.now c)) (λ le. omega (arith, k.older m (omega arith))) (λ gt. omega (arith, k.newer m (omega arith))))
      (λ n3. n (present x key s k j w ej 3 m (omega arith) (omega arith))))
      (λ n2. n (present x key s k j w ej 2 m (omega arith) (omega arith))))

  both_tied : (s : St x key) (k : Rules x key s) (i j : ℕ) (v w : View L A) → i ≢ j → get_elem? s.views i ≡ some v → get_elem? s.views j ≡ some w → 0 < v.parts → Tied x (both v w)
  both_tied s k i j v w ne ei ej live =
      let a = k.tied i v ei in
      let b = k.tied j w ej in
      record {
        spends = omega (arith, a.spends, b.spends);
        idle = λ z. absurd (omega arith);
        receipts = λ by m r. ⊎_elim (λ l. omega (arith, a.receipts by m l, count_both (InHand by) v w, count_both (Lifted by) v w, count_both (Kept by) v w)) (λ l. omega (arith, b.receipts by m l, count_both (InHand by) v w, count_both (Lifted by) v w, count_both (Kept by) v w)) (In-append (by, m) v.receipts w.receipts r);
        kept = λ m load r. ⊎_elim
            (λ l. let t = a.kept m load l in (t.0, t.1, omega (arith, t.2, count_both (Kept m) v w), λ q in-both. ⊎_elim (λ mine. t.3 q mine) (λ other. absurd (not_theirs s k i j v w ne ei ej m t.2 (b.receipts m q other))) (In-append (m, q) v.receipts w.receipts in-both)))
            (λ l. let t = b.kept m load l in (t.0, t.1, omega (arith, t.2, count_both (Kept m) v w), λ q in-both. ⊎_elim (λ other. absurd (not_theirs s k j i w v (λ e. ne (sym e)) ej ei m t.2 (a.receipts m q other))) (λ mine. t.3 q mine) (In-append (m, q) v.receipts w.receipts in-both)))
            (In-append (m, load) v.kept w.kept r);
        keeps = λ m has. dite (ℕ_discrete (count (Kept m) v.marks) 0) (λ z. let t = b.keeps m (omega (arith, count_both (Kept m) v w)) in (t.0, In-right (m, t.0) v.kept w.kept t.1)) (λ nz. let t = a.keeps m (omega arith) in (t.0, In-left (m, t.0) v.kept w.kept t.1));
        clears = λ m. let t = a.clears m in let u = b.clears m in (omega (arith, t.0, u.0, count_both (ClaimCleared m) v w, count_both (Free m) v w), omega (arith, t.1, u.1, count_both (ChanCleared m) v w, count_both (Free m) v w), omega (arith, t.2, u.2, count_both (Reopening m) v w, count_both (Free m) v w));
        rests = λ m load r. ⊎_elim (λ l. let t = a.rests m load l in (t.0, omega (arith, t.1, count_both (Parking m) v w))) (λ l. let t = b.rests m load l in (t.0, omega (arith, t.1, count_both (Parking m) v w))) (In-append (m, load) v.resting w.resting r);
      }

  pub joins_kept : (id : ℕ) (v : View L A) (other : ℕ) (w : View L A) → 0 < v.parts → Joins (Rules x key) id v other w (both v w) blank
  joins_kept id v other w live s k me ne them =
      let vs : List (View L A) = set s.views id (both v w) in
      let vs' : List (View L A) = set vs other blank in
      let was : get_elem? s.views other ≡ some w = sym (set_else s.views id other (both v w) ne) ∙ them in
      let same : (f : View L A → ℕ) → f (both v w) ≡ f v + f w → f blank ≡ 0 → total f s.views ≡ total f vs' = λ f e z. omega (arith, total-set f vs other w blank them, total-set f s.views id v (both v w) me) in
      let a = k.views id v me in
      let b = k.views other w was in
      let here : get_elem? vs' id ≡ some (both v w) = set_else vs other id blank (λ e. ne (sym e)) ∙ at_place s.views id v (both v w) me in
      let split : (C : ℕ → View L A → Type 0) → C id (both v w) → C other blank → ((j : ℕ) (u : View L A) → get_elem? s.views j ≡ some u → C j u) → (j : ℕ) (u : View L A) → get_elem? vs' j ≡ some u → C j u = λ C left right others j u e. ⊎_elim
      (λ (q : (j ≡ other) × (blank ≡ u)). subst (λ (z : ℕ × View L A). C z.0 z.1) (λ i. (sym q.0 i, q.1 i)) right)
      (λ (t : (j ≢ other) × (get_elem? vs j ≡ some u)). ⊎_elim (λ (q : (j ≡ id) × (both v w ≡ u)). subst (λ (z : ℕ × View L A). C z.0 z.1) (λ i. (sym q.0 i, q.1 i)) left) (λ (q : (j ≢ id) × (get_elem? s.views j ≡ some u)). others j u q.1) (at_set s.views id j (both v w) u t.1)) (at_set vs other j blank u e) in
      regrouped s k vs' (λ q. same (λ u. count q u.marks) (count_both q v w) refl) (omega (arith, k.draws, same (λ u. u.spent) refl refl)) (omega (arith, k.parts, same (λ u. u.parts) refl refl))
      (split (λ j u. GoodView x key.0 k.name key.2 k.now k.age s.words u)
      record {
        named = λ e i. ⊎_elim (λ l. a.named e l) (λ r. b.named e r) (In-append e v.names w.names i);
        made = λ e i. ⊎_elim (λ l. a.made e l) (λ r. b.made e r) (In-append e v.made w.made i);
        sent = λ e i. ⊎_elim (λ l. a.sent e l) (λ r. b.sent e r) (In-append e v.sends w.sends i);
        received = λ by m i. ⊎_elim (λ l. a.received by m l) (λ r. b.received by m r) (In-append (by, m) v.receipts w.receipts i);
        kept = λ e i. ⊎_elim (λ l. a.kept e l) (λ r. b.kept e r) (In-append e v.kept w.kept i);
        present = λ q m lt has. dite (ℕ_discrete (count (mark q m) v.marks) 0) (λ z. b.present q m lt (omega (arith, count_both (mark q m) v w))) (λ nz. a.present q m lt (omega arith));
        program = λ h. a.program live;
      } (fresh_good s k 0 [] (λ h. absurd (omega arith))) k.views)
      (λ m was-m. ⊎_elim
      (λ t. dite (ℕ_discrete t.0 id)
      (λ e. let is : v ≡ t.1 = some-injective v t.1 (sym me ∙ (ap (λ j. get_elem? s.views j) (sym e) ∙ t.3)) in inl (id, both v w, t.2, here, In-left (t.2, m) v.receipts w.receipts (subst (λ (u : View L A). In (t.2, m) u.receipts) (sym is) t.4)))
      (λ ne-id. dite (ℕ_discrete t.0 other)
      (λ e. let is : w ≡ t.1 = some-injective w t.1 (sym was ∙ (ap (λ j. get_elem? s.views j) (sym e) ∙ t.3)) in inl (id, both v w, t.2, here, In-right (t.2, m) v.receipts w.receipts (subst (λ (u : View L A). In (t.2, m) u.receipts) (sym is) t.4)))
      (λ ne-other. inl (t.0, t.1, t.2, set_else vs other t.0 blank ne-other ∙ (set_else s.views id t.0 (both v w) ne-id ∙ t.3), t.4))))
      (λ t. inr t) was-m)
      (split (λ j u. Tied x u) (both_tied s k id other v w (λ e. ne (sym e)) me was live) (fresh_tied 0 [] (λ z. refl)) k.tied)
      (λ j u m load e. split (λ j' u'. In (m, load) u'.resting → get_elem? s.homes (load_at (cell key.0 m)) ≡ load_in load) (λ r. ⊎_elim (λ l. k.rested id v m load me l) (λ l. k.rested other w m load was l) (In-append (m, load) v.resting w.resting r)) (λ r. absurd r) (λ j' u' e' r. k.rested j' u' m load e' r) j u e)
      (split (λ j u. 0 < u.parts → own j k.trace ≡ u.log) (λ h. k.logs id v me live) (λ h. absurd (omega arith)) k.logs)
      (λ j far. k.later j (omega (arith, length-set vs other blank, length-set s.views id (both v w))))

  all_vacant : (n i : ℕ) → i < n → get_elem? (map some (replicate {A = Held L P} n None)) i ≡ some (some None)
  all_vacant zero i h = absurd (omega arith)
  all_vacant (suc n) zero h = refl
  all_vacant (suc n) (suc i) h = all_vacant n i (omega arith)

  none_there : (n i : ℕ) (item : _) → get_elem? (map some (replicate {A = Held L P} n None)) i ≡ some (some (Some item)) → ⊥
  none_there zero i item e = cc
  none_there (suc n) zero item e = cc
  none_there (suc n) (suc i) item e = none_there n i item e

  only_one : (a u : View L A) (j : ℕ) → get_elem? (a ∷ []) j ≡ some u → a ≡ u
  only_one a u zero e = some-injective a u e
  only_one a u (suc j) e = absurd (some-ne-none u (sym e))

  -- the words at the start, by their places
  pub record Starts (n : ℕ) (ws : List ℕ) : Type 0 where
    pub long : length ws ≡ 1 + 4 * n
    pub drawn : get_or ws 0 0 ≡ 0
    pub tasks : (i : ℕ) → i < n → task ws i ≡ UNMADE
    pub claims : (i : ℕ) → i < n → claim ws i ≡ FREE i
    pub chans : (i : ℕ) → i < n → chan ws i ≡ EMPTY i
    pub retires : (i : ℕ) → i < n → retire ws i ≡ 0

  pub starts_kept : 0 < key.0 → key.0 ≤ 1048576 → 0 < key.1 → key.1 ≤ 64 → (ws : List ℕ) → ws ≡ words_at_start key.0 → Starts key.0 ws → Rules x key (opening ws (replicate (2 * key.0) None) (fresh key.1 (key.2 ∷ [])))
  starts_kept some-cells small some-hands many ws is z =
      let n : ℕ = 2 * key.0 in
      let v : View L A = fresh key.1 (key.2 ∷ []) in
      let tall : length (map some (replicate {A = Held L P} n None)) ≡ n = length-map (replicate {A = Held L P} n None) some ∙ length-replicate n None in
      let unmade : (m : ℕ) → task ws (cell key.0 m) ≡ UNMADE = λ m. z.tasks (cell key.0 m) (cell_below key.0 m some-cells) in
      let here : (i : ℕ) → i < key.0 → cell key.0 i ≡ i = λ i lt. cell_small key.0 i lt in
      let none : (q : ℕ) → tally (v ∷ []) q ≡ 0 = λ q. omega arith in record {
        name = λ i. [];
        now = λ i. i;
        age = λ i. 0;
        whole = λ i. omega arith;
        placed = here;
        low = λ i lt. omega arith;
        wide = z.long;
        tall = tall;
        small = (some-cells, omega arith);
        draws = omega (arith, z.drawn);
        parts = omega arith;
        loads = λ i lt. record {
          unmade = λ _. refl;
          carried = λ ne. absurd (ne (z.tasks i lt));
          fresh = λ _. (z.tasks i lt, omega arith);
          owed = λ l. absurd (omega (arith, z.drawn));
          begun = λ ne. absurd (ne (z.tasks i lt));
          running = λ e. absurd (omega (arith, z.tasks i lt));
          resting = λ _. omega arith;
          stored = λ ne. absurd (ne (z.tasks i lt));
          vacant = λ _ _. all_vacant n (load_at i) (omega arith);
          vacated = λ e. absurd (omega (arith, z.tasks i lt));
          away = λ l. absurd (omega arith);
          reopens = λ l. absurd (omega arith);
        };
        older = λ m lt. absurd (old_start key.0 m some-cells lt);
        newer = λ m lt. none (Kept m);
        chans = λ i lt. record {
          claim_word = λ _ ne. absurd (ne (z.claims i lt));
          chan_word = λ _ ne. (omega (arith, z.chans i lt), omega (arith, z.chans i lt));
          unclaimed = λ _ _. ((λ e. omega (arith, z.chans i lt)), λ e. omega (arith, z.chans i lt));
          unsent = λ l. absurd (omega arith);
          sent = λ _ e. absurd (omega (arith, z.claims i lt));
          once = omega arith;
          claim_stays = λ e. absurd (omega arith);
          claim_cleared = λ l. absurd (omega arith);
          chan_stays = λ e. absurd (omega arith);
          chan_cleared = λ l. absurd (omega arith);
          full = λ e. absurd (omega (arith, z.chans i lt));
          vacant = λ _ _. all_vacant n (parcel_at i) (omega arith);
          away = λ l. absurd (omega arith);
        };
        views = λ j u e. subst (λ (u' : View L A). GoodView x key.0 (λ i. []) key.2 (λ i. i) (λ i. 0) ws u') (only_one v u j e) record { named = λ e' i. absurd i; made = λ m i. absurd i; sent = λ m i. absurd i; received = λ by m i. absurd i; kept = λ e' i. absurd i; present = λ q m lt has. absurd (omega arith); program = λ _. refl };
        items = λ j load e. absurd (none_there n j (Load load) e);
        parcels = λ j parcel e. absurd (none_there n j (Parcel parcel) e);
        received = λ m done. absurd (⊎_elim (λ e. omega (arith, z.chans (cell key.0 m) (cell_below key.0 m some-cells))) (λ t. ⊎_elim (λ f. omega (arith, f.1, z.retires (cell key.0 m) (cell_below key.0 m some-cells))) (λ lt. old_start key.0 m some-cells lt) t) done);
        waits = λ i lt. record { waiting = λ e. absurd (omega (arith, z.tasks i lt)); awake = λ _. omega (arith, none-below (λ c. one (PARKED i) (chan ws c)) key.0 (λ c l. one_other (PARKED i) (chan ws c) (λ e. omega (arith, z.chans c l)))) };
        parks = λ c j lt e. absurd (omega (arith, z.chans c lt));
        retires = λ i lt. record {
          receivers = 0;
          counted = omega (arith, z.retires i lt);
          once = omega arith;
          free = λ e. absurd (omega arith);
          bound = λ _. omega arith;
          right = λ _ e. absurd (omega (arith, z.chans i lt));
          none = λ _. omega arith;
          used = λ e. absurd (omega arith);
          done = λ e. absurd (omega arith);
        };
        tied = λ j u e. subst (λ (u' : View L A). Tied x u') (only_one v u j e) (fresh_tied key.1 (key.2 ∷ []) (λ e'. absurd (omega arith)));
        rested = λ j u m load e r. absurd (subst (λ (u' : View L A). In (m, load) u'.resting) (sym (only_one v u j e)) r);
        trace = [];
        runs = is;
        legal = tt;
        logs = λ j u e live. ap (λ (u' : View L A). u'.log) (only_one v u j e);
        later = λ j far. refl;
      }
