-- What a step of one seat leaves as it was.
use Rattle.std.proofs.Common.{◌≡◌, ◌≢◌, ◌⊎◌, ℕ, ◌+◌, ◌<◌, ◌≤◌, List, get_or, set, sym, refl, ap, ◌∙◌, subst, inl, inr, ⊎_elim, arith, Some}
use mathlib.Core.Logic.{dite}
use native.Mathlib.Decide.{ℕ_discrete}
use mathlib.Core.Option as maybe
use mathlib.Core.Option.{some, some-injective, some-ne-none}
use lib.ListN.{get_elem?}
use Rattle.atomic_table.proofs.Lists.{set_else}
use Rattle.cell_rules.specs.declared.item.Item.TheVariants.{Load}
use Rattle.cell_rules.specs.declared.view.View.{View}
use Rattle.cell_rules.specs.Lists.{count, In}
use Rattle.cell_rules.specs.Words.{cell, load_at, parcel_at, task, claim, chan, retire, FULL, DONE, WAITING}
use Rattle.cell_rules.specs.Marks.{mark, Drawn, Opening, InHand, Lifted, Reopening, Claimed, Picking, Parking, Waking, Right, Free, ClaimCleared, ChanCleared, Kept}
use Rattle.cell_rules.specs.Rule.{Means, Held, Home, OneLoad, OneParcel, OneWait, TwoFinishers, Received, Made, Freed, Done, Sent, parked, tally, load_in, Rules}
use Rattle.std.proofs.Math.Nat.{mod-eq_of_lt, add-mod_right}
use Rattle.std.proofs.lemmas.Nat.{mod_below}
use Rattle.atomic_table.proofs.Lists.{one_turn}
use Rattle.cell_rules.proofs.Totals.{term_le}
use Rattle.cell_rules.proofs.Turns.{St, Homes, After, at_place}

pub cell_below : (n m : ℕ) → 0 < n → cell n m < n
unfolding cell
cell_below n m h = mod_below m n h

pub cell_small : (n i : ℕ) → i < n → cell n i ≡ i
unfolding cell
cell_small n i h = mod-eq_of_lt h

pub cell_next : (n m : ℕ) → cell n (m + n) ≡ cell n m
unfolding cell
cell_next n m = add-mod_right m n

-- two numbers of one cell that lie less than a table apart are one
pub one_cell : (n a b : ℕ) → cell n a ≡ cell n b → a ≤ b → b < a + n → a ≡ b
unfolding cell
one_cell n a b e le lt = one_turn a b n le lt e

-- T' has each mark of the number m as often as T, those of parking and waking aside; or those of the load; or those of the claim, the parcel and the retiring
abbrev pub Same : ℕ → (ℕ → ℕ) → (ℕ → ℕ) → Type 0
Same m T T' = (q : ℕ) → q < 14 → q ≢ 7 → q ≢ 8 → T' (mark q m) ≡ T (mark q m)

abbrev pub SameLoads : ℕ → (ℕ → ℕ) → (ℕ → ℕ) → Type 0
SameLoads m T T' = (q : ℕ) → (q < 5) ⊎ (q ≡ 13) → T' (mark q m) ≡ T (mark q m)

abbrev pub SameChans : ℕ → (ℕ → ℕ) → (ℕ → ℕ) → Type 0
SameChans m T T' = (q : ℕ) → 5 ≤ q → q < 14 → q ≢ 7 → q ≢ 8 → T' (mark q m) ≡ T (mark q m)

pub same_loads : (m : ℕ) (T T' : ℕ → ℕ) → Same m T T' → SameLoads m T T'
same_loads m T T' same q which = same q (⊎_elim (λ lt. omega arith) (λ e. omega arith) which) (λ e. ⊎_elim (λ lt. omega arith) (λ f. omega arith) which) (λ e. ⊎_elim (λ lt. omega arith) (λ f. omega arith) which)

pub same_chans : (m : ℕ) (T T' : ℕ → ℕ) → Same m T T' → SameChans m T T'
same_chans m T T' same q low high seven eight = same q high seven eight

pub wait_still : (m t p : ℕ) (T T' : ℕ → ℕ) → OneWait m t p T → T' (Parking m) ≡ T (Parking m) → T' (Waking m) ≡ T (Waking m) → OneWait m t p T'
wait_still m t p T T' g e7 e8 = record { waiting = λ e. omega (arith, g.waiting e); awake = λ ne. omega (arith, g.awake ne) }

pub retire_still : (a m h r : ℕ) (T T' : ℕ → ℕ) → TwoFinishers a m h r T → SameChans m T T' → TwoFinishers a m h r T'
retire_still a m h r T T' g same =
    let e6 : T' (Picking m) ≡ T (Picking m) = same 6 (omega arith) (omega arith) (λ e. omega arith) (λ e. omega arith) in
    let e9 : T' (Right m) ≡ T (Right m) = same 9 (omega arith) (omega arith) (λ e. omega arith) (λ e. omega arith) in
    let e10 : T' (Free m) ≡ T (Free m) = same 10 (omega arith) (omega arith) (λ e. omega arith) (λ e. omega arith) in
    let e13 : T' (Kept m) ≡ T (Kept m) = same 13 (omega arith) (omega arith) (λ e. omega arith) (λ e. omega arith) in
    let b : ℕ = g.receivers in
    record {
      receivers = b;
      counted = omega (arith, g.counted);
      once = g.once;
      free = λ e. omega (arith, g.free (omega arith));
      bound = λ e. omega (arith, g.bound (omega arith));
      right = λ z e. omega (arith, g.right z e);
      none = λ ne. omega (arith, g.none ne);
      used = λ e. omega (arith, g.used e);
      done = λ e lt. g.done e (omega arith);
    }

module _ {L P A : Type 0} (x : Means L P A) where
  pub load_still : (a i m t : ℕ) (T T' : ℕ → ℕ) (h : Home L P) → OneLoad x a i m t T h → SameLoads m T T' → OneLoad x a i m t T' h
  load_still a i m t T T' h g same =
      let e0 : T' (Drawn m) ≡ T (Drawn m) = same 0 (inl (omega arith)) in
      let e1 : T' (Opening m) ≡ T (Opening m) = same 1 (inl (omega arith)) in
      let e2 : T' (InHand m) ≡ T (InHand m) = same 2 (inl (omega arith)) in
      let e3 : T' (Lifted m) ≡ T (Lifted m) = same 3 (inl (omega arith)) in
      let e4 : T' (Reopening m) ≡ T (Reopening m) = same 4 (inl (omega arith)) in
      let e13 : T' (Kept m) ≡ T (Kept m) = same 13 (inr refl) in
      record {
        unmade = g.unmade;
        carried = g.carried;
        fresh = λ le. ((g.fresh le).0, omega (arith, (g.fresh le).1));
        owed = λ lt z. omega (arith, g.owed lt z);
        begun = λ ne. omega (arith, g.begun ne);
        running = λ e. omega (arith, g.running e);
        resting = λ ne. omega (arith, g.resting ne);
        stored = g.stored;
        vacant = λ e z. g.vacant e (omega arith);
        vacated = λ e z. g.vacated e (omega arith);
        away = λ lt. g.away (omega arith);
        reopens = λ lt. let r = g.reopens (omega arith) in (omega (arith, r.0), omega (arith, r.1));
      }

  pub chan_five : (n m c h : ℕ) (T T' : ℕ → ℕ) (home : Home L P) → OneParcel x n m c h T home → T' (Claimed m) ≡ T (Claimed m) → T' (Picking m) ≡ T (Picking m) → T' (Free m) ≡ T (Free m) → T' (ClaimCleared m) ≡ T (ClaimCleared m) → T' (ChanCleared m) ≡ T (ChanCleared m) → OneParcel x n m c h T' home
  chan_five n m c h T T' home g e5 e6 e10 e11 e12 =
      record {
        claim_word = λ z. g.claim_word (omega arith);
        chan_word = λ z. g.chan_word (omega arith);
        unclaimed = λ z. g.unclaimed (omega arith);
        unsent = λ lt. let u = g.unsent (omega arith) in (omega (arith, u.0), omega (arith, u.1), u.2, u.3, u.4);
        sent = λ z c e. g.sent (omega arith) c (omega arith);
        once = omega (arith, g.once);
        claim_stays = λ e z. g.claim_stays (omega arith) (omega arith);
        claim_cleared = λ lt. let u = g.claim_cleared (omega arith) in (omega (arith, u.0), omega (arith, u.1), u.2);
        chan_stays = λ e z. g.chan_stays (omega arith) (omega arith);
        chan_cleared = λ lt. let u = g.chan_cleared (omega arith) in (omega (arith, u.0), omega (arith, u.1), u.2);
        full = g.full;
        vacant = λ ne z. g.vacant ne (omega arith);
        away = λ lt. g.away (omega arith);
      }

  pub chan_still : (n m c h : ℕ) (T T' : ℕ → ℕ) (home : Home L P) → OneParcel x n m c h T home → SameChans m T T' → OneParcel x n m c h T' home
  chan_still n m c h T T' home g same =
      chan_five n m c h T T' home g (same 5 (omega arith) (omega arith) (λ e. omega arith) (λ e. omega arith)) (same 6 (omega arith) (omega arith) (λ e. omega arith) (λ e. omega arith))
      (same 10 (omega arith) (omega arith) (λ e. omega arith) (λ e. omega arith)) (same 11 (omega arith) (omega arith) (λ e. omega arith) (λ e. omega arith)) (same 12 (omega arith) (omega arith) (λ e. omega arith) (λ e. omega arith))

  -- the same side, of equal words, slots and tallies
  pub load_as : (a i m t : ℕ) (T : ℕ → ℕ) (h : Home L P) (a' m' t' : ℕ) (T' : ℕ → ℕ) (h' : Home L P) → OneLoad x a i m t T h → a ≡ a' → m ≡ m' → t ≡ t' → h ≡ h' → SameLoads m T T' → OneLoad x a' i m' t' T' h'
  load_as a i m t T h a' m' t' T' h' g ea em et eh same = subst (λ (q : ℕ × ℕ × ℕ × Home L P). OneLoad x q.0 i q.1 q.2 T' q.3) (λ z. (ea z, em z, et z, eh z)) (load_still a i m t T T' h g same)

  pub chan_as : (n m c h : ℕ) (T : ℕ → ℕ) (home : Home L P) (m' c' h' : ℕ) (T' : ℕ → ℕ) (home' : Home L P) → OneParcel x n m c h T home → m ≡ m' → c ≡ c' → h ≡ h' → home ≡ home' → SameChans m T T' → OneParcel x n m' c' h' T' home'
  chan_as n m c h T home m' c' h' T' home' g em ec eh e same = subst (λ (q : ℕ × ℕ × ℕ × Home L P). OneParcel x n q.0 q.1 q.2 T' q.3) (λ z. (em z, ec z, eh z, e z)) (chan_still n m c h T T' home g same)

pub retire_as : (a m h r : ℕ) (T : ℕ → ℕ) (a' m' h' r' : ℕ) (T' : ℕ → ℕ) → TwoFinishers a m h r T → a ≡ a' → m ≡ m' → h ≡ h' → r ≡ r' → SameChans m T T' → TwoFinishers a' m' h' r' T'
retire_as a m h r T a' m' h' r' T' g ea em eh er same = subst (λ (q : ℕ × ℕ × ℕ × ℕ). TwoFinishers q.0 q.1 q.2 q.3 T') (λ z. (ea z, em z, eh z, er z)) (retire_still a m h r T T' g same)

-- the same, of the four marks that it speaks of
pub retire_only : (a m h r : ℕ) (T : ℕ → ℕ) (a' m' h' r' : ℕ) (T' : ℕ → ℕ) → TwoFinishers a m h r T → a ≡ a' → m ≡ m' → h ≡ h' → r ≡ r' → T' (Picking m) ≡ T (Picking m) → T' (Right m) ≡ T (Right m) → T' (Free m) ≡ T (Free m) → T' (Kept m) ≡ T (Kept m) → TwoFinishers a' m' h' r' T'
retire_only a m h r T a' m' h' r' T' g ea em eh er e6 e9 e10 e13 = subst (λ (q : ℕ × ℕ × ℕ × ℕ). TwoFinishers q.0 q.1 q.2 q.3 T') (λ z. (ea z, em z, eh z, er z)) (let b : ℕ = g.receivers in
    record {
      receivers = b;
      counted = omega (arith, g.counted);
      once = g.once;
      free = λ e. omega (arith, g.free (omega arith));
      bound = λ e. omega (arith, g.bound (omega arith));
      right = λ z e. omega (arith, g.right z e);
      none = λ ne. omega (arith, g.none ne);
      used = λ e. omega (arith, g.used e);
      done = λ e lt. g.done e (omega arith);
    })

pub wait_as : (m t p : ℕ) (T : ℕ → ℕ) (m' t' p' : ℕ) (T' : ℕ → ℕ) → OneWait m t p T → m ≡ m' → t ≡ t' → p ≡ p' → T' (Parking m) ≡ T (Parking m) → T' (Waking m) ≡ T (Waking m) → OneWait m' t' p' T'
wait_as m t p T m' t' p' T' g em et ep e7 e8 = subst (λ (q : ℕ × ℕ × ℕ). OneWait q.0 q.1 q.2 T') (λ z. (em z, et z, ep z)) (wait_still m t p T T' g e7 e8)

module _ {L P A : Type 0} (x : Means L P A) (key : ℕ × ℕ × A) where
  -- a mark of a view is of the present number of its cell
  pub present : (s : St x key) (k : Rules x key s) (j : ℕ) (u : View L A) → get_elem? s.views j ≡ some u → (q m : ℕ) → q < 13 → 0 < count (mark q m) u.marks → k.now (cell key.0 m) ≡ m
  present s k j u at q m small has = (k.views j u at).present q m small has

  pub has_some : (s : St x key) (j : ℕ) (u : View L A) → get_elem? s.views j ≡ some u → (q : ℕ) → 0 < count q u.marks → 0 < tally s.views q
  has_some s j u at q has = omega (arith, term_le (λ (z : View L A). count q z.marks) s.views j u at)

  -- the sides of a present number
  pub loads_of : (s : St x key) (k : Rules x key s) (c m : ℕ) → c < key.0 → k.now c ≡ m → OneLoad x (get_or s.words 0 0) c m (task s.words c) (tally s.views) (get_elem? s.homes (load_at c))
  loads_of s k c m within is = subst (λ z. OneLoad x (get_or s.words 0 0) c z (task s.words c) (tally s.views) (get_elem? s.homes (load_at c))) is (k.loads c within)

  pub chans_of : (s : St x key) (k : Rules x key s) (c m : ℕ) → c < key.0 → k.now c ≡ m → OneParcel x key.0 m (claim s.words c) (chan s.words c) (tally s.views) (get_elem? s.homes (parcel_at c))
  chans_of s k c m within is = subst (λ z. OneParcel x key.0 z (claim s.words c) (chan s.words c) (tally s.views) (get_elem? s.homes (parcel_at c))) is (k.chans c within)

  pub waits_of : (s : St x key) (k : Rules x key s) (c m : ℕ) → c < key.0 → k.now c ≡ m → OneWait m (task s.words c) (parked key.0 s.words m) (tally s.views)
  waits_of s k c m within is = subst (λ z. OneWait z (task s.words c) (parked key.0 s.words z) (tally s.views)) is (k.waits c within)

  pub retires_of : (s : St x key) (k : Rules x key s) (c m : ℕ) → c < key.0 → k.now c ≡ m → TwoFinishers (k.age c) m (chan s.words c) (retire s.words c) (tally s.views)
  retires_of s k c m within is = subst (λ z. TwoFinishers (k.age c) z (chan s.words c) (retire s.words c) (tally s.views)) is (k.retires c within)

  -- a load that is being parked stays at home, unless the step is at its cell
  pub resting_home : (s : St x key) (k : Rules x key s) (j : ℕ) (u : View L A) → get_elem? s.views j ≡ some u → (c m : ℕ) → c < key.0 → k.now c ≡ m → (hs : Homes x key) → ((i : ℕ) → i ≢ c → get_elem? hs (load_at i) ≡ get_elem? s.homes (load_at i))
      → (i : ℕ) (load : L) → In (i, load) u.resting → (get_elem? hs (load_at c) ≡ get_elem? s.homes (load_at c)) ⊎ (task s.words c ≢ WAITING m) ⊎ (i ≢ m) → get_elem? hs (load_at (cell key.0 i)) ≡ load_in load
  resting_home s k j u at c m within is hs shelf i load rests why =
      let was : get_elem? s.homes (load_at (cell key.0 i)) ≡ load_in load = k.rested j u i load at rests in
      let has = ((k.tied j u at).rests i load rests).1 in
      let now-i : k.now (cell key.0 i) ≡ i = present s k j u at 7 i (omega arith) has in
      let some-have : 0 < tally s.views (Parking i) = has_some s j u at (Parking i) has in
      dite (ℕ_discrete (cell key.0 i) c)
      (λ e. let one-number : i ≡ m = sym now-i ∙ (ap k.now e ∙ is) in
      let side = waits_of s k c m within is in
      let here : tally s.views (Parking i) ≡ tally s.views (Parking m) = ap (λ z. tally s.views (Parking z)) one-number in
      let waits : task s.words c ≡ WAITING m = dite (ℕ_discrete (task s.words c) (WAITING m)) (λ q. q) (λ ne. absurd (omega (arith, side.awake ne))) in
      ⊎_elim (λ same. ap (λ z. get_elem? hs (load_at z)) e ∙ (same ∙ (ap (λ z. get_elem? s.homes (load_at z)) (sym e) ∙ was)))
      (λ r. ⊎_elim (λ ne. absurd (ne waits)) (λ ne. absurd (ne one-number)) r) why)
      (λ ne. shelf (cell key.0 i) ne ∙ was)

  -- a number of another cell is another number
  pub apart : (s : St x key) (k : Rules x key s) (c m i : ℕ) → c < key.0 → k.now c ≡ m → i < key.0 → i ≢ c → k.now i ≢ m
  apart s k c m i within is lt ne e = ne (sym (k.placed i lt) ∙ (ap (cell key.0) (e ∙ sym is) ∙ k.placed c within))

  pub cell_of : (s : St x key) (k : Rules x key s) (c m : ℕ) → c < key.0 → k.now c ≡ m → cell key.0 m ≡ c
  cell_of s k c m within is = ap (cell key.0) (sym is) ∙ k.placed c within

  -- the tally of a mark that the seat has as often as before
  pub after_same : (vs : List (View L A)) (v w : View L A) (T : ℕ → ℕ) → After x key vs v w T → (q : ℕ) → count q w.marks ≡ count q v.marks → T q ≡ tally vs q
  after_same vs v w T after q same = omega (arith, after q)

  pub made_as : (now : ℕ → ℕ) (ws ws' : List ℕ) (m : ℕ) → (task ws (cell key.0 m) ≢ 0 → task ws' (cell key.0 m) ≢ 0) → Made key.0 now ws m → Made key.0 now ws' m
  made_as now ws ws' m same was = (was.0, same was.1)

  pub done_as : (now age : ℕ → ℕ) (ws ws' : List ℕ) (m : ℕ) → (chan ws (cell key.0 m) ≡ DONE m → Done key.0 now age ws' m) → (Freed age ws (cell key.0 m) → Freed age ws' (cell key.0 m)) → Done key.0 now age ws m → Done key.0 now age ws' m
  done_as now age ws ws' m done freed was = ⊎_elim done (λ r. ⊎_elim (λ f. inr (inl (f.0, freed f.1))) (λ lt. inr (inr lt)) r) was

  pub sent_as : (now age : ℕ → ℕ) (ws ws' : List ℕ) (m : ℕ) → (chan ws (cell key.0 m) ≡ FULL m → Sent key.0 now age ws' m) → (chan ws (cell key.0 m) ≡ DONE m → Done key.0 now age ws' m) → (Freed age ws (cell key.0 m) → Freed age ws' (cell key.0 m))
      → Sent key.0 now age ws m → Sent key.0 now age ws' m
  sent_as now age ws ws' m full done freed was = ⊎_elim full (λ d. inr (done_as now age ws ws' m done freed d)) was

  -- receipts stay where they are, or go where the step says
  pub receipts_move : (s : St x key) (id : ℕ) (v w : View L A) (hs : Homes x key) → get_elem? s.views id ≡ some v
      → ((by m : ℕ) → In (by, m) v.receipts → Received x hs (set s.views id w) m) → ((j : ℕ) (load : L) (m : ℕ) → get_elem? s.homes j ≡ load_in load → In m (x.received load) → Received x hs (set s.views id w) m)
      → (m : ℕ) → Received x s.homes s.views m → Received x hs (set s.views id w) m
  receipts_move s id v w hs me mine shelved m was = ⊎_elim
      (λ t. dite (ℕ_discrete t.0 id)
      (λ e. let same : v ≡ t.1 = some-injective v t.1 (sym me ∙ (ap (λ j. get_elem? s.views j) (sym e) ∙ t.3)) in mine t.2 m (subst (λ (u : View L A). In (t.2, m) u.receipts) (sym same) t.4))
      (λ ne. inl (t.0, t.1, t.2, set_else s.views id t.0 w ne ∙ t.3, t.4)))
      (λ t. shelved t.0 t.1 m t.2 t.3) was

  pub receipts_stay : (s : St x key) (id : ℕ) (v w : View L A) (hs : Homes x key) → get_elem? s.views id ≡ some v → ((by m : ℕ) → In (by, m) v.receipts → In (by, m) w.receipts)
      → ((j : ℕ) (load : L) → get_elem? s.homes j ≡ load_in load → get_elem? hs j ≡ load_in load)
      → (m : ℕ) → Received x s.homes s.views m → Received x hs (set s.views id w) m
  receipts_stay s id v w hs me keeps shelf = receipts_move s id v w hs me (λ by m h. inl (id, w, by, at_place s.views id v w me, keeps by m h)) (λ j load m there h. inr (j, load, shelf j load there, h))

  -- where a slot does not hold a load, each load stays at home when the slot is written
  pub shelf_stays : (hs : Homes x key) (p : ℕ) (h z : maybe.Option (Held L P)) → get_elem? hs p ≡ some h → ((load : L) → h ≡ some (Some (Load load)) → ⊥)
      → (j : ℕ) (load : L) → get_elem? hs j ≡ load_in load → get_elem? (set hs p z) j ≡ load_in load
  shelf_stays hs p h z at bars j load there = set_else hs p j z (λ e. bars load (some-injective h (some (Some (Load load))) (sym at ∙ (ap (λ i. get_elem? hs i) (sym e) ∙ there)))) ∙ there
