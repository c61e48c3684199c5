-- The claim step, and the clearing of the claim word, keep the rule.
use Rattle.std.proofs.Common.{◌≡◌, ◌≢◌, ◌⊎◌, ℕ, ◌+◌, ◌<◌, ◌≤◌, List, ◌∷◌, length, get_or, set, sym, refl, ap, ◌∙◌, subst, inl, inr, ⊎_elim, arith, length-set, None}
use mathlib.Core.Logic.{dite}
use native.Mathlib.Decide.{ℕ_discrete, dec_le}
use mathlib.Core.Option as maybe
use mathlib.Core.Option.{some, some-injective, some-ne-none}
use lib.ListN.{get_elem?}
use Rattle.atomic_table.proofs.Lists.{set_else}
use Rattle.cell_rules.specs.declared.view.View.{View}
use Rattle.cell_rules.specs.Lists.{below, count, In}
use Rattle.cell_rules.specs.Words.{cell, claim_at, load_at, parcel_at, task, claim, chan, FREE, EMPTY, FULL, RUNNING}
use Rattle.cell_rules.specs.Marks.{mark, Claimed, Picking, Free, ClaimCleared, ChanCleared, Kept}
use Rattle.cell_rules.specs.Table.{IsStep}
use Rattle.cell_rules.specs.Rule.{Means, Held, GoodLoad, Tied, Made, Sent, tally, load_in, parcel_in, Rules}
use prog.Atomic.{either}
use Rattle.std.proofs.Common.{eqb, ◌/◌}
use Rattle.atomic_table.specs.Table.{Act, keeps, takes, Valid, Me, step, Allows, stepped, carried_after}
use Rattle.atomic_table.proofs.Lists.{exchanged}
use Rattle.cell_rules.specs.Words.{BY}
use Rattle.cell_rules.specs.Table.{clear_claim}
use Rattle.cell_rules.specs.Table.{claim as step_claim}
use Rattle.cell_rules.specs.Plays.{noted, claiming, clearing_claim, wakes, claims, sends, clears_claim}
use Rattle.cell_rules.specs.Asks.{Names}
use Rattle.cell_rules.proofs.Totals.{more_here, two_terms}
use Rattle.cell_rules.proofs.Turns.{St, Homes, at_place, Grows}
use Rattle.cell_rules.proofs.Still.{cell_below, present, has_some, loads_of, chans_of, retires_of, resting_home, receipts_stay, shelf_stays}
use Rattle.cell_rules.proofs.Tasks.{Shift}
use Rattle.cell_rules.proofs.Tallies.{gain_other, gains_tally, tied_on, tied_calm}
use Rattle.cell_rules.proofs.Totals.{none_in}
use Rattle.cell_rules.proofs.Channels.{at_claim}
use Rattle.cell_rules.proofs.Fetches.{unmoved}

module _ {L P A : Type 0} (x : Means L P A) (key : ℕ × ℕ × A) where
  -- a number that is not above the present one and stands in a claim word, a channel word as empty, or as full, is the present one of a cell that is not free
  pub open_claim : (s : St x key) (k : Rules x key s) (c m : ℕ) → c < key.0 → m ≤ k.now c → claim s.words c ≡ FREE m → (k.now c ≡ m) × (tally s.views (Free m) ≡ 0)
  open_claim s k c m within le hit =
      let p : ℕ = k.now c in
      let g = k.chans c within in
      let some-cells : 0 < key.0 = omega arith in
      let found : (p ≡ m) × (tally s.views (Free p) ≡ 0) = dite (ℕ_discrete (tally s.views (Free p)) 0)
      (λ z. dite (ℕ_discrete (claim s.words c) (FREE p)) (λ e. (omega arith, z)) (λ ne. absurd (omega (arith, g.claim_word z ne))))
      (λ nz. dite (ℕ_discrete (tally s.views (ClaimCleared p)) 0) (λ z. absurd (omega (arith, g.claim_stays (omega (arith, g.once)) z))) (λ nc. absurd (omega (arith, (g.claim_cleared (omega arith)).2)))) in
      (found.0, ap (λ z. tally s.views (Free z)) (sym found.0) ∙ found.1)

  pub open_chan : (s : St x key) (k : Rules x key s) (c m : ℕ) → c < key.0 → m ≤ k.now c → chan s.words c ≡ EMPTY m → (k.now c ≡ m) × (tally s.views (Free m) ≡ 0)
  open_chan s k c m within le hit =
      let p : ℕ = k.now c in
      let g = k.chans c within in
      let some-cells : 0 < key.0 = omega arith in
      let found : (p ≡ m) × (tally s.views (Free p) ≡ 0) = dite (ℕ_discrete (tally s.views (Free p)) 0)
      (λ z. let w = g.chan_word z (λ e. omega arith) in (omega (arith, w.0, w.1), z))
      (λ nz. dite (ℕ_discrete (tally s.views (ChanCleared p)) 0) (λ z. absurd (omega (arith, g.chan_stays (omega (arith, g.once)) z))) (λ nc. absurd (omega (arith, (g.chan_cleared (omega arith)).2)))) in
      (found.0, ap (λ z. tally s.views (Free z)) (sym found.0) ∙ found.1)

  pub full_chan : (s : St x key) (k : Rules x key s) (c m : ℕ) → c < key.0 → chan s.words c ≡ FULL m → (k.now c ≡ m) × (tally s.views (Free m) ≡ 0)
  full_chan s k c m within hit =
      let p : ℕ = k.now c in
      let g = k.chans c within in
      let found : (p ≡ m) × (tally s.views (Free p) ≡ 0) = dite (ℕ_discrete (tally s.views (Free p)) 0)
      (λ z. let w = g.chan_word z (λ e. omega arith) in (omega (arith, w.0, w.1), z))
      (λ nz. dite (ℕ_discrete (tally s.views (ChanCleared p)) 0) (λ z. absurd (omega (arith, g.chan_stays (omega (arith, g.once)) z))) (λ nc. absurd (omega (arith, (g.chan_cleared (omega arith)).2)))) in
      (found.0, ap (λ z. tally s.views (Free z)) (sym found.0) ∙ found.1)

  -- what only the hand of a free cell has, and this hand has not, no hand has
  pub only_where : (s : St x key) (id : ℕ) (v : View L A) → get_elem? s.views id ≡ some v → (q m : ℕ) → ((j : ℕ) (u : View L A) → get_elem? s.views j ≡ some u → count q u.marks ≤ count (Free m) u.marks) → tally s.views (Free m) ≤ 1 → 0 < count (Free m) v.marks → count q v.marks ≡ 0 → tally s.views q ≡ 0
  only_where s id v at q m below once has none = none_in (λ (u : View L A). count q u.marks) s.views (λ j u there. dite (ℕ_discrete j id)
      (λ e. let same : v ≡ u = some-injective v u (sym at ∙ (ap (λ i. get_elem? s.views i) (sym e) ∙ there)) in ap (λ (z : View L A). count q z.marks) (sym same) ∙ none)
      (λ ne. omega (arith, below j u there, two_terms (λ (z : View L A). count (Free m) z.marks) s.views j id u v ne there at)))

  -- a load is kept once at most, and where a cell is free both finishers have retired
  pub kept_once : (s : St x key) (k : Rules x key s) (c m : ℕ) → c < key.0 → k.now c ≡ m → tally s.views (Kept m) ≤ 1
  kept_once s k c m within is = let g = loads_of x key s k c m within is in dite (ℕ_discrete (task s.words c) (RUNNING m)) (λ e. omega (arith, g.running e)) (λ ne. omega (arith, g.resting ne))

  pub free_both : (s : St x key) (k : Rules x key s) (c m : ℕ) (within : c < key.0) (is : k.now c ≡ m) → 0 < tally s.views (Free m) → ((retires_of x key s k c m within is).receivers ≡ 1) × (tally s.views (Kept m) ≡ 1)
  free_both s k c m within is has = let f = retires_of x key s k c m within is in let once = kept_once s k c m within is in
      dite (dec_le 2 (f.receivers + tally s.views (Kept m))) (λ le. (omega (arith, f.once), omega (arith, f.once))) (λ lt. absurd (omega (arith, f.bound (omega arith))))

  -- a step on a word of a cell that leaves the slots of loads
  pub calm_shift : (s : St x key) (k : Rules x key s) (id : ℕ) (v w : View L A) → get_elem? s.views id ≡ some v → 0 < v.parts → (c m p y : ℕ) (hs : Homes x key) → c < key.0 → k.now c ≡ m
      → w.parts ≡ v.parts → w.spent ≡ v.spent → w.about ≡ v.about → w.log ≡ (p, get_or s.words p 0, y) ∷ v.log → IsStep key.0 record { seat = id; word = p; found = get_or s.words p 0; left = y } → length hs ≡ length s.homes
      → ((q j : ℕ) → q < 14 → q ≢ 7 → q ≢ 8 → j ≢ m → count (mark q j) w.marks ≡ count (mark q j) v.marks)
      → ((q j : ℕ) → (q ≡ 7) ⊎ (q ≡ 8) → j ≢ m → 0 < count (mark q j) w.marks → (0 < count (mark q j) v.marks) ⊎ (k.now (cell key.0 j) ≡ j))
      → (Grows x key k.name k.name k.now k.age k.now k.age s.words (set s.words p y) → (e : ℕ × List ℕ) → In e w.names → In e v.names ⊎ ((k.name e.0 ≡ e.1) × Made key.0 k.now (set s.words p y) e.0))
      → w.made ≡ v.made → ((i : ℕ) → In i w.sends → In i v.sends ⊎ Sent key.0 k.now k.age (set s.words p y) i)
      → (Grows x key k.name k.name k.now k.age k.now k.age s.words (set s.words p y) → (by i : ℕ) → In (by, i) w.receipts → In (by, i) v.receipts ⊎ Made key.0 k.now (set s.words p y) i)
      → (Grows x key k.name k.name k.now k.age k.now k.age s.words (set s.words p y) → (e : ℕ × L) → In e w.kept → In e v.kept ⊎ GoodLoad x key.0 k.name key.2 k.now k.age (set s.words p y) e.1)
      → Tied x w → ((by i : ℕ) → In (by, i) v.receipts → In (by, i) w.receipts) → ((j : ℕ) (load : L) → get_elem? s.homes j ≡ load_in load → get_elem? hs j ≡ load_in load) → ((i : ℕ) → get_elem? hs (load_at i) ≡ get_elem? s.homes (load_at i))
      → ((i : ℕ) (load : L) → In (i, load) w.resting → In (i, load) v.resting)
      → Shift x key s k id v w p y hs k.name c m
  calm_shift s k id v w me live c m p y hs within is parts spent about log row tall others wakes names made sends receives kept tied receipts stays shelf rests = record {
    me = me;
    live = live;
    within = within;
    is = is;
    parts = parts;
    spent = spent;
    about = about;
    log = log;
    step = row;
    tall = tall;
    others = others;
    wakes = wakes;
    names = names;
    makes = λ i h. inl (subst (λ l. In i l) made h);
    sends = λ grows. sends;
    receives = receives;
    keeps = kept;
    tied = tied;
    moved = receipts_stay x key s id v w hs me receipts stays;
    shelf = λ i ne. shelf i;
    quiet = inl (shelf c);
    rests = λ i item r. resting_home x key s k id v me c m within is hs (λ j ne. shelf j) i item (rests i item r) (inl (shelf c));
  }

  pub claims_kept : (slots id : ℕ) (me : Me (Held L P) (View L A)) (m by : ℕ) → 0 < me.0.parts → Names me.0 m
      → Allows (Rules x key) slots id me (claim_at (cell key.0 m)) (λ n. either (eqb n (FREE m)) (BY by) n) (claims (step slots (claim_at (cell key.0 m)) (FREE m) (BY by) maybe.none) me)
  claims_kept slots id me m by live knows s k wide at fits =
      let m0 : View L A = me.0 in
      let c : ℕ = cell key.0 m in
      let t : ℕ = claim s.words c in
      let within : c < key.0 = cell_below key.0 m k.small.0 in
      let made = ((k.views id m0 at).named (m, knows.0) knows.1).1 in
      let play : ℕ → Me (Held L P) (View L A) → Type 0 = claims (step slots (claim_at c) (FREE m) (BY by) maybe.none) me in
      let G = λ (n : ℕ). (w : View L A) × (a : Act (Held L P)) × Valid s.homes me.1 a × Rules x key (stepped s (claim_at c) n id me.1 w a) × play t (w, carried_after me.1 a) in
      exchanged t (FREE m) (BY by) G
      (λ hit. let found = open_claim s k c m within made.0 hit in
      let is = found.0 in
      let not-free = found.1 in
      let g = chans_of x key s k c m within is in
      let f = retires_of x key s k c m within is in
      let unclaimed = g.unclaimed not-free hit in
      let none-claims : tally s.views (Claimed m) ≡ 0 = dite (ℕ_discrete (tally s.views (Claimed m)) 0) (λ z. z) (λ ne. absurd (omega (arith, (g.unsent (omega arith)).2))) in
      let none-picks = f.none unclaimed.1 in
      let home = g.vacant unclaimed.0 (omega arith) in
      let none-cleared : tally s.views (ClaimCleared m) ≡ 0 = dite (ℕ_discrete (tally s.views (ClaimCleared m)) 0) (λ z. z) (λ ne. absurd (omega (arith, (g.claim_cleared (omega arith)).0))) in
      let none-cleared' : tally s.views (ChanCleared m) ≡ 0 = dite (ℕ_discrete (tally s.views (ChanCleared m)) 0) (λ z. z) (λ ne. absurd (omega (arith, (g.chan_cleared (omega arith)).0))) in
      let w : View L A = noted (claim_at c) t (BY by) (claiming m m0) in
      let marks : (q j : ℕ) → q < 14 → (j ≢ m) ⊎ (q ≢ 5) → count (mark q j) w.marks ≡ count (mark q j) m0.marks = λ q j small which. gain_other q j 5 m m0.marks (omega arith) (omega arith) which in
      let hs : Homes x key = set s.homes (parcel_at c) maybe.none in
      let gone : get_elem? hs (parcel_at c) ≡ some maybe.none = at_place s.homes (parcel_at c) (some None) maybe.none home in
      let tie = k.tied id m0 at in (
        w,
        takes (parcel_at c) None,
        home,
        at_claim x key s k id m0 w c m (BY by) hs record {
          shift = calm_shift s k id m0 w at live c m (claim_at c) (BY by) hs within is refl refl refl refl (inr (step_claim, m, (refl, hit, (by, refl)))) (length-set s.homes (parcel_at c) maybe.none)
              (λ q j small seven eight ne. marks q j small (inl ne)) (λ q j which ne h. inl (omega (arith, marks q j (⊎_elim (λ e. omega arith) (λ e. omega arith) which) (inl ne))))
              (λ grows e i. inl i) refl (λ i h. inl h) (λ grows by i h. inl h) (λ grows e i. inl i)
              (tied_calm x m0 w tie live tie.spends refl refl refl (λ j. omega (arith, marks 2 j (omega arith) (inr (λ e. omega arith)), marks 3 j (omega arith) (inr (λ e. omega arith))))
              (λ q j which. marks q j (⊎_elim (λ e. omega arith) (λ z. omega arith) which) (inr (λ e. ⊎_elim (λ f. omega arith) (λ z. omega arith) which)))
              (λ j. omega (arith, marks 4 j (omega arith) (inr (λ e. omega arith)), (tie.clears j).2)))
              (λ by i r. r) (shelf_stays x key s.homes (parcel_at c) (some None) maybe.none home (λ l e. cc)) (λ i. set_else s.homes (parcel_at c) (load_at i) maybe.none (λ e. omega arith)) (λ i item r. r);
          calm = λ q small five eleven. marks q m small (inr five);
          awake = λ q j which ne. marks q j (⊎_elim (λ e. omega arith) (λ e. omega arith) which) (inl ne);
          chan = λ T after. let u = gains_tally x key s.views m0 w T after (Claimed m) refl in
              let e5 : T (Claimed m) ≡ tally s.views (Claimed m) + 1 = u.0 in
              let e6 : T (Picking m) ≡ tally s.views (Picking m) = u.1 (Picking m) (λ e. omega arith) in
              let e10 : T (Free m) ≡ tally s.views (Free m) = u.1 (Free m) (λ e. omega arith) in
              let e11 : T (ClaimCleared m) ≡ tally s.views (ClaimCleared m) = u.1 (ClaimCleared m) (λ e. omega arith) in
              let e12 : T (ChanCleared m) ≡ tally s.views (ChanCleared m) = u.1 (ChanCleared m) (λ e. omega arith) in
              record {
                claim_word = λ z ne. omega arith;
                chan_word = λ z. g.chan_word not-free;
                unclaimed = λ z e. absurd (omega arith);
                unsent = λ _. (omega arith, omega arith, omega arith, unclaimed.0, unclaimed.1);
                sent = λ z c e. absurd (omega arith);
                once = omega arith;
                claim_stays = λ e. absurd (omega arith);
                claim_cleared = λ lt. absurd (omega arith);
                chan_stays = λ e. absurd (omega arith);
                chan_cleared = λ lt. absurd (omega arith);
                full = λ e. absurd (unclaimed.0 e);
                vacant = λ _ e. absurd (omega arith);
                away = λ _. gone;
              };
          places = λ j ne. set_else s.homes (parcel_at c) j maybe.none ne;
          no_load = λ item e. let bad : some maybe.none ≡ load_in {P = P} item = sym gone ∙ e in cc;
          no_parcel = λ item e. let bad : some maybe.none ≡ parcel_in {L = L} item = sym gone ∙ e in cc;
        },
        λ n i ns word. let n-is : key.0 ≡ n = omega (arith, k.tall) in let same : m ≡ i = omega arith in
            ((λ _ q. (noted (claim_at c) t (BY by) (claiming (same q) m0), (parcel_at (cell (n-is q) (same q)), None) ∷ me.1)), λ ne. absurd (ne (hit ∙ ap FREE same))),
      ))
      (λ miss. (noted (claim_at c) t t m0, keeps, tt, unmoved x key s k id me at live (claim_at c), λ n i ns word. let same : m ≡ i = omega arith in ((λ e. absurd (miss (e ∙ ap FREE (sym same)))), λ _. refl)))

  pub clears_claim_kept : (slots id : ℕ) (me : Me (Held L P) (View L A)) (m : ℕ) → 0 < me.0.parts → 0 < count (Free m) me.0.marks → count (ClaimCleared m) me.0.marks ≡ 0
      → Allows (Rules x key) slots id me (claim_at (cell key.0 m)) (λ _. FREE (m + key.0)) (clears_claim (step slots (claim_at (cell key.0 m)) (FREE (m + key.0)) 0 maybe.none) me)
  clears_claim_kept slots id me m live has fresh s k wide at fits =
      let m0 : View L A = me.0 in
      let c : ℕ = cell key.0 m in
      let t : ℕ = claim s.words c in
      let within : c < key.0 = cell_below key.0 m k.small.0 in
      let is : k.now c ≡ m = present x key s k id m0 at 10 m (omega arith) has in
      let some-have : 0 < tally s.views (Free m) = has_some x key s id m0 at (Free m) has in
      let g = chans_of x key s k c m within is in
      let none-yet = only_where s id m0 at (ClaimCleared m) m (λ j u there. ((k.tied j u there).clears m).0) g.once has fresh in
      let claimed = g.claim_stays (omega (arith, g.once)) none-yet in
      let freed = g.once in
      let w : View L A = noted (claim_at c) t (FREE (m + key.0)) (clearing_claim m m0) in
      let marks : (q j : ℕ) → q < 14 → (j ≢ m) ⊎ (q ≢ 11) → count (mark q j) w.marks ≡ count (mark q j) m0.marks = λ q j small which. gain_other q j 11 m m0.marks (omega arith) (omega arith) which in
      let tie = k.tied id m0 at in
      let none-claims : tally s.views (Claimed m) ≡ 0 = dite (ℕ_discrete (tally s.views (Claimed m)) 0) (λ z. z) (λ ne. absurd (omega (arith, (g.unsent (omega arith)).1))) in
      let f = retires_of x key s k c m within is in
      let not-full : chan s.words c ≢ FULL m = λ e. dite (ℕ_discrete (tally s.views (ChanCleared m)) 0) (λ z. omega (arith, g.chan_stays (omega arith) z)) (λ nz. omega (arith, (g.chan_cleared (omega arith)).2)) in
      let both-done = free_both s k c m within is (omega arith) in
      let picks = f.used both-done.0 in
      let home = g.vacant not-full (omega arith) in (
        w,
        keeps,
        tt,
        at_claim x key s k id m0 w c m (FREE (m + key.0)) s.homes record {
          shift = calm_shift s k id m0 w at live c m (claim_at c) (FREE (m + key.0)) s.homes within is refl refl refl refl (inr (clear_claim, m, (refl, (t / 2, omega arith), refl))) refl
              (λ q j small seven eight ne. marks q j small (inl ne)) (λ q j which ne h. inl (omega (arith, marks q j (⊎_elim (λ e. omega arith) (λ e. omega arith) which) (inl ne))))
              (λ grows e i. inl i) refl (λ i h. inl h) (λ grows by i h. inl h) (λ grows e i. inl i)
              (tied_on x m0 w tie live tie.spends
              (λ by i r. omega (arith, tie.receipts by i r, marks 2 by (omega arith) (inr (λ e. omega arith)), marks 3 by (omega arith) (inr (λ e. omega arith)), marks 13 by (omega arith) (inr (λ e. omega arith))))
              (λ by i r h. r) refl (λ j. marks 13 j (omega arith) (inr (λ e. omega arith)))
              (λ j. let z = tie.clears j in let free : count (Free j) w.marks ≡ count (Free j) m0.marks = marks 10 j (omega arith) (inr (λ e. omega arith)) in (
                dite (ℕ_discrete j m) (λ e. subst (λ i. count (ClaimCleared i) w.marks ≤ count (Free i) w.marks) (sym e) (omega (arith, more_here (ClaimCleared m) m0.marks, marks 10 m (omega arith) (inr (λ e. omega arith))))) (λ ne. omega (arith, z.0, free, marks 11 j (omega arith) (inl ne))),
                omega (arith, z.1, free, marks 12 j (omega arith) (inr (λ e. omega arith))),
                omega (arith, z.2, free, marks 4 j (omega arith) (inr (λ e. omega arith))),
              ))
              (λ j item r. let z = tie.rests j item r in (z.0, omega (arith, z.1, marks 7 j (omega arith) (inr (λ e. omega arith))))))
              (λ by i r. r) (λ j item there. there) (λ i. refl) (λ i item r. r);
          calm = λ q small five eleven. marks q m small (inr eleven);
          awake = λ q j which ne. marks q j (⊎_elim (λ e. omega arith) (λ e. omega arith) which) (inl ne);
          chan = λ T after. let u = gains_tally x key s.views m0 w T after (ClaimCleared m) refl in
              let e5 : T (Claimed m) ≡ tally s.views (Claimed m) = u.1 (Claimed m) (λ e. omega arith) in
              let e6 : T (Picking m) ≡ tally s.views (Picking m) = u.1 (Picking m) (λ e. omega arith) in
              let e10 : T (Free m) ≡ tally s.views (Free m) = u.1 (Free m) (λ e. omega arith) in
              let e11 : T (ClaimCleared m) ≡ tally s.views (ClaimCleared m) + 1 = u.0 in
              let e12 : T (ChanCleared m) ≡ tally s.views (ChanCleared m) = u.1 (ChanCleared m) (λ e. omega arith) in
              record {
                claim_word = λ z. absurd (omega arith);
                chan_word = λ z. absurd (omega arith);
                unclaimed = λ z. absurd (omega arith);
                unsent = λ lt. absurd (omega arith);
                sent = λ z. absurd (omega arith);
                once = omega arith;
                claim_stays = λ e z. absurd (omega arith);
                claim_cleared = λ _. (omega arith, omega arith, refl);
                chan_stays = λ e z. g.chan_stays (omega arith) (omega arith);
                chan_cleared = λ lt. let z = g.chan_cleared (omega arith) in (omega (arith, z.0), omega (arith, z.1), z.2);
                full = λ e. absurd (not-full e);
                vacant = λ ne z. home;
                away = λ lt. absurd (omega arith);
              };
          places = λ j ne. refl;
          no_load = λ item e. let bad : some (some None) ≡ load_in {P = P} item = sym home ∙ e in cc;
          no_parcel = λ item e. let bad : some (some None) ≡ parcel_in {L = L} item = sym home ∙ e in cc;
        },
        (λ n i ns word. let n-is : key.0 ≡ n = omega (arith, k.tall) in let same : m ≡ i = omega arith in λ q. (noted (claim_at c) t (FREE (m + key.0)) (clearing_claim (same q) m0), me.1)),
      )
