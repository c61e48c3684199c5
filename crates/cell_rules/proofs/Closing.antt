-- What stands at home once one hand stands for all, and has nothing in hand.
use Rattle.std.proofs.Common.{◌≡◌, ◌≢◌, ◌⊎◌, ℕ, zero, suc, ◌*◌, ◌<◌, List, [], ◌∷◌, length, set, sym, ap, ◌∙◌, subst, inl, inr, ⊎_elim, arith, Some, None}
use mathlib.Core.Logic.{dite}
use native.Mathlib.Decide.{ℕ_discrete}
use mathlib.Core.Option.{some, some-injective, some-ne-none}
use lib.ListN.{get_elem?}
use Rattle.atomic_table.proofs.Lists.{at_set, set_else}
use Rattle.cell_rules.specs.declared.item.Item.TheVariants.{Load, Parcel}
use Rattle.cell_rules.specs.declared.view.View.{View}
use Rattle.cell_rules.specs.Lists.{total, count, In}
use Rattle.cell_rules.specs.Words.{cell, load_at, parcel_at, task, chan, FULL, RUNNING}
use Rattle.cell_rules.specs.Marks.{mark, Opening, InHand, Lifted, Reopening, Claimed, Picking, Kept}
use Rattle.cell_rules.specs.Rule.{Means, Held, GoodLoad, GoodParcel, Received, Made, Sent, tally, Rules}
use Rattle.cell_rules.specs.Words.{UNMADE}
use Rattle.cell_rules.specs.Rule.{blank}
use Rattle.cell_rules.specs.Closing.{loads_in, parcels_in, HasNothing, Among, AtRest}
use Rattle.std.proofs.Common.{◌/◌}
use Rattle.cell_rules.proofs.Totals.{total-set, term_le, none_in}
use Rattle.cell_rules.proofs.Turns.{St}
use Rattle.cell_rules.proofs.Still.{cell_below, loads_of, chans_of}
use Rattle.cell_rules.proofs.Claims.{full_chan}

module _ {L P : Type 0} where
  abbrev held_load : L → Held L P
  held_load load = Some (Load load)

  abbrev held_parcel : P → Held L P
  held_parcel parcel = Some (Parcel parcel)

  at_loads : (xs : List (Held L P)) (i : ℕ) (load : L) → get_elem? xs i ≡ some (Some (Load load)) → In load (loads_in xs)
  at_loads [] i load e = absurd (some-ne-none _ (sym e))
  at_loads (None ∷ xs) zero load e = let bad : None ≡ Some (Load load) = some-injective _ _ e in absurd cc
  at_loads (None ∷ xs) (suc i) load e = at_loads xs i load e
  at_loads (Some (Load y) ∷ xs) zero load e = let same : held_load y ≡ held_load load = some-injective _ _ e in inl (let one-load : load ≡ y = cc in one-load)
  at_loads (Some (Load y) ∷ xs) (suc i) load e = inr (at_loads xs i load e)
  at_loads (Some (Parcel y) ∷ xs) zero load e = let bad : Some (Parcel y) ≡ Some (Load load) = some-injective _ _ e in absurd cc
  at_loads (Some (Parcel y) ∷ xs) (suc i) load e = at_loads xs i load e

  at_parcels : (xs : List (Held L P)) (i : ℕ) (parcel : P) → get_elem? xs i ≡ some (Some (Parcel parcel)) → In parcel (parcels_in xs)
  at_parcels [] i parcel e = absurd (some-ne-none _ (sym e))
  at_parcels (None ∷ xs) zero parcel e = let bad : None ≡ Some (Parcel parcel) = some-injective _ _ e in absurd cc
  at_parcels (None ∷ xs) (suc i) parcel e = at_parcels xs i parcel e
  at_parcels (Some (Load y) ∷ xs) zero parcel e = let bad : Some (Load y) ≡ Some (Parcel parcel) = some-injective _ _ e in absurd cc
  at_parcels (Some (Load y) ∷ xs) (suc i) parcel e = at_parcels xs i parcel e
  at_parcels (Some (Parcel y) ∷ xs) zero parcel e = let same : held_parcel y ≡ held_parcel parcel = some-injective _ _ e in inl (let one-parcel : parcel ≡ y = cc in one-parcel)
  at_parcels (Some (Parcel y) ∷ xs) (suc i) parcel e = inr (at_parcels xs i parcel e)

  loads_at : (xs : List (Held L P)) (load : L) → In load (loads_in xs) → (i : ℕ) × (get_elem? xs i ≡ some (Some (Load load))) × (i < length xs)
  loads_at [] load h = absurd h
  loads_at (None ∷ xs) load h = let t = loads_at xs load h in (suc t.0, t.1, omega (arith, t.2))
  loads_at (Some (Load y) ∷ xs) load h = ⊎_elim (λ e. (0, ap (λ (z : L). some (held_load z)) (sym e), omega arith)) (λ t. let u = loads_at xs load t in (suc u.0, u.1, omega (arith, u.2))) h
  loads_at (Some (Parcel y) ∷ xs) load h = let t = loads_at xs load h in (suc t.0, t.1, omega (arith, t.2))

  parcels_at : (xs : List (Held L P)) (parcel : P) → In parcel (parcels_in xs) → (i : ℕ) × (get_elem? xs i ≡ some (Some (Parcel parcel))) × (i < length xs)
  parcels_at [] parcel h = absurd h
  parcels_at (None ∷ xs) parcel h = let t = parcels_at xs parcel h in (suc t.0, t.1, omega (arith, t.2))
  parcels_at (Some (Load y) ∷ xs) parcel h = let t = parcels_at xs parcel h in (suc t.0, t.1, omega (arith, t.2))
  parcels_at (Some (Parcel y) ∷ xs) parcel h = ⊎_elim (λ e. (0, ap (λ (z : P). some (held_parcel z)) (sym e), omega arith)) (λ t. let u = parcels_at xs parcel t in (suc u.0, u.1, omega (arith, u.2))) h

module _ {L P A : Type 0} (x : Means L P A) (key : ℕ × ℕ × A) where
  -- every other view is of a joined hand
  pub others_blank : (s : St x key) (k : Rules x key s) (id : ℕ) (v : View L A) → get_elem? s.views id ≡ some v → v.parts ≡ key.1 → (j : ℕ) (u : View L A) → j ≢ id → get_elem? s.views j ≡ some u → u ≡ blank
  others_blank s k id v me all j u ne there =
      let vs : List (View L A) = set s.views id blank in
      let parts : total (λ (z : View L A). z.parts) vs ≡ 0 = omega (arith, total-set (λ (z : View L A). z.parts) s.views id v blank me, k.parts) in
      (k.tied j u there).idle (omega (arith, term_le (λ (z : View L A). z.parts) vs j u (set_else s.views id j blank ne ∙ there)))

  pub alone : (s : St x key) (k : Rules x key s) (id : ℕ) (v : View L A) → get_elem? s.views id ≡ some v → v.parts ≡ key.1 → (q : ℕ) → tally s.views q ≡ count q v.marks
  alone s k id v me all q =
      let vs : List (View L A) = set s.views id blank in
      let rest : total (λ (z : View L A). count q z.marks) vs ≡ 0 = none_in (λ (z : View L A). count q z.marks) vs (λ j u e. ⊎_elim (λ (t : (j ≡ id) × (blank ≡ u)). ap (λ (z : View L A). count q z.marks) (sym t.1))
      (λ (t : (j ≢ id) × (get_elem? s.views j ≡ some u)). ap (λ (z : View L A). count q z.marks) (others_blank s k id v me all j u t.0 t.1)) (at_set s.views id j blank u e)) in
      omega (arith, total-set (λ (z : View L A). count q z.marks) s.views id v blank me)

  -- each slot is at home
  all_home : (s : St x key) (k : Rules x key s) (id : ℕ) (v : View L A) → get_elem? s.views id ≡ some v → v.parts ≡ key.1 → HasNothing v → (p : ℕ) → p < 2 * key.0 → (y : Held L P) × (get_elem? s.homes p ≡ some (some y))
  all_home s k id v me all idle p lt =
      let i : ℕ = p / 2 in
      let near : i < key.0 = omega arith in
      let m : ℕ = k.now i in
      let none : (q : ℕ) → q < 9 → tally s.views (mark q m) ≡ 0 = λ q small. alone s k id v me all (mark q m) ∙ idle q m small in
      let e1 : tally s.views (Opening m) ≡ 0 = none 1 (omega arith) in
      let e3 : tally s.views (Lifted m) ≡ 0 = none 3 (omega arith) in
      let e4 : tally s.views (Reopening m) ≡ 0 = none 4 (omega arith) in
      let e5 : tally s.views (Claimed m) ≡ 0 = none 5 (omega arith) in
      let e6 : tally s.views (Picking m) ≡ 0 = none 6 (omega arith) in
      let l = k.loads i near in
      let g = k.chans i near in
      dite (ℕ_discrete p (load_at i))
      (λ e. subst (λ z. (y : Held L P) × (get_elem? s.homes z ≡ some (some y))) (sym e)
      (dite (ℕ_discrete (task s.words i) UNMADE) (λ z. (None, l.vacant z e1)) (λ nz. dite (ℕ_discrete (task s.words i) (RUNNING m)) (λ z. (None, l.vacated z (omega arith))) (λ nr. let h = l.stored nz nr in (Some (Load h.0), h.1)))))
      (λ ne. let odd : p ≡ parcel_at i = omega arith in subst (λ z. (y : Held L P) × (get_elem? s.homes z ≡ some (some y))) (sym odd)
      (dite (ℕ_discrete (chan s.words i) (FULL m)) (λ z. let h = g.full z in (Some (Parcel h.0), h.1)) (λ nz. (None, g.vacant nz (omega arith)))))

  pub at_rest : (s : St x key) (k : Rules x key s) (id : ℕ) (v : View L A) → get_elem? s.views id ≡ some v → v.parts ≡ key.1 → 0 < v.parts → HasNothing v → (xs : List (Held L P)) → length s.homes ≡ length xs → ((p : ℕ) (y : Held L P) → get_elem? s.homes p ≡ some (some y) → get_elem? xs p ≡ some y)
      → AtRest x key.2 v (loads_in xs) (parcels_in xs)
  at_rest s k id v me all live idle xs long shown =
      let good = k.views id v me in
      let tie = k.tied id v me in
      -- what is in a slot is at home
      let home : (p : ℕ) (y : Held L P) → get_elem? xs p ≡ some y → p < length xs → get_elem? s.homes p ≡ some (some y) = λ p y e lt.
      let h = all_home s k id v me all idle p (omega (arith, long, k.tall)) in
      let same : h.0 ≡ y = some-injective h.0 y (sym (shown p h.0 h.1) ∙ e) in h.1 ∙ ap (λ (z : Held L P). some (some z)) same in
      let good-load : (load : L) → Among (loads_in xs) v load → GoodLoad x key.0 k.name key.2 k.now k.age s.words load = λ load where-is. ⊎_elim (λ h. let t = loads_at xs load h in k.items t.0 load (home t.0 (Some (Load load)) t.1 t.2)) (λ t. good.kept (t.0, load) t.1) where-is in
      let good-parcel : (parcel : P) → In parcel (parcels_in xs) → GoodParcel x key.0 k.name key.2 k.now k.age s.words parcel = λ parcel h. let t = parcels_at xs parcel h in k.parcels t.0 parcel (home t.0 (Some (Parcel parcel)) t.1 t.2) in
      let kept-one : (m : ℕ) → 0 < tally s.views (Kept m) → (load : L) × Among (loads_in xs) v load × (x.number load ≡ m) = λ m has. let t = tie.keeps m (omega (arith, alone s k id v me all (Kept m))) in (t.0, inr (m, t.1), (tie.kept m t.0 t.1).0) in
      let found : (m : ℕ) → Made key.0 k.now s.words m → (load : L) × Among (loads_in xs) v load × (x.number load ≡ m) = λ m made.
      let c : ℕ = cell key.0 m in
      let within : c < key.0 = cell_below key.0 m k.small.0 in
      dite (ℕ_discrete (k.now c) m)
      (λ is. let l = loads_of x key s k c m within is in dite (ℕ_discrete (task s.words c) (RUNNING m))
      (λ runs. kept-one m (omega (arith, l.running runs, alone s k id v me all (InHand m), idle 2 m (omega arith), alone s k id v me all (Lifted m), idle 3 m (omega arith))))
      (λ rests. let h = l.stored made.1 rests in (h.0, inl (at_loads xs (load_at c) h.0 (shown (load_at c) (Some (Load h.0)) h.1)), h.2)))
      (λ ne. kept-one m (omega (arith, k.older m (omega (arith, made.0))))) in
      let met : (m : ℕ) → Received x s.homes s.views m → (other : L) × Among (loads_in xs) v other × In m (x.received other) = λ m was. ⊎_elim
      (λ t. dite (ℕ_discrete t.0 id)
      (λ e. let same : t.1 ≡ v = some-injective t.1 v (sym t.3 ∙ (ap (λ j. get_elem? s.views j) e ∙ me)) in
      let in-v : In (t.2, m) v.receipts = subst (λ (u : View L A). In (t.2, m) u.receipts) same t.4 in
      let holds = tie.receipts t.2 m in-v in
      let kept = tie.keeps t.2 (omega (arith, holds, idle 2 t.2 (omega arith), idle 3 t.2 (omega arith))) in
      (kept.0, inr (t.2, kept.1), (tie.kept t.2 kept.0 kept.1).3 m in-v))
      (λ ne. absurd (subst (λ (u : View L A). In (t.2, m) u.receipts) (others_blank s k id v me all t.0 t.1 ne t.3) t.4)))
      (λ t. (t.1, inl (at_loads xs t.0 t.1 (shown t.0 (Some (Load t.1)) t.2)), t.3)) was in
      let arrives : (m : ℕ) → Sent key.0 k.now k.age s.words m → ((parcel : P) × In parcel (parcels_in xs) × (x.channel parcel ≡ m)) ⊎ ((other : L) × Among (loads_in xs) v other × In m (x.received other)) = λ m sent. ⊎_elim
      (λ full. let c : ℕ = cell key.0 m in
      let within : c < key.0 = cell_below key.0 m k.small.0 in
      let h = (chans_of x key s k c m within (full_chan x key s k c m within full).0).full full in
      inl (h.0, at_parcels xs (parcel_at c) h.0 (shown (parcel_at c) (Some (Parcel h.0)) h.1), h.2))
      (λ done. inr (met m (k.received m done))) sent in record {
        name = k.name;
        names = λ e i. (good.named e i).0;
        mentions = λ load where-is e i. ((good-load load where-is).named e i).0;
        tells = λ parcel h e i. ((good-parcel parcel h).named e i).0;
        program = λ load where-is. (good-load load where-is).program;
        origin = λ parcel h. (good-parcel parcel h).program;
        made = λ m i. found m (good.made m i);
        forked = λ load where-is m i. found m ((good-load load where-is).forked m i);
        received = λ load where-is m i. found m ((good-load load where-is).received m i);
        sent = λ load where-is m i. arrives m ((good-load load where-is).sent m i);
      }
