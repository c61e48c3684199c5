-- A step of one seat, by what it has to show.
use Rattle.std.proofs.Common.{◌≡◌, ◌≢◌, ◌⊎◌, ℕ, zero, suc, ◌+◌, ◌*◌, ◌^◌, ◌<◌, ◌≤◌, List, [], ◌∷◌, length, get_or, set, sym, refl, ap, ◌∙◌, subst, inl, ⊎_elim, arith, cond, eq-eqb, ne_eqb, length-set}
use mathlib.Core.Option as maybe
use mathlib.Core.Option.{some, some-injective, some-ne-none}
use lib.ListN.{get_elem?}
use Rattle.atomic_table.specs.Table.{State}
use Rattle.atomic_table.proofs.Lists.{at_set}
use Rattle.cell_rules.specs.declared.view.View.{View}
use Rattle.cell_rules.specs.Lists.{total, count, In}
use Rattle.cell_rules.specs.Words.{cell, load_at, parcel_at, task, claim, chan, retire, PARKED}
use Rattle.cell_rules.specs.Marks.{mark, Kept}
use Rattle.cell_rules.specs.Table.{Event, own, IsStep}
use Rattle.cell_rules.specs.Rule.{Means, Held, OneLoad, OneParcel, OneWait, TwoFinishers, GoodView, GoodLoad, GoodParcel, Tied, Received, Made, Done, Sent, parked, tally, load_in, parcel_in, Rules}
use Rattle.cell_rules.proofs.Totals.{total-set}

pub at_place : {A : Type 0} (l : List A) (i : ℕ) (a b : A) → get_elem? l i ≡ some a → get_elem? (set l i b) i ≡ some b
at_place [] i a b e = absurd (some-ne-none a (sym e))
at_place (y ∷ ys) zero a b e = refl
at_place (y ∷ ys) (suc i) a b e = at_place ys i a b e

pub at_within : {A : Type 0} (l : List A) (i : ℕ) (a : A) → get_elem? l i ≡ some a → i < length l
at_within [] i a e = absurd (some-ne-none a (sym e))
at_within (y ∷ ys) zero a e = omega arith
at_within (y ∷ ys) (suc i) a e = omega (arith, at_within ys i a e)

pub own_same : (j : ℕ) (e : Event) (es : List Event) → e.seat ≡ j → own j (e ∷ es) ≡ (e.word, e.found, e.left) ∷ own j es
own_same j e es q = ap (λ b. cond b ((e.word, e.found, e.left) ∷ own j es) (own j es)) (eq-eqb e.seat j q)

pub own_other : (j : ℕ) (e : Event) (es : List Event) → e.seat ≢ j → own j (e ∷ es) ≡ own j es
own_other j e es ne = ap (λ b. cond b ((e.word, e.found, e.left) ∷ own j es) (own j es)) (ne_eqb e.seat j ne)

module _ {L P A : Type 0} (x : Means L P A) (key : ℕ × ℕ × A) where
  abbrev pub St : Type 0
  St = State (Held L P) (View L A)

  abbrev pub Homes : Type 0
  Homes = List (maybe.Option (Held L P))

  abbrev pub st : List ℕ → Homes → List (View L A) → St
  st ws hs vs = record { words = ws; homes = hs; views = vs }

  -- T is the tally once the view v became w
  abbrev pub After : List (View L A) → View L A → View L A → (ℕ → ℕ) → Type 0
  After vs v w T = (q : ℕ) → T q + count q v.marks ≡ tally vs q + count q w.marks

  -- what a step has to show: the seat id with the view v becomes w, the word p becomes y, and the slots become hs
  pub record Turn (s : St) (k : Rules x key s) (id : ℕ) (v w : View L A) (p y : ℕ) (hs : Homes) (name' : ℕ → List ℕ) (now' age' : ℕ → ℕ) : Type 0 where
    pub me : get_elem? s.views id ≡ some v
    pub live : 0 < v.parts
    pub parts : w.parts ≡ v.parts
    pub log : w.log ≡ (p, get_or s.words p 0, y) ∷ v.log
    pub step : IsStep key.0 record { seat = id; word = p; found = get_or s.words p 0; left = y }
    pub tall : length hs ≡ length s.homes
    pub whole : (i : ℕ) → now' i ≡ age' i * key.0 + i
    pub placed : (i : ℕ) → i < key.0 → cell key.0 (now' i) ≡ i
    pub low : (i : ℕ) → i < key.0 → now' i ≤ 2 ^ 60
    pub draws : get_or (set s.words p y) 0 0 + v.spent ≤ key.0 + total (λ u. u.spent) s.views + w.spent
    pub loads : (T : ℕ → ℕ) → After s.views v w T → (i : ℕ) → i < key.0 → OneLoad x (get_or (set s.words p y) 0 0) i (now' i) (task (set s.words p y) i) T (get_elem? hs (load_at i))
    pub older : (T : ℕ → ℕ) → After s.views v w T → (m : ℕ) → m < now' (cell key.0 m) → T (Kept m) ≡ 1
    pub newer : (T : ℕ → ℕ) → After s.views v w T → (m : ℕ) → now' (cell key.0 m) < m → T (Kept m) ≡ 0
    pub chans : (T : ℕ → ℕ) → After s.views v w T → (i : ℕ) → i < key.0 → OneParcel x key.0 (now' i) (claim (set s.words p y) i) (chan (set s.words p y) i) T (get_elem? hs (parcel_at i))
    pub waits : (T : ℕ → ℕ) → After s.views v w T → (i : ℕ) → i < key.0 → OneWait (now' i) (task (set s.words p y) i) (parked key.0 (set s.words p y) (now' i)) T
    pub parks : (c j : ℕ) → c < key.0 → chan (set s.words p y) c ≡ PARKED j → now' (cell key.0 j) ≡ j
    pub retires : (T : ℕ → ℕ) → After s.views v w T → (i : ℕ) → i < key.0 → TwoFinishers (age' i) (now' i) (chan (set s.words p y) i) (retire (set s.words p y) i) T
    pub made : (m : ℕ) → Made key.0 k.now s.words m → (k.name m ≡ name' m) × Made key.0 now' (set s.words p y) m
    pub sent : (m : ℕ) → Sent key.0 k.now k.age s.words m → Sent key.0 now' age' (set s.words p y) m
    pub good : GoodView x key.0 name' key.2 now' age' (set s.words p y) w
    pub present : (j : ℕ) (u : View L A) → j ≢ id → get_elem? s.views j ≡ some u → (q m : ℕ) → q < 13 → 0 < count (mark q m) u.marks → now' (cell key.0 m) ≡ m
    pub items : (j : ℕ) (load : L) → get_elem? hs j ≡ load_in load → (get_elem? s.homes j ≡ load_in load) ⊎ GoodLoad x key.0 name' key.2 now' age' (set s.words p y) load
    pub parcels : (j : ℕ) (parcel : P) → get_elem? hs j ≡ parcel_in parcel → (get_elem? s.homes j ≡ parcel_in parcel) ⊎ GoodParcel x key.0 name' key.2 now' age' (set s.words p y) parcel
    pub received : (m : ℕ) → Done key.0 now' age' (set s.words p y) m → Received x hs (set s.views id w) m
    pub tied : Tied x w
    pub rested : (j : ℕ) (u : View L A) (m : ℕ) (load : L) → get_elem? (set s.views id w) j ≡ some u → In (m, load) u.resting → get_elem? hs (load_at (cell key.0 m)) ≡ load_in load

  -- what was known is still so
  pub record Grows (name name' : ℕ → List ℕ) (now age now' age' : ℕ → ℕ) (ws ws' : List ℕ) : Type 0 where
    pub made : (m : ℕ) → Made key.0 now ws m → (name m ≡ name' m) × Made key.0 now' ws' m
    pub sent : (m : ℕ) → Sent key.0 now age ws m → Sent key.0 now' age' ws' m

  module _ (name name' : ℕ → List ℕ) (now age now' age' : ℕ → ℕ) (ws ws' : List ℕ) (g : Grows name name' now age now' age' ws ws') where
    pub named_on : (e : ℕ × List ℕ) → (name e.0 ≡ e.1) × Made key.0 now ws e.0 → (name' e.0 ≡ e.1) × Made key.0 now' ws' e.0
    named_on e h = let t = g.made e.0 h.1 in (sym t.0 ∙ h.0, t.1)

    pub load_on : (load : L) → GoodLoad x key.0 name key.2 now age ws load → GoodLoad x key.0 name' key.2 now' age' ws' load
    load_on load good = record {
      named = λ e h. named_on e (good.named e h);
      forked = λ m h. (g.made m (good.forked m h)).1;
      sent = λ m h. g.sent m (good.sent m h);
      received = λ m h. (g.made m (good.received m h)).1;
      program = good.program;
    }

    pub parcel_on : (parcel : P) → GoodParcel x key.0 name key.2 now age ws parcel → GoodParcel x key.0 name' key.2 now' age' ws' parcel
    parcel_on parcel good = record { named = λ e h. named_on e (good.named e h); program = good.program }

    -- a view that knows what it knew, and new facts
    pub view_on : (v w : View L A) → GoodView x key.0 name key.2 now age ws v
        → ((e : ℕ × List ℕ) → In e w.names → In e v.names ⊎ ((name' e.0 ≡ e.1) × Made key.0 now' ws' e.0)) → ((m : ℕ) → In m w.made → In m v.made ⊎ Made key.0 now' ws' m)
        → ((m : ℕ) → In m w.sends → In m v.sends ⊎ Sent key.0 now' age' ws' m) → ((by m : ℕ) → In (by, m) w.receipts → In (by, m) v.receipts ⊎ Made key.0 now' ws' m) → ((e : ℕ × L) → In e w.kept → In e v.kept ⊎ GoodLoad x key.0 name' key.2 now' age' ws' e.1)
        → w.parts ≡ v.parts → w.about ≡ v.about → ((q m : ℕ) → q < 13 → 0 < count (mark q m) w.marks → now' (cell key.0 m) ≡ m)
        → GoodView x key.0 name' key.2 now' age' ws' w
    view_on v w good names made sends receipts kept parts about present = record {
      named = λ e h. ⊎_elim (λ old. named_on e (good.named e old)) (λ new. new) (names e h);
      made = λ m h. ⊎_elim (λ old. (g.made m (good.made m old)).1) (λ new. new) (made m h);
      sent = λ m h. ⊎_elim (λ old. g.sent m (good.sent m old)) (λ new. new) (sends m h);
      received = λ by m h. ⊎_elim (λ old. (g.made m (good.received by m old)).1) (λ new. new) (receipts by m h);
      kept = λ e h. ⊎_elim (λ old. load_on e.1 (good.kept e old)) (λ new. new) (kept e h);
      present = present;
      program = λ some-parts. about ∙ good.program (omega arith);
    }

  -- the rule after the step
  pub rebuilt : (s : St) (k : Rules x key s) (id : ℕ) (v w : View L A) (p y : ℕ) (hs : Homes) (name' : ℕ → List ℕ) (now' age' : ℕ → ℕ) → Turn s k id v w p y hs name' now' age' → Rules x key (st (set s.words p y) hs (set s.views id w))
  rebuilt s k id v w p y hs name' now' age' t =
      let ws : List ℕ = set s.words p y in
      let vs : List (View L A) = set s.views id w in
      let e : Event = record { seat = id; word = p; found = get_or s.words p 0; left = y } in
      let after : After s.views v w (tally vs) = λ q. total-set (λ u. count q u.marks) s.views id v w t.me in
      let grows : Grows k.name name' k.now k.age now' age' s.words ws = record { made = t.made; sent = t.sent } in
      record {
        name = name';
        now = now';
        age = age';
        whole = t.whole;
        placed = t.placed;
        low = t.low;
        wide = length-set s.words p y ∙ k.wide;
        tall = t.tall ∙ k.tall;
        small = k.small;
        draws = omega (arith, t.draws, total-set (λ u. u.spent) s.views id v w t.me);
        parts = omega (arith, k.parts, t.parts, total-set (λ u. u.parts) s.views id v w t.me);
        loads = t.loads (tally vs) after;
        older = t.older (tally vs) after;
        newer = t.newer (tally vs) after;
        chans = t.chans (tally vs) after;
        views = λ j u at. ⊎_elim (λ (q : (j ≡ id) × (w ≡ u)). subst (λ (z : View L A). GoodView x key.0 name' key.2 now' age' ws z) q.1 t.good)
            (λ (q : (j ≢ id) × (get_elem? s.views j ≡ some u)). view_on k.name name' k.now k.age now' age' s.words ws grows u u (k.views j u q.1) (λ e h. inl h) (λ m h. inl h) (λ m h. inl h) (λ by m h. inl h) (λ e h. inl h) refl refl (t.present j u q.0 q.1)) (at_set s.views id j w u at);
        items = λ j load at. ⊎_elim (λ old. load_on k.name name' k.now k.age now' age' s.words ws grows load (k.items j load old)) (λ new. new) (t.items j load at);
        parcels = λ j parcel at. ⊎_elim (λ old. parcel_on k.name name' k.now k.age now' age' s.words ws grows parcel (k.parcels j parcel old)) (λ new. new) (t.parcels j parcel at);
        received = t.received;
        waits = t.waits (tally vs) after;
        parks = t.parks;
        retires = t.retires (tally vs) after;
        tied = λ j u at. ⊎_elim (λ (q : (j ≡ id) × (w ≡ u)). subst (λ (z : View L A). Tied x z) q.1 t.tied) (λ (q : (j ≢ id) × (get_elem? s.views j ≡ some u)). k.tied j u q.1) (at_set s.views id j w u at);
        rested = t.rested;
        trace = e ∷ k.trace;
        runs = ap (λ l. set l p y) k.runs;
        legal = (ap (λ l. get_or l p 0) k.runs, t.step, k.legal);
        logs = λ j u at live. ⊎_elim
            (λ (q : (j ≡ id) × (w ≡ u)). own_same j e k.trace (sym q.0) ∙ (ap (λ l. (p, get_or s.words p 0, y) ∷ l) (ap (λ i. own i k.trace) q.0 ∙ k.logs id v t.me t.live) ∙ (sym t.log ∙ ap (λ (z : View L A). z.log) q.1)))
            (λ (q : (j ≢ id) × (get_elem? s.views j ≡ some u)). own_other j e k.trace (λ z. q.0 (sym z)) ∙ k.logs j u q.1 live) (at_set s.views id j w u at);
        later = λ j far. let near : id < length s.views = at_within s.views id v t.me in own_other j e k.trace (λ q. omega (arith, length-set s.views id w)) ∙ k.later j (omega (arith, length-set s.views id w));
      }
