-- A forest stays one where edges move from one holder to another, as the steps of a task move them.
use Rattle.std.proofs.Common.{◌≡◌, ℕ, suc, zero, ◌+◌, ◌≤◌, ◌≢◌, Bool, true, false, cond, not, ◌&&◌, List, [], ◌∷◌, map, refl, ap, sym, arith, filter}
use Rattle.std.proofs.lemmas.Bool.{false_from_ne_true}
use Rattle.graphs.specs.Graph.{count, degree}
use Rattle.graphs.proofs.Counts.{Within, count-map, count_cases, count-filter, count_and_le, nil_from_count, cond_not, count_split}

map_none : {X Y : Type 0} (f : X → Y) (xs : List X) → map f xs ≡ [] → xs ≡ []
map_none f [] e = refl
map_none f (x ∷ xs) e = cc

cons_some : {X : Type 0} {x : X} {xs ys : List X} → x ∷ xs ≡ [] → ys ≡ []
cons_some e = cc

cons_not : {X : Type 0} {x : X} {xs : List X} → x ∷ xs ≡ [] → ⊥
cons_not e = cc

module _ {A : Type 0} (same : A → A → Bool) where
  abbrev pub NoLeaf : List (A × A) → Type 0
  NoLeaf es = (n : A) → degree same n es ≢ 1

  -- only the empty choice has no node that is counted exactly once
  abbrev pub Forest : List (A × A) → Type 0
  Forest es = (part : List (A × A)) → Within part es → NoLeaf part → part ≡ []

  -- the edges that pass the test go to the holder a
  abbrev pub shift : A → (A × A → Bool) → A × A → A × A
  shift a m e = (cond (m e) a e.0, e.1)

module _ {A : Type 0} (same : A → A → Bool) (same-is : (a b : A) → same a b ≡ true → a ≡ b) (same-self : (a : A) → same a a ≡ true) where
  differ : (a b : A) → a ≢ b → same a b ≡ false
  differ a b h = false_from_ne_true (same a b) (λ e. h (same-is a b e))

  one_at : (a : A) → ◌≡◌ {A = ℕ} (cond (same a a) 1 0) 1
  one_at a = rw (same-self a)

  none_at : (a b : A) → a ≢ b → ◌≡◌ {A = ℕ} (cond (same a b) 1 0) 0
  none_at a b h = rw (differ a b h)

  -- three kinds of nodes
  pub noleaf_by : (a b : A) (es : List (A × A)) → degree same a es ≢ 1 → degree same b es ≢ 1 → ((n : A) → n ≢ a → n ≢ b → degree same n es ≢ 1) → NoLeaf same es
  noleaf_by a b es ha hb rest n = go (same n a) refl (same n b) refl
    where
      go : (u : Bool) → same n a ≡ u → (v : Bool) → same n b ≡ v → degree same n es ≢ 1
      go true e v f = rw (same-is n a e) ha
      go false e true f = rw (same-is n b f) hb
      go false e false f = rest n (λ p. differ_by p e) (λ p. differ_by p f)
        where
          differ_by : {x : A} → n ≡ x → same n x ≡ false → ⊥
          differ_by {x} p q = let r : same n x ≡ true = rw (← p) (same-self n) in cc

  module _ (a b : A) (apart : a ≢ b) (m : A × A → Bool) (moves : (e : A × A) → m e ≡ true → e.0 ≡ b) where
    old_at : (e : A × A) (v : Bool) → m e ≡ v → cond (same a (cond v a e.0)) 1 0 ≡ cond (same a e.0) 1 0 + cond v 1 0
    old_at e true h = rw (same-self a, moves e h, differ a b apart) refl
    old_at e false h = omega arith

    new_at : (e : A × A) (v : Bool) → m e ≡ v → cond (same b (cond v a e.0)) 1 0 + cond v 1 0 ≡ cond (same b e.0) 1 0
    new_at e true h = rw (moves e h, same-self b, differ b a (λ p. apart (sym p))) refl
    new_at e false h = omega arith

    other_at : (n : A) → n ≢ a → n ≢ b → (e : A × A) (v : Bool) → m e ≡ v → ◌≡◌ {A = ℕ} (cond (same n (cond v a e.0)) 1 0) (cond (same n e.0) 1 0)
    other_at n p q e true h = rw (moves e h, differ n a p, differ n b q) refl
    other_at n p q e false h = refl

    pub degree_old : (es : List (A × A)) → degree same a (map (shift same a m) es) ≡ degree same a es + count m es
    degree_old [] = refl
    degree_old (e ∷ es) = omega (arith, degree_old es, old_at e (m e) refl)

    pub degree_new : (es : List (A × A)) → degree same b (map (shift same a m) es) + count m es ≡ degree same b es
    degree_new [] = refl
    degree_new (e ∷ es) = omega (arith, degree_new es, new_at e (m e) refl)

    pub degree_other : (n : A) → n ≢ a → n ≢ b → (es : List (A × A)) → degree same n (map (shift same a m) es) ≡ degree same n es
    degree_other n p q [] = refl
    degree_other n p q (e ∷ es) = omega (arith, degree_other n p q es, other_at n p q e (m e) refl)

  Within-shift : (a : A) (m : A × A → Bool) (part es : List (A × A)) → Within part es → Within (map (shift same a m) part) (map (shift same a m) es)
  Within-shift a m part es h p = omega (arith, count-map p (shift same a m) part, count-map p (shift same a m) es, h (λ e. p (shift same a m e)))

  -- A send on c by the task t: its edge to c goes, and the ends that it sends go from t to c.
  -- Before is what stood before, as far as it is needed: t's edge, and the edges after with those of c back at t.
  module _ (t c : A) (apart : t ≢ c) (before after : List (A × A)) where
    abbrev by_c : A × A → Bool
    by_c e = same c e.0

    by_c_is : (e : A × A) → by_c e ≡ true → e.0 ≡ c
    by_c_is e h = sym (same-is c e.0 h)

    abbrev back : List (A × A) → List (A × A)
    back es = map (shift same t by_c) es

    pub send_keeps : Within ((t, c) ∷ back after) before → count (λ e. same c e.1) after ≤ 1 → Forest same before → Forest same after
    send_keeps within once forest part inside noleaf = go (count (λ e. same c e.1) part) refl (count by_c part) refl
      where
        back_within : Within (back part) (back after)
        back_within = Within-shift t by_c part after inside

        at_t : degree same t (back part) ≡ degree same t part + count by_c part
        at_t = degree_old t c apart by_c by_c_is part

        at_c : degree same c (back part) + count by_c part ≡ degree same c part
        at_c = degree_new t c apart by_c by_c_is part

        at_other : (n : A) → n ≢ t → n ≢ c → degree same n (back part) ≡ degree same n part
        at_other n p q = degree_other t c apart by_c by_c_is n p q part

        plain : NoLeaf same (back part) → part ≡ []
        plain h = map_none (shift same t by_c) part (forest (back part) (λ p. omega (arith, back_within p, within p)) h)

        edged : NoLeaf same ((t, c) ∷ back part) → part ≡ []
        edged h = cons_some (forest ((t, c) ∷ back part) (λ p. omega (arith, back_within p, within p)) h)

        once_part : count (λ e. same c e.1) part ≤ 1
        once_part = omega (arith, inside (λ e. same c e.1), once)

        others : (n : A) → n ≢ t → n ≢ c → degree same n (back part) ≢ 1
        others n p q x = noleaf n (omega (arith, at_other n p q))

        go : (r : ℕ) → count (λ e. same c e.1) part ≡ r → (k : ℕ) → count by_c part ≡ k → part ≡ []
        go zero e k f = plain (noleaf_by t c (back part) (λ x. omega (arith, at_t, at_c, noleaf t, noleaf c)) (λ x. omega (arith, at_t, at_c, noleaf c)) others)
        go (suc r) e zero f = plain (noleaf_by t c (back part) (λ x. omega (arith, at_t, noleaf t)) (λ x. omega (arith, at_c, noleaf c)) others)
        go (suc r) e (suc k) f = edged (noleaf_by t c ((t, c) ∷ back part)
            (λ x. omega (arith, at_t, one_at t, none_at t c apart))
            (λ x. omega (arith, at_c, once_part, one_at c, none_at c t (λ p. apart (sym p))))
            (λ n p q x. others n p q (omega (arith, none_at n t p, none_at n c q))))

  -- A receive on c by the task t: its edge to c goes, and the ends that c holds go from c to t.
  -- The test tells the moved ones after the step.
  module _ (t c : A) (apart : t ≢ c) (m : A × A → Bool) (moves : (e : A × A) → m e ≡ true → e.0 ≡ t) (before after : List (A × A)) where
    abbrev kept_by_c : List (A × A) → List (A × A)
    kept_by_c es = map (shift same c m) es

    pub recv_keeps : Within ((t, c) ∷ kept_by_c after) before → degree same c after ≡ 0 → Forest same before → Forest same after
    recv_keeps within gone forest part inside noleaf = go (count m part) refl (degree same t (kept_by_c part)) refl
      where
        back_within : Within (kept_by_c part) (kept_by_c after)
        back_within = Within-shift c m part after inside

        at_c : degree same c (kept_by_c part) ≡ degree same c part + count m part
        at_c = degree_old c t (λ p. apart (sym p)) m moves part

        at_t : degree same t (kept_by_c part) + count m part ≡ degree same t part
        at_t = degree_new c t (λ p. apart (sym p)) m moves part

        none_c : degree same c part ≡ 0
        none_c = omega (arith, inside (λ e. same c e.0), inside (λ e. same c e.1), gone)

        others : (n : A) → n ≢ t → n ≢ c → degree same n (kept_by_c part) ≢ 1
        others n p q x = noleaf n (omega (arith, degree_other c t (λ p. apart (sym p)) m moves n q p part))

        plain : NoLeaf same (kept_by_c part) → part ≡ []
        plain h = map_none (shift same c m) part (forest (kept_by_c part) (λ p. omega (arith, back_within p, within p)) h)

        edged : NoLeaf same ((t, c) ∷ kept_by_c part) → part ≡ []
        edged h = cons_some (forest ((t, c) ∷ kept_by_c part) (λ p. omega (arith, back_within p, within p)) h)

        go : (k : ℕ) → count m part ≡ k → (j : ℕ) → degree same t (kept_by_c part) ≡ j → part ≡ []
        go zero e j f = plain (noleaf_by t c (kept_by_c part) (λ x. omega (arith, at_t, noleaf t)) (λ x. omega (arith, at_c, none_c)) others)
        go (suc k) e zero f = plain (noleaf_by t c (kept_by_c part) (λ x. omega arith) (λ x. omega (arith, at_c, at_t, none_c, noleaf t)) others)
        go (suc k) e (suc j) f = edged (noleaf_by t c ((t, c) ∷ kept_by_c part)
            (λ x. omega (arith, one_at t, none_at t c apart))
            (λ x. omega (arith, at_c, one_at c, none_at c t (λ p. apart (sym p))))
            (λ n p q x. others n p q (omega (arith, none_at n t p, none_at n c q))))

  -- A fork by the task p: the new channel c has an edge from p and one from the new task q, and the ends that p gives go from p to q.
  module _ (p q c : A) (pq : p ≢ q) (pc : p ≢ c) (qc : q ≢ c) (before after rest : List (A × A)) where
    abbrev by_q : A × A → Bool
    by_q e = same q e.0

    by_q_is : (e : A × A) → by_q e ≡ true → e.0 ≡ q
    by_q_is e h = sym (same-is q e.0 h)

    abbrev at_c : A × A → Bool
    at_c e = same c e.1

    abbrev old : List (A × A) → List (A × A)
    old es = filter (λ e. not (at_c e)) es

    pub fork_keeps : Within after ((p, c) ∷ (q, c) ∷ rest) → Within (map (shift same p by_q) rest) before → degree same c rest ≡ 0 → count (λ e. same q e.1) rest ≡ 0 → Forest same before → Forest same after
    fork_keeps after_is within no_c no_q forest part inside noleaf = go (count at_c part) refl
      where
        -- of the part, the edges to c that pass a test
        extra : (h : A × A → Bool) → count (λ e. at_c e && h e) part ≤ cond (h (p, c)) 1 0 + cond (h (q, c)) 1 0
        extra h = let e = one_at c in omega (arith, inside (λ e. at_c e && h e), after_is (λ e. at_c e && h e), count_and_le at_c h rest, here (p, c) refl, here (q, c) refl)
          where
            here : (e : A × A) → e.1 ≡ c → ◌≡◌ {A = ℕ} (cond (at_c e && h e) 1 0) (cond (h e) 1 0)
            here e f = rw (f, same-self c)

        parts : (h : A × A → Bool) → count (λ e. at_c e && h e) part + count h (old part) ≡ count h part
        parts h = omega (arith, count_cases at_c h part, count-filter h (λ e. not (at_c e)) part)

        old_within : Within (old part) rest
        old_within h = omega (arith, count-filter h (λ e. not (at_c e)) part, inside (λ e. not (at_c e) && h e), after_is (λ e. not (at_c e) && h e), gone (p, c) refl, gone (q, c) refl, count_cases at_c h rest)
          where
            gone : (e : A × A) → e.1 ≡ c → ◌≡◌ {A = ℕ} (cond (not (at_c e) && h e) 1 0) 0
            gone e f = rw (f, same-self c)

        back : List (A × A)
        back = map (shift same p by_q) (old part)

        back_empty : back ≡ [] → old part ≡ []
        back_empty e = map_none (shift same p by_q) (old part) e

        closed : NoLeaf same back → old part ≡ []
        closed h = back_empty (forest back (λ t. omega (arith, Within-shift p by_q (old part) rest old_within t, within t)) h)

        sides : (h : A × A → Bool) → count h part ≤ cond (h (p, c)) 1 0 + cond (h (q, c)) 1 0 + count h rest
        sides h = omega (arith, inside h, after_is h)

        c_held : count (λ e. same c e.0) part ≡ 0
        c_held = omega (arith, sides (λ e. same c e.0), none_at c p (λ e. pc (sym e)), none_at c q (λ e. qc (sym e)), no_c)

        q_held : count (λ e. same q e.1) part ≡ 0
        q_held = omega (arith, sides (λ e. same q e.1), none_at q c qc, no_q)

        -- the two edges of c stand in the part both or not at all
        both : (a : A) → cond (same a p) 1 0 + cond (same a q) 1 0 ≡ 1 → (count (λ e. at_c e && same a e.0) part ≤ 1) × (count at_c part ≤ count (λ e. at_c e && same a e.0) part + 1)
        both a one = (omega (arith, extra (λ e. same a e.0)), omega (arith, extra (λ e. not (same a e.0)), count_split at_c (λ e. same a e.0) part, cond_not (same a p), cond_not (same a q)))

        both_p : (count (λ e. at_c e && same p e.0) part ≤ 1) × (count at_c part ≤ count (λ e. at_c e && same p e.0) part + 1)
        both_p = both p (omega (arith, one_at p, none_at p q pq))

        both_q : (count (λ e. at_c e && same q e.0) part ≤ 1) × (count at_c part ≤ count (λ e. at_c e && same q e.0) part + 1)
        both_q = both q (omega (arith, one_at q, none_at q p (λ e. pq (sym e))))

        at_p : degree same p back ≡ degree same p (old part) + count by_q (old part)
        at_p = degree_old p q pq by_q by_q_is (old part)

        at_q : degree same q back + count by_q (old part) ≡ degree same q (old part)
        at_q = degree_new p q pq by_q by_q_is (old part)

        q_none : degree same q back ≡ 0
        q_none = omega (arith, at_q, parts (λ e. same q e.1), q_held)

        p_target : count (λ e. at_c e && same p e.1) part ≡ 0
        p_target = omega (arith, extra (λ e. same p e.1), none_at p c pc)

        c_le : count (λ e. at_c e && same p e.0) part ≤ count at_c part
        c_le = count_and_le at_c (λ e. same p e.0) part

        q_le : count (λ e. at_c e && same q e.0) part ≤ count at_c part
        q_le = count_and_le at_c (λ e. same q e.0) part

        p_fine : degree same p back ≢ 1
        p_fine x = omega (arith, at_p, both_p, both_q, parts (λ e. same p e.0), parts (λ e. same p e.1), parts (λ e. same q e.0), noleaf p, noleaf q, noleaf c, c_held, q_held, p_target, c_le, q_le)

        others : (n : A) → n ≢ p → n ≢ q → degree same n back ≢ 1
        others n np nq x = by (same n c) refl
          where
            by : (v : Bool) → same n c ≡ v → ⊥
            by true e = let is_c : n ≡ c = same-is n c e in omega (arith, rw is_c at x, degree_other p q pq by_q by_q_is c (λ e. pc (sym e)) (λ e. qc (sym e)) (old part), old_within (λ e. same c e.0), old_within (λ e. same c e.1), no_c)
            by false e = noleaf n (omega (arith, degree_other p q pq by_q by_q_is n np nq (old part), parts (λ e. same n e.0), parts (λ e. same n e.1), extra (λ e. same n e.0), extra (λ e. same n e.1), none_at n p np, none_at n q nq, ap {B = ℕ} (λ v. cond v 1 0) e))

        fine : old part ≡ []
        fine = closed (noleaf_by p q back p_fine (omega (arith, q_none)) others)

        go : (k : ℕ) → count at_c part ≡ k → part ≡ []
        go zero e = nil_from_count at_c part e fine
        go (suc k) e = absurd (omega (arith, ap (count by_q) fine, both_q, parts (λ e. same q e.0), noleaf q, noleaf c, c_held, q_held))

  -- no three edges of a forest go round
  pub no_triangle : (t c x : A) (es : List (A × A)) → Within ((t, c) ∷ (c, x) ∷ (t, x) ∷ []) es → Forest same es → ⊥
  no_triangle t c x es within forest = cons_not (forest ((t, c) ∷ (c, x) ∷ (t, x) ∷ []) within (λ n h. omega arith))
