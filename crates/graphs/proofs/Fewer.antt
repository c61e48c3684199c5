-- A forest has fewer edges than nodes, and each choice of its edges that isn't empty has a leaf.
use Rattle.std.proofs.Common.{◌≡◌, ℕ, suc, zero, ◌+◌, ◌≤◌, ◌<◌, ◌≢◌, Bool, true, false, cond, not, ◌&&◌, ◌||◌, List, [], ◌∷◌, ◌++◌, map, length, refl, ap, sym, arith, filter, inl, inr, ◌⊎◌}
use Rattle.std.proofs.lemmas.Bool.{false_from_ne_true}
use Rattle.graphs.specs.Graph.{count, kept, degree, IsForest}
use Rattle.graphs.proofs.Counts.{Within, count-map, count-append, count_cases, Within-kept, count-filter, count-le-length}
use Rattle.graphs.proofs.Forest.{NoLeaf, Forest}

pub length-filter_not : {X : Type 0} (p : X → Bool) (xs : List X) → length (filter (λ x. not (p x)) xs) + count p xs ≡ length xs
length-filter_not p [] = refl
length-filter_not p (x ∷ xs) = go (p x) (length-filter_not p xs)
  where
    go : (v : Bool) → length (filter (λ x. not (p x)) xs) + count p xs ≡ length xs → length (cond (not v) (x ∷ filter (λ x. not (p x)) xs) (filter (λ x. not (p x)) xs)) + (cond v 1 0 + count p xs) ≡ suc (length xs)
    go true h = omega arith
    go false h = omega arith

count_or_le : {X : Type 0} (p q : X → Bool) (xs : List X) → count (λ x. p x || q x) xs ≤ count p xs + count q xs
count_or_le p q [] = omega arith
count_or_le p q (x ∷ xs) = go (p x) (q x) (count_or_le p q xs)
  where
    go : (a b : Bool) → count (λ x. p x || q x) xs ≤ count p xs + count q xs → cond (a || b) 1 0 + count (λ x. p x || q x) xs ≤ (cond a 1 0 + count p xs) + (cond b 1 0 + count q xs)
    go true true h = omega arith
    go true false h = omega arith
    go false true h = omega arith
    go false false h = omega arith

pub count_pointwise_le : {X : Type 0} (p q : X → Bool) → ((x : X) → p x ≡ true → q x ≡ true) → (xs : List X) → count p xs ≤ count q xs
count_pointwise_le p q h [] = omega arith
count_pointwise_le p q h (x ∷ xs) = go (p x) refl (q x) refl (count_pointwise_le p q h xs)
  where
    go : (a : Bool) → p x ≡ a → (b : Bool) → q x ≡ b → count p xs ≤ count q xs → cond a 1 0 + count p xs ≤ cond b 1 0 + count q xs
    go true e true f le = omega arith
    go true e false f le = let t : q x ≡ true = h x e in cc
    go false e true f le = omega arith
    go false e false f le = omega arith

module _ {A : Type 0} (same : A → A → Bool) (same-is : (a b : A) → same a b ≡ true → a ≡ b) (same-self : (a : A) → same a a ≡ true) where
  -- each node that is counted on the edges stands in the list
  abbrev pub Covers : List A → List (A × A) → Type 0
  Covers nodes es = (n : A) → 1 ≤ degree same n es → 1 ≤ count (same n) nodes

  abbrev Found : List (A × A) → List A → Type 0
  Found es nodes = ((n : A) × (degree same n es ≡ 1)) ⊎ ((n : A) → 1 ≤ count (same n) nodes → degree same n es ≢ 1)

  find_leaf : (es : List (A × A)) (nodes : List A) → Found es nodes
  find_leaf es [] = inr (λ n h. absurd (omega arith))
  find_leaf es (x ∷ nodes) = go (degree same x es) refl (find_leaf es nodes)
    where
      other : (n : A) (v : Bool) → same n x ≡ v → 1 ≤ cond v 1 0 + count (same n) nodes → degree same x es ≢ 1 → ((n : A) → 1 ≤ count (same n) nodes → degree same n es ≢ 1) → degree same n es ≢ 1
      other n true e h not_x rest = rw (same-is n x e) not_x
      other n false e h not_x rest = rest n (omega arith)

      go : (d : ℕ) → degree same x es ≡ d → Found es nodes → Found es (x ∷ nodes)
      go d e (inl found) = inl found
      go zero e (inr none) = inr (λ n h. other n (same n x) refl h (λ f. omega arith) none)
      go (suc zero) e (inr none) = inl (x, e)
      go (suc (suc d)) e (inr none) = inr (λ n h. other n (same n x) refl h (λ f. omega arith) none)

  -- the nodes of the edges
  abbrev pub sides : List (A × A) → List A
  sides es = map (λ e. e.0) es ++ map (λ e. e.1) es

  Covers-sides : (es : List (A × A)) → Covers (sides es) es
  Covers-sides es n h = omega (arith, count-append (same n) (map (λ e. e.0) es) (map (λ e. e.1) es), count-map (same n) (λ e. e.0) es, count-map (same n) (λ e. e.1) es)

  leaf_or : (nodes : List A) (es : List (A × A)) → Covers nodes es → ((n : A) × (degree same n es ≡ 1)) ⊎ NoLeaf same es
  leaf_or nodes es covers = go (find_leaf es nodes)
    where
      go : Found es nodes → ((n : A) × (degree same n es ≡ 1)) ⊎ NoLeaf same es
      go (inl found) = inl found
      go (inr none) = inr (λ n h. none n (covers n (omega arith)) h)

  -- the statement of Ownership graph
  pub IsForest-from : (es : List (A × A)) → Forest same es → IsForest same es
  IsForest-from es forest mask some = go (leaf_or (sides (kept mask es)) (kept mask es) (Covers-sides (kept mask es)))
    where
      go : ((n : A) × (degree same n (kept mask es) ≡ 1)) ⊎ NoLeaf same (kept mask es) → (n : A) × (degree same n (kept mask es) ≡ 1)
      go (inl found) = found
      go (inr none) = absurd (some (forest (kept mask es) (Within-kept mask es) none))

  all_at : (side : A × A → A) (n : A) (es : List (A × A)) → ((x : A) → x ≢ n → count (λ e. same x (side e)) es ≡ 0) → count (λ e. same n (side e)) es ≡ length es
  all_at side n [] h = refl
  all_at side n (e ∷ es) h = go (same n (side e)) refl (all_at side n es (λ x p. omega (arith, h x p)))
    where
      go : (v : Bool) → same n (side e) ≡ v → count (λ e. same n (side e)) es ≡ length es → cond v 1 0 + count (λ e. same n (side e)) es ≡ suc (length es)
      go true f ih = omega arith
      go false f ih = absurd (omega (arith, h (side e) apart, ap {B = ℕ} (λ v. cond v 1 0) (same-self (side e))))
        where
          apart : side e ≢ n
          apart p = let q : same n (side e) ≡ true = rw p (same-self n) in cc

  abbrev touches : A → A × A → Bool
  touches n e = same n e.0 || same n e.1

  abbrev others : A → List A → List A
  others n nodes = filter (λ x. not (same n x)) nodes

  abbrev without : A → List (A × A) → List (A × A)
  without n es = filter (λ e. not (touches n e)) es

  Within-without : (n : A) (es : List (A × A)) → Within (without n es) es
  Within-without n es p = omega (arith, count-filter p (λ e. not (touches n e)) es, count_cases (touches n) p es)

  none_left : (n : A) (es : List (A × A)) → degree same n (without n es) ≡ 0
  none_left n es = omega (arith, side (λ e. e.0) first, side (λ e. e.1) second)
    where
      first : (e : A × A) → same n e.0 ≡ true → (touches n e && same n e.0) ≡ true
      first e h = rw h

      second : (e : A × A) → same n e.1 ≡ true → (touches n e && same n e.1) ≡ true
      second e h = rw h (go (same n e.0))
        where
          go : (v : Bool) → ((v || true) && true) ≡ true
          go true = refl
          go false = refl

      side : (f : A × A → A) → ((e : A × A) → same n (f e) ≡ true → (touches n e && same n (f e)) ≡ true) → count (λ e. same n (f e)) (without n es) ≡ 0
      side f h = omega (arith, count-filter (λ e. same n (f e)) (λ e. not (touches n e)) es, count_cases (touches n) (λ e. same n (f e)) es, count_pointwise_le (λ e. same n (f e)) (λ e. touches n e && same n (f e)) h es)

  pub others_count : (n x : A) → same n x ≡ false → (nodes : List A) → count (same x) nodes ≤ count (same x) (others n nodes)
  others_count n x e nodes = omega (arith, count-filter (same x) (λ y. not (same n y)) nodes, count_pointwise_le (same x) (λ y. not (same n y) && same x y) other nodes)
    where
      other : (y : A) → same x y ≡ true → (not (same n y) && same x y) ≡ true
      other y f = let p : x ≡ y = same-is x y f in rw (← p, e, same-self x) refl

  Covers-others : (n : A) (nodes : List A) (es : List (A × A)) → Covers nodes es → Covers (others n nodes) (without n es)
  Covers-others n nodes es covers x h = go (same n x) refl
    where
      go : (v : Bool) → same n x ≡ v → 1 ≤ count (same x) (others n nodes)
      go true e = absurd (let p : n ≡ x = same-is n x e in omega (arith, rw (← p) at h, none_left n es))
      go false e = omega (arith, covers x (omega (arith, Within-without n es (λ e. same x e.0), Within-without n es (λ e. same x e.1))), others_count n x e nodes)

  -- where no other node stands in the list, each edge is between n and n
  lone : (n : A) (nodes : List A) (es : List (A × A)) → Covers nodes es → length (others n nodes) ≡ 0 → (x : A) → x ≢ n → degree same x es ≡ 0
  lone n nodes es covers empty x p = go (degree same x es) refl
    where
      apart : same n x ≡ false
      apart = false_from_ne_true (same n x) (λ e. p (sym (same-is n x e)))

      go : (d : ℕ) → degree same x es ≡ d → degree same x es ≡ 0
      go zero e = e
      go (suc d) e = absurd (omega (arith, covers x (omega arith), others_count n x apart nodes, count-le-length (same x) (others n nodes), empty))

  two_each : (n : A) (nodes : List A) (es : List (A × A)) → Covers nodes es → length (others n nodes) ≡ 0 → degree same n es ≡ length es + length es
  two_each n nodes es covers empty = omega (arith, all_at (λ e. e.0) n es (λ x p. omega (arith, lone n nodes es covers empty x p)), all_at (λ e. e.1) n es (λ x p. omega (arith, lone n nodes es covers empty x p)))

  pub fewer : (k : ℕ) (nodes : List A) (es : List (A × A)) → length nodes ≤ k → Covers nodes es → Forest same es → 0 < length nodes → length es < length nodes
  fewer zero nodes es small covers forest some = absurd (omega arith)
  fewer (suc k) nodes es small covers forest some = go (leaf_or nodes es covers) (λ n. fewer k (others n nodes) (without n es))
    where
      part : (n : A) → Forest same (without n es)
      part n p h l = forest p (λ t. omega (arith, h t, Within-without n es t)) l

      go : ((n : A) × (degree same n es ≡ 1)) ⊎ NoLeaf same es → ((n : A) → length (others n nodes) ≤ k → Covers (others n nodes) (without n es) → Forest same (without n es) → 0 < length (others n nodes) → length (without n es) < length (others n nodes)) → length es < length nodes
      go (inr none) ih = omega (arith, ap length (forest es (λ p. omega arith) none))
      go (inl (n, one)) ih = by (length (others n nodes)) refl
        where
          here : 1 ≤ count (same n) nodes
          here = covers n (omega arith)

          nodes_left : length (others n nodes) + count (same n) nodes ≡ length nodes
          nodes_left = length-filter_not (same n) nodes

          edges_left : length es ≤ length (without n es) + 1
          edges_left = omega (arith, length-filter_not (touches n) es, count_or_le (λ e. same n e.0) (λ e. same n e.1) es, one)

          by : (j : ℕ) → length (others n nodes) ≡ j → length es < length nodes
          by zero e = absurd (omega (arith, two_each n nodes es covers e, one))
          by (suc j) e = omega (arith, here, nodes_left, edges_left, ih n (omega (arith, here, nodes_left)) (Covers-others n nodes es covers) (part n) (omega arith))
