-- The count behind progress: where each task waits and the graph is a forest, nothing is left.
use Rattle.std.proofs.Common.{◌≡◌, ℕ, suc, zero, ◌+◌, ◌≤◌, Bool, true, false, cond, not, ◌||◌, List, [], ◌∷◌, ◌++◌, map, length, refl, ap, sym, arith, filter}
use Rattle.std.proofs.lemmas.Bool.{false_from_ne_true}
use Rattle.std.proofs.lemmas.List.{length-append}
use Rattle.graphs.specs.Graph.{count, Node, task, channel, same_node, edge_of, edges}
use Rattle.graphs.proofs.Counts.{count-map, count-append, count-le-length}
use Rattle.graphs.proofs.Forest.{Forest}
use Rattle.graphs.proofs.Fewer.{Covers, others_count, fewer, length-filter_not}

-- each element meets P
abbrev pub Each : {X : Type 0} → (X → Type 0) → List X → Type 0
Each P [] = Unit {0}
Each P (x ∷ xs) = P x × Each P xs

abbrev pub sum_of : {X : Type 0} → (X → ℕ) → List X → ℕ
sum_of f [] = 0
sum_of f (x ∷ xs) = f x + sum_of f xs

count_both : {X : Type 0} (p q r : X → Bool) → ((x : X) → cond (p x) 1 0 ≡ cond (q x) 1 0 + cond (r x) 1 0) → (xs : List X) → count p xs ≡ count q xs + count r xs
count_both p q r h [] = refl
count_both p q r h (x ∷ xs) = omega (arith, h x, count_both p q r h xs)

zeros : {X : Type 0} (us : List X) → count (λ (u : X). false) us ≡ 0
zeros [] = refl
zeros (u ∷ us) = omega (arith, zeros us)

-- where all pass p and some pass q, one passes both
pub witness : {X : Type 0} (p q : X → Bool) (xs : List X) → count p xs ≡ length xs → 1 ≤ count q xs → (x : X) × (p x ≡ true) × (q x ≡ true)
witness p q [] all some = absurd (omega arith)
witness p q (x ∷ xs) all some = go (p x) refl (q x) refl all some (witness p q xs)
  where
    go : (a : Bool) → p x ≡ a → (b : Bool) → q x ≡ b → cond a 1 0 + count p xs ≡ suc (length xs) → 1 ≤ cond b 1 0 + count q xs → (count p xs ≡ length xs → 1 ≤ count q xs → (x : _) × (p x ≡ true) × (q x ≡ true)) → (x : _) × (p x ≡ true) × (q x ≡ true)
    go true e true f all some ih = (x, e, f)
    go true e false f all some ih = ih (omega arith) (omega arith)
    go false e b f all some ih = absurd (omega (arith, count-le-length p xs))

length-map : {X Y : Type 0} (f : X → Y) (xs : List X) → length (map f xs) ≡ length xs
length-map f [] = refl
length-map f (x ∷ xs) = ap suc (length-map f xs)

module _ {K : Type 0} (same : K → K → Bool) where
  abbrev pub Distinct : List K → Type 0
  Distinct [] = Unit {0}
  Distinct (k ∷ ks) = (count (same k) ks ≡ 0) × Distinct ks

  -- whether the list has k
  abbrev pub has : List K → K → Bool
  has [] k = false
  has (x ∷ xs) k = same x k || has xs k

  -- a node that is one of these tasks or of these channels
  abbrev pub stands : List K → List K → Node K → Bool
  stands tasks chans (task p) = has tasks p
  stands tasks chans (channel c) = has chans c

abbrev pub nodes_of : {K : Type 0} → List K → List K → List (Node K)
nodes_of tasks chans = map task tasks ++ map channel chans

module _ {K : Type 0} (same : K → K → Bool) (same-is : (a b : K) → same a b ≡ true → a ≡ b) (same-self : (a : K) → same a a ≡ true) where
  pub has_count : (xs : List K) (k : K) → has same xs k ≡ true → 1 ≤ count (same k) xs
  has_count [] k h = cc
  has_count (x ∷ xs) k h = go (same x k) refl h (λ g. has_count xs k g)
    where
      go : (v : Bool) → same x k ≡ v → (v || has same xs k) ≡ true → (has same xs k ≡ true → 1 ≤ count (same k) xs) → 1 ≤ cond (same k x) 1 0 + count (same k) xs
      go true e g ih = let p : x ≡ k = same-is x k e in let q : same k x ≡ true = rw p (same-self k) in omega (arith, ap {B = ℕ} (λ v. cond v 1 0) q)
      go false e g ih = omega (arith, ih g)

  pub count_has : (xs : List K) (k : K) → 1 ≤ count (same k) xs → has same xs k ≡ true
  count_has [] k h = absurd (omega arith)
  count_has (x ∷ xs) k h = go (same k x) refl h (λ g. count_has xs k g)
    where
      go : (v : Bool) → same k x ≡ v → 1 ≤ cond v 1 0 + count (same k) xs → (1 ≤ count (same k) xs → has same xs k ≡ true) → (same x k || has same xs k) ≡ true
      go true e g ih = let p : k ≡ x = same-is k x e in rw (p, same-self x) refl
      go false e g ih = rw (ih (omega arith)) (last (same x k))
        where
          last : (v : Bool) → (v || true) ≡ true
          last true = refl
          last false = refl

  none_has : (xs : List K) (k : K) → count (same k) xs ≡ 0 → has same xs k ≡ false
  none_has xs k h = false_from_ne_true (has same xs k) (λ e. omega (arith, has_count xs k e))

  -- a list without repeats whose elements stand in another one is no longer than that
  pub sub_length : (xs ys : List K) → Distinct same xs → ((k : K) → 1 ≤ count (same k) xs → 1 ≤ count (same k) ys) → length xs ≤ length ys
  sub_length [] ys d inside = omega arith
  sub_length (x ∷ xs) ys d inside = omega (arith, sub_length xs (filter (λ y. not (same x y)) ys) d.1 rest, length-filter_not (same x) ys, inside x (omega (arith, ap {B = ℕ} (λ v. cond v 1 0) (same-self x))))
    where
      rest : (k : K) → 1 ≤ count (same k) xs → 1 ≤ count (same k) (filter (λ y. not (same x y)) ys)
      rest k h = omega (arith, inside k (omega arith), others_count same same-is same-self x k apart ys)
        where
          apart : same x k ≡ false
          apart = false_from_ne_true (same x k) (λ e. let p : x ≡ k = same-is x k e in let z : count (same k) xs ≡ 0 = rw p at (d.0) in omega arith)

  -- the elements by their keys
  pub by_keys : {X : Type 0} (key : X → K) (ks : List K) → Distinct same ks → (us : List X) → sum_of (λ k. count (λ u. same k (key u)) us) ks ≡ count (λ u. has same ks (key u)) us
  by_keys key [] d us = sym (zeros us)
  by_keys key (k ∷ ks) d us = omega (arith, by_keys key ks d.1 us, count_both (λ u. same k (key u) || has same ks (key u)) (λ u. same k (key u)) (λ u. has same ks (key u)) (λ u. at (key u) (same k (key u)) refl) us)
    where
      at : (a : K) (v : Bool) → same k a ≡ v → ◌≡◌ {A = ℕ} (cond (v || has same ks a) 1 0) (cond v 1 0 + cond (has same ks a) 1 0)
      at a true e = rw (none_has ks a (rw (same-is k a e) at (d.0))) refl
      at a false e = omega arith

  sum_full : (full : K → Bool) (f : K → ℕ) (ks : List K) → Each (λ k. f k ≡ cond (full k) 1 2) ks → sum_of f ks ≡ length ks + count (λ k. not (full k)) ks
  sum_full full f [] h = refl
  sum_full full f (k ∷ ks) h = omega (arith, sum_full full f ks h.1, h.0, go (full k))
    where
      go : (v : Bool) → cond v 1 2 ≡ 1 + cond (not v) 1 0
      go true = refl
      go false = refl

module _ {K : Type 0} (same : K → K → Bool) (same-is : (a b : K) → same a b ≡ true → a ≡ b) (same-self : (a : K) → same a a ≡ true) where
  pub node-is : (a b : Node K) → same_node same a b ≡ true → a ≡ b
  node-is (task a) (task b) h = ap task (same-is a b h)
  node-is (channel a) (channel b) h = ap channel (same-is a b h)
  node-is (task a) (channel b) h = cc
  node-is (channel a) (task b) h = cc

  pub node-self : (a : Node K) → same_node same a a ≡ true
  node-self (task a) = same-self a
  node-self (channel a) = same-self a

  stands_count : (tasks chans : List K) (n : Node K) → stands same tasks chans n ≡ true → 1 ≤ count (same_node same n) (nodes_of tasks chans)
  stands_count tasks chans (task p) h = omega (arith, count-append (same_node same (task p)) (map task tasks) (map channel chans), count-map (same_node same (task p)) task tasks, has_count same same-is same-self tasks p h)
  stands_count tasks chans (channel c) h = omega (arith, count-append (same_node same (channel c)) (map task tasks) (map channel chans), count-map (same_node same (channel c)) channel chans, has_count same same-is same-self chans c h)

  -- Progress, the count. All tasks that have not ended wait.
  pub nothing_left : {R : Type 0} (waiting chans : List K) (full : K → Bool) (uses : List (Node K × K × R)) →
      Distinct same chans →
      Each (λ c. count (λ u. same c u.1) uses ≡ cond (full c) 1 2) chans →
      count (λ u. has same chans u.1) uses ≡ length uses →
      count (λ u. stands same waiting chans u.0) uses ≡ length uses →
      length waiting ≤ count (λ c. not (full c)) chans →
      Forest (same_node same) (edges uses) →
      length waiting + length chans ≡ 0
  nothing_left {R = R} waiting chans full uses distinct counted targets holders few forest = go (length nodes) refl
    where
      nodes : List (Node K)
      nodes = nodes_of waiting chans

      long : length nodes ≡ length waiting + length chans
      long = simp (length-append) (omega (arith, length-map {Y = Node K} task waiting, length-map {Y = Node K} channel chans))

      edge_count : length (edges uses) ≡ length chans + count (λ c. not (full c)) chans
      edge_count = omega (arith, length-map edge_of uses, by_keys same same-is same-self (λ u. u.1) chans distinct uses, sum_full same same-is same-self full (λ c. count (λ u. same c u.1) uses) chans counted, targets)

      covers : Covers (same_node same) node-is node-self nodes (edges uses)
      covers n h = side (count (λ u. same_node same n u.0) uses) refl
        where
          held : (u : Node K × K × R) × (stands same waiting chans u.0 ≡ true) × (same_node same n u.0 ≡ true) → 1 ≤ count (same_node same n) nodes
          held (u, s, e) = stands_count waiting chans n (rw (node-is n u.0 e) s)

          aimed : (u : Node K × K × R) × (has same chans u.1 ≡ true) × (same_node same n (channel u.1) ≡ true) → 1 ≤ count (same_node same n) nodes
          aimed (u, s, e) = stands_count waiting chans n (rw (node-is n (channel u.1) e) s)

          side : (d : ℕ) → count (λ u. same_node same n u.0) uses ≡ d → 1 ≤ count (same_node same n) nodes
          side zero e = aimed (witness (λ u. has same chans u.1) (λ u. same_node same n (channel u.1)) uses targets (omega (arith, count-map (λ e. same_node same n e.0) edge_of uses, count-map (λ e. same_node same n e.1) edge_of uses)))
          side (suc d) e = held (witness (λ u. stands same waiting chans u.0) (λ u. same_node same n u.0) uses holders (omega arith))

      go : (k : ℕ) → length nodes ≡ k → length waiting + length chans ≡ 0
      go zero e = omega (arith, long)
      go (suc k) e = absurd (omega (arith, long, edge_count, fewer (same_node same) node-is node-self (suc k) nodes (edges uses) (omega arith) covers forest (omega arith)))
