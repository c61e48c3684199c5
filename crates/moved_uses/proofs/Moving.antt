-- The uses of a configuration after a send, a receive, a fork.
use Rattle.std.proofs.Common.{◌≡◌, ◌≢◌, ℕ, suc, zero, ◌+◌, ◌≤◌, Bool, true, false, cond, not, ◌&&◌, ◌||◌, List, [], ◌∷◌, ◌++◌, map, length, refl, ap, sym, ◌∙◌, arith}
use Rattle.std.proofs.lemmas.Bool.{and_parts, not-true, not-false}
use Rattle.graphs.specs.Graph.{count, Node, task, channel, same_node, edge_of, edges, degree}
use Rattle.graphs.proofs.Counts.{Within, count-append, count-map, count_agree}
use Rattle.graphs.proofs.Forest.{shift, send_keeps, recv_keeps, fork_keeps, no_triangle}
use Rattle.core_language.specs.Names.{Name, same_name}
use Rattle.outline_language.specs.Equations.{Concrete}
use Rattle.good_configurations.specs.Values.{Use}
use Rattle.good_configurations.specs.Uses.{Uses, Holds, EndsAt, NoLeafIsEmpty}
use Rattle.moved_uses.proofs.Bags.{name-self, differ_name, same_holder, holder-is, holder-self, differ_holder, Test, held_by, without, count-held_by, count_all, none_without, count_false, count_except, member, others_held}

pub task_apart : (p q : Name) → p ≢ q → task p ≢ task q
task_apart p q h e = h (task_name e)
  where
    task_name : task p ≡ task q → p ≡ q
    task_name e = cc

pub channel_apart : (p q : Name) → p ≢ q → channel p ≢ channel q
channel_apart p q h e = h (channel_name e)
  where
    channel_name : channel p ≡ channel q → p ≡ q
    channel_name e = cc

pub kinds_apart : (p q : Name) → task p ≢ channel q
kinds_apart p q e = cc

abbrev pub mine : Node Name → (Use → Bool) → Test
mine m q u = same_holder m u.0 && q (u.1, u.2)

mine_here : (m : Node Name) (q : Use → Bool) (us : List Use) → count (λ u. mine m q (m, u.0, u.1)) us ≡ count q us
mine_here m q us = count_agree (λ u. mine m q (m, u.0, u.1)) q (λ u. rw (holder-self m) refl) us

mine_not : (m n : Node Name) → m ≢ n → (q : Use → Bool) (us : List Use) → count (λ u. mine m q (n, u.0, u.1)) us ≡ 0
mine_not m n apart q us = count_false (λ u. mine m q (n, u.0, u.1)) (λ u. rw (differ_holder m n apart) refl) us

-- the edges that a use of the holder has
abbrev pub aimed : Name → (Concrete → Bool) → Test
aimed d q u = same_name d u.1 && q u.2

aimed_not : (d c : Name) (q : Concrete → Bool) (e : Concrete) → d ≢ c → ◌≡◌ {A = ℕ} (cond (same_name d c && q e) 1 0) 0
aimed_not d c q e apart = rw (differ_name d c apart) refl

aimed_here : (c : Name) (q : Concrete → Bool) (e : Concrete) → ◌≡◌ {A = ℕ} (cond (same_name c c && q e) 1 0) (cond (q e) 1 0)
aimed_here c q e = rw (name-self c) refl

and_true : (b : Bool) → (b && true) ≡ b
and_true true = refl
and_true false = refl

all_pass : {X : Type 0} (es : List X) → count (λ _. true) es ≡ length es
all_pass [] = refl
all_pass (e ∷ es) = omega (arith, all_pass es)

count_at : (c : Name) (es : List Concrete) (all : Uses) → EndsAt c es all → count (λ e. same_holder (channel c) e.1) (edges all) ≡ length es
count_at c es all h = count-map (λ e. same_holder (channel c) e.1) edge_of all ∙ sym (count_agree (λ u. same_name c u.1 && true) (λ u. same_name c u.1) (λ u. and_true (same_name c u.1)) all) ∙ sym (h (λ _. true)) ∙ all_pass es

-- ---- send: the task p sends on c, by an end that does e, the uses vs; rest stays with it
module _ (all : Uses) (p c : Name) (e : Concrete) (us vs rest : List Use) where
  abbrev pub sent : Uses
  sent = without (task p) all ++ (held_by (task p) rest ++ held_by (channel c) vs)

  abbrev pub Parts : Type 0
  Parts = (q : Use → Bool) → count q us ≡ cond (q (c, e)) 1 0 + (count q vs + count q rest)

  module _ (holds : Holds (task p) us all) (split : Parts) (empty : Holds (channel c) [] all) where
    count_sent : (f : Test) → count f sent ≡ count f (without (task p) all) + (count (λ u. f (task p, u.0, u.1)) rest + count (λ u. f (channel c, u.0, u.1)) vs)
    count_sent f = omega (arith, count-append f (without (task p) all) (held_by (task p) rest ++ held_by (channel c) vs), count-append f (held_by (task p) rest) (held_by (channel c) vs), count-held_by f (task p) rest, count-held_by f (channel c) vs)

    count_before : (f : Test) → count f all ≡ count f (without (task p) all) + (cond (f (task p, c, e)) 1 0 + (count (λ u. f (task p, u.0, u.1)) vs + count (λ u. f (task p, u.0, u.1)) rest))
    count_before f = omega (arith, count_all f (task p) us all holds, split (λ u. f (task p, u.0, u.1)))

    pub sent_task : Holds (task p) rest sent
    sent_task q = omega (arith, count_sent (mine (task p) q), none_without q (task p) all, mine_here (task p) q rest, mine_not (task p) (channel c) (kinds_apart p c) q vs)

    pub sent_channel : Holds (channel c) vs sent
    sent_channel q = omega (arith, count_sent (mine (channel c) q), count_before (mine (channel c) q), empty q, mine_here (channel c) q vs, mine_not (channel c) (task p) (λ e. kinds_apart p c (sym e)) q rest)

    pub sent_other : (m : Node Name) (ws : List Use) → m ≢ task p → m ≢ channel c → Holds m ws all → Holds m ws sent
    sent_other m ws mp mc h q = omega (arith, h q, count_sent (mine m q), others_held (task p) us us all holds m q mp, mine_not m (task p) mp q rest, mine_not m (channel c) mc q vs)

    pub sent_ends : (d : Name) (es : List Concrete) → d ≢ c → EndsAt d es all → EndsAt d es sent
    sent_ends d es dc h q = omega (arith, h q, count_sent (aimed d q), count_before (aimed d q), aimed_not d c q e dc)

    pub sent_end : (r : Concrete) → EndsAt c (r ∷ e ∷ []) all → EndsAt c (r ∷ []) sent
    sent_end r h q = omega (arith, h q, count_sent (aimed c q), count_before (aimed c q), aimed_here c q e)

    pub sent_forest : (r : Concrete) → EndsAt c (r ∷ e ∷ []) all → NoLeafIsEmpty all → NoLeafIsEmpty sent
    sent_forest r h forest = send_keeps (same_node same_name) holder-is holder-self (task p) (channel c) (kinds_apart p c) (edges all) (edges sent) within once forest
      where
        once : count (λ e. same_holder (channel c) e.1) (edges sent) ≤ 1
        once = omega (arith, count_at c (r ∷ []) sent (sent_end r h))

        within : Within ((task p, channel c) ∷ map (shift same_holder (task p) (λ e. same_holder (channel c) e.0)) (edges sent)) (edges all)
        within g = omega (arith, count-map g (shift same_holder (task p) (λ e. same_holder (channel c) e.0)) (edges sent), count-map (λ e. g (back e)) edge_of sent, count_sent moved, count_before still, count-map g edge_of all, same_rest, same_moved)
          where
            back : Node Name × Node Name → Node Name × Node Name
            back e = (cond (same_holder (channel c) e.0) (task p) e.0, e.1)

            moved : Test
            moved u = g (cond (same_holder (channel c) u.0) (task p) u.0, channel u.1)

            still : Test
            still u = g (u.0, channel u.1)

            none_c : count (λ u. same_holder (channel c) u.0) (without (task p) all) ≡ 0
            none_c = omega (arith, count_before (λ u. same_holder (channel c) u.0), empty (λ _. true), count_agree (λ u. same_holder (channel c) u.0 && true) (λ u. same_holder (channel c) u.0) (λ u. and_true (same_holder (channel c) u.0)) all)

            same_rest : count moved (without (task p) all) ≡ count still (without (task p) all)
            same_rest = count_except (λ u. same_holder (channel c) u.0) moved still (without (task p) all) none_c (λ u f. rw f refl)

            same_moved : count (λ u. moved (channel c, u.0, u.1)) vs ≡ count (λ u. still (task p, u.0, u.1)) vs
            same_moved = count_agree (λ u. moved (channel c, u.0, u.1)) (λ u. still (task p, u.0, u.1)) (λ u. rw (name-self c) refl) vs

some_of : {X : Type 0} → (X → Bool) → List X → Bool
some_of p [] = false
some_of p (x ∷ xs) = p x || some_of p xs

some_count : {X : Type 0} (p : X → Bool) (xs : List X) → some_of p xs ≡ true → 1 ≤ count p xs
unfolding some_of
some_count p [] e = cc
some_count p (x ∷ xs) e = go (p x) e (some_count p xs)
  where
    go : (b : Bool) → (b || some_of p xs) ≡ true → (some_of p xs ≡ true → 1 ≤ count p xs) → 1 ≤ cond b 1 0 + count p xs
    go true e ih = omega arith
    go false e ih = omega (arith, ih e)

count_some : {X : Type 0} (p : X → Bool) (xs : List X) → some_of p xs ≡ false → count p xs ≡ 0
unfolding some_of
count_some p [] e = refl
count_some p (x ∷ xs) e = go (p x) e (count_some p xs)
  where
    go : (b : Bool) → (b || some_of p xs) ≡ false → (some_of p xs ≡ false → count p xs ≡ 0) → cond b 1 0 + count p xs ≡ 0
    go true e ih = cc
    go false e ih = omega (arith, ih e)

held_none : (n : Node Name) (all : Uses) → Holds n [] all → count (λ u. same_holder n u.0) all ≡ 0
held_none n all h = omega (arith, h (λ _. true), count_agree (λ u. same_holder n u.0 && true) (λ u. same_holder n u.0) (λ u. and_true (same_holder n u.0)) all)

all_gone : (n : Node Name) (all : Uses) → count (λ u. same_holder n u.0) (without n all) ≡ 0
all_gone n all = omega (arith, none_without (λ _. true) n all, count_agree (λ u. same_holder n u.0 && true) (λ u. same_holder n u.0) (λ u. and_true (same_holder n u.0)) (without n all))

-- ---- receive: the task p receives the value of c, whose uses are vs
module _ (all : Uses) (p c : Name) (e : Concrete) (us vs rest : List Use) where
  abbrev emptied : Uses
  emptied = without (channel c) all

  abbrev pub received : Uses
  received = without (task p) emptied ++ held_by (task p) (vs ++ rest)

  abbrev pub Kept : Type 0
  Kept = (q : Use → Bool) → count q us ≡ cond (q (c, e)) 1 0 + count q rest

  module _ (holds : Holds (task p) us all) (split : Kept) (full : Holds (channel c) vs all) where
    holds_still : Holds (task p) us emptied
    holds_still q = holds q ∙ others_held (channel c) vs vs all full (task p) q (kinds_apart p c)

    count_received : (f : Test) → count f received ≡ count f (without (task p) emptied) + (count (λ u. f (task p, u.0, u.1)) vs + count (λ u. f (task p, u.0, u.1)) rest)
    count_received f = omega (arith, count-append f (without (task p) emptied) (held_by (task p) (vs ++ rest)), count-held_by f (task p) (vs ++ rest), count-append (λ (u : Use). f (task p, u.0, u.1)) vs rest)

    count_full : (f : Test) → count f all ≡ count f (without (task p) emptied) + (cond (f (task p, c, e)) 1 0 + (count (λ u. f (task p, u.0, u.1)) rest + count (λ u. f (channel c, u.0, u.1)) vs))
    count_full f = omega (arith, count_all f (channel c) vs all full, count_all f (task p) us emptied holds_still, split (λ u. f (task p, u.0, u.1)))

    pub received_task : Holds (task p) (vs ++ rest) received
    received_task q = omega (arith, count_received (mine (task p) q), none_without q (task p) emptied, mine_here (task p) q rest, mine_here (task p) q vs, count-append q vs rest)

    pub received_channel : Holds (channel c) [] received
    received_channel q = omega (arith, count_received (mine (channel c) q), count_full (mine (channel c) q), full q, mine_here (channel c) q vs, mine_not (channel c) (task p) (λ e. kinds_apart p c (sym e)) q vs, mine_not (channel c) (task p) (λ e. kinds_apart p c (sym e)) q rest)

    pub received_other : (m : Node Name) (ws : List Use) → m ≢ task p → m ≢ channel c → Holds m ws all → Holds m ws received
    received_other m ws mp mc h q = omega (arith, h q, count_received (mine m q), count_full (mine m q), mine_not m (task p) mp q rest, mine_not m (task p) mp q vs, mine_not m (channel c) mc q vs, ap {B = ℕ} (λ b. cond (b && q (c, e)) 1 0) (differ_holder m (task p) mp))

    pub received_ends : (d : Name) (es : List Concrete) → d ≢ c → EndsAt d es all → EndsAt d es received
    received_ends d es dc h q = omega (arith, h q, count_received (aimed d q), count_full (aimed d q), aimed_not d c q e dc)

    pub received_end : EndsAt c (e ∷ []) all → EndsAt c [] received
    received_end h q = omega (arith, h q, count_received (aimed c q), count_full (aimed c q), aimed_here c q e)

    pub received_forest : EndsAt c (e ∷ []) all → NoLeafIsEmpty all → NoLeafIsEmpty received
    unfolding some_of
    received_forest h forest = recv_keeps (same_node same_name) holder-is holder-self (task p) (channel c) (kinds_apart p c) moves moves_is (edges all) (edges received) within gone forest
      where
        hits : Node Name → Bool
        hits n = some_of (λ u. same_holder n (channel u.0)) vs

        moves : Node Name × Node Name → Bool
        moves e = same_holder (task p) e.0 && hits e.1

        moves_is : (e : Node Name × Node Name) → moves e ≡ true → e.0 ≡ task p
        moves_is e f = sym (holder-is (task p) e.0 (and_parts (same_holder (task p) e.0) (hits e.1) f).0)

        gone : degree same_holder (channel c) (edges received) ≡ 0
        gone = omega (arith, count_at c [] received (received_end h), count-map (λ e. same_holder (channel c) e.0) edge_of received, received_channel (λ _. true), count_agree (λ u. same_holder (channel c) u.0 && true) (λ u. same_holder (channel c) u.0) (λ u. and_true (same_holder (channel c) u.0)) received)

        -- what stays with the task goes to no channel to which what it receives goes
        apart : count (λ u. hits (channel u.0)) rest ≡ 0
        apart = by (count (λ u. hits (channel u.0)) rest) refl
          where
            round : (u x : Use) → channel u.0 ≡ channel x.0 → ((f : Use → Bool) → cond (f u) 1 0 ≤ count f rest) → ((f : Use → Bool) → cond (f x) 1 0 ≤ count f vs) → ⊥
            round u x same in_rest in_vs = no_triangle same_holder holder-is holder-self (task p) (channel c) (channel u.0) (edges all)
                (λ g. omega (arith, count-map g edge_of all, count_full (λ u. g (u.0, channel u.1)), in_rest (λ u. g (task p, channel u.0)), rw (← same) at (in_vs (λ x. g (channel c, channel x.0))))) forest

            found : (u : Use) × (hits (channel u.0) ≡ true) × ((f : Use → Bool) → cond (f u) 1 0 ≤ count f rest) → ⊥
            found (u, hit, in_rest) = two (member (λ x. same_holder (channel u.0) (channel x.0)) vs (some_count (λ x. same_holder (channel u.0) (channel x.0)) vs hit))
              where
                two : (x : Use) × (same_holder (channel u.0) (channel x.0) ≡ true) × ((f : Use → Bool) → cond (f x) 1 0 ≤ count f vs) → ⊥
                two (x, same, in_vs) = round u x (holder-is (channel u.0) (channel x.0) same) in_rest in_vs

            by : (k : ℕ) → count (λ u. hits (channel u.0)) rest ≡ k → count (λ u. hits (channel u.0)) rest ≡ 0
            by zero e = e
            by (suc k) e = absurd (found (member (λ u. hits (channel u.0)) rest (omega arith)))

        own : count (λ u. not (hits (channel u.0))) vs ≡ 0
        own = by (count (λ u. not (hits (channel u.0))) vs) refl
          where
            lost : (u : Use) × (not (hits (channel u.0)) ≡ true) × ((f : Use → Bool) → cond (f u) 1 0 ≤ count f vs) → ⊥
            lost (u, miss, in_vs) = omega (arith, in_vs (λ x. same_holder (channel u.0) (channel x.0)), count_some (λ x. same_holder (channel u.0) (channel x.0)) vs (not-true (hits (channel u.0)) miss), ap {B = ℕ} (λ b. cond b 1 0) (name-self u.0))

            by : (k : ℕ) → count (λ u. not (hits (channel u.0))) vs ≡ k → count (λ u. not (hits (channel u.0))) vs ≡ 0
            by zero e = e
            by (suc k) e = absurd (lost (member (λ u. not (hits (channel u.0))) vs (omega arith)))

        within : Within ((task p, channel c) ∷ map (shift same_holder (channel c) moves) (edges received)) (edges all)
        within g = omega (arith, count-map g (shift same_holder (channel c) moves) (edges received), count-map (λ e. g (cond (moves e) (channel c) e.0, e.1)) edge_of received, count_received moved, count_full still, count-map g edge_of all, same_others, same_rest, same_moved)
          where
            moved : Test
            moved u = g (cond (moves (edge_of u)) (channel c) u.0, channel u.1)

            still : Test
            still u = g (u.0, channel u.1)

            same_others : count moved (without (task p) emptied) ≡ count still (without (task p) emptied)
            same_others = count_except (λ u. same_holder (task p) u.0) moved still (without (task p) emptied) (all_gone (task p) emptied) (λ u f. rw f refl)

            same_rest : count (λ u. moved (task p, u.0, u.1)) rest ≡ count (λ u. still (task p, u.0, u.1)) rest
            same_rest = count_except (λ u. hits (channel u.0)) (λ u. moved (task p, u.0, u.1)) (λ u. still (task p, u.0, u.1)) rest apart (λ u f. rw (name-self p, f) refl)

            same_moved : count (λ u. moved (task p, u.0, u.1)) vs ≡ count (λ u. still (channel c, u.0, u.1)) vs
            same_moved = count_except (λ u. not (hits (channel u.0))) (λ u. moved (task p, u.0, u.1)) (λ u. still (channel c, u.0, u.1)) vs own (λ u f. rw (name-self p, not-false (hits (channel u.0)) f) refl)

-- ---- fork: the task p makes c, with the end e₁ of the channel c for itself and e₂ for the new task, to which it gives vs
module _ (all : Uses) (p c : Name) (e₁ e₂ : Concrete) (us vs rest : List Use) where
  abbrev base : Uses
  base = without (task p) all ++ (held_by (task p) rest ++ held_by (task c) vs)

  abbrev pub forked : Uses
  forked = without (task p) all ++ (held_by (task p) ((c, e₁) ∷ rest) ++ held_by (task c) ((c, e₂) ∷ vs))

  abbrev pub Given : Type 0
  Given = (q : Use → Bool) → count q us ≡ count q vs + count q rest

  module _ (apart : p ≢ c) (holds : Holds (task p) us all) (split : Given) (no_task : Holds (task c) [] all) (no_channel : Holds (channel c) [] all) (no_ends : EndsAt c [] all) where
    count_base : (f : Test) → count f base ≡ count f (without (task p) all) + (count (λ u. f (task p, u.0, u.1)) rest + count (λ u. f (task c, u.0, u.1)) vs)
    count_base f = omega (arith, count-append f (without (task p) all) (held_by (task p) rest ++ held_by (task c) vs), count-append f (held_by (task p) rest) (held_by (task c) vs), count-held_by f (task p) rest, count-held_by f (task c) vs)

    count_forked : (f : Test) → count f forked ≡ cond (f (task p, c, e₁)) 1 0 + (cond (f (task c, c, e₂)) 1 0 + count f base)
    count_forked f = omega (arith, count_base f, count-append f (without (task p) all) (held_by (task p) ((c, e₁) ∷ rest) ++ held_by (task c) ((c, e₂) ∷ vs)), count-append f (held_by (task p) ((c, e₁) ∷ rest)) (held_by (task c) ((c, e₂) ∷ vs)), count-held_by f (task p) rest, count-held_by f (task c) vs)

    count_old : (f : Test) → count f all ≡ count f (without (task p) all) + (count (λ u. f (task p, u.0, u.1)) rest + count (λ u. f (task p, u.0, u.1)) vs)
    count_old f = omega (arith, count_all f (task p) us all holds, split (λ u. f (task p, u.0, u.1)))

    pc : task p ≢ task c
    pc = task_apart p c apart

    one : (m n : Node Name) (q : Use → Bool) (u : Use) → m ≢ n → ◌≡◌ {A = ℕ} (cond (mine m q (n, u.0, u.1)) 1 0) 0
    one m n q u h = rw (differ_holder m n h) refl

    same_one : (m : Node Name) (q : Use → Bool) (u : Use) → ◌≡◌ {A = ℕ} (cond (mine m q (m, u.0, u.1)) 1 0) (cond (q u) 1 0)
    same_one m q u = rw (holder-self m) refl

    pub forked_parent : Holds (task p) ((c, e₁) ∷ rest) forked
    forked_parent q = omega (arith, count_forked (mine (task p) q), count_base (mine (task p) q), none_without q (task p) all, mine_here (task p) q rest, mine_not (task p) (task c) pc q vs, same_one (task p) q (c, e₁), one (task p) (task c) q (c, e₂) pc)

    pub forked_child : Holds (task c) ((c, e₂) ∷ vs) forked
    forked_child q = omega (arith, no_task q, count_forked (mine (task c) q), count_base (mine (task c) q), count_old (mine (task c) q), mine_here (task c) q vs, mine_not (task c) (task p) (λ e. pc (sym e)) q rest, same_one (task c) q (c, e₂), one (task c) (task p) q (c, e₁) (λ e. pc (sym e)))

    pub forked_other : (m : Node Name) (ws : List Use) → m ≢ task p → m ≢ task c → Holds m ws all → Holds m ws forked
    forked_other m ws mp mc h q = omega (arith, h q, count_forked (mine m q), count_base (mine m q), others_held (task p) us us all holds m q mp, mine_not m (task p) mp q rest, mine_not m (task c) mc q vs, one m (task p) q (c, e₁) mp, one m (task c) q (c, e₂) mc)

    pub forked_ends : (d : Name) (es : List Concrete) → d ≢ c → EndsAt d es all → EndsAt d es forked
    forked_ends d es dc h q = omega (arith, h q, count_forked (aimed d q), count_base (aimed d q), count_old (aimed d q), aimed_not d c q e₁ dc, aimed_not d c q e₂ dc)

    pub forked_end : EndsAt c (e₁ ∷ e₂ ∷ []) forked
    forked_end q = omega (arith, no_ends q, count_forked (aimed c q), count_base (aimed c q), count_old (aimed c q), aimed_here c q e₁, aimed_here c q e₂)

    pub forked_forest : NoLeafIsEmpty all → NoLeafIsEmpty forked
    forked_forest forest = fork_keeps (same_node same_name) holder-is holder-self (task p) (task c) (channel c) pc (kinds_apart p c) (kinds_apart c c) (edges all) (edges forked) (edges base) after within no_c no_q forest
      where
        after : Within (edges forked) ((task p, channel c) ∷ (task c, channel c) ∷ edges base)
        after g = omega (arith, count-map g edge_of forked, count-map g edge_of base, count_forked (λ u. g (edge_of u)))

        ends_base : EndsAt c [] base
        ends_base q = omega (arith, no_ends q, count_base (aimed c q), count_old (aimed c q))

        none_held : count (λ u. same_holder (channel c) u.0) base ≡ 0
        none_held = omega (arith, held_none (channel c) all no_channel, count_base (λ u. same_holder (channel c) u.0), count_old (λ u. same_holder (channel c) u.0), count_false (λ (u : Use). same_holder (channel c) (task p)) (λ u. refl) rest, count_false (λ (u : Use). same_holder (channel c) (task c)) (λ u. refl) vs)

        no_c : degree same_holder (channel c) (edges base) ≡ 0
        no_c = omega (arith, count_at c [] base ends_base, count-map (λ e. same_holder (channel c) e.0) edge_of base, none_held)

        no_q : count (λ e. same_holder (task c) e.1) (edges base) ≡ 0
        no_q = omega (arith, count-map (λ e. same_holder (task c) e.1) edge_of base, count_false (λ u. same_holder (task c) (channel u.1)) (λ u. refl) base)

        within : Within (map (shift same_holder (task p) (λ e. same_holder (task c) e.0)) (edges base)) (edges all)
        within g = omega (arith, count-map g (shift same_holder (task p) (λ e. same_holder (task c) e.0)) (edges base), count-map (λ e. g (cond (same_holder (task c) e.0) (task p) e.0, e.1)) edge_of base, count-map g edge_of all, count_base moved, count_old still, same_others, same_rest, same_moved)
          where
            moved : Test
            moved u = g (cond (same_holder (task c) u.0) (task p) u.0, channel u.1)

            still : Test
            still u = g (u.0, channel u.1)

            same_others : count moved (without (task p) all) ≡ count still (without (task p) all)
            same_others = count_except (λ u. same_holder (task c) u.0) moved still (without (task p) all) (omega (arith, held_none (task c) all no_task, count_all (λ u. same_holder (task c) u.0) (task p) us all holds)) (λ u f. rw f refl)

            same_rest : count (λ u. moved (task p, u.0, u.1)) rest ≡ count (λ u. still (task p, u.0, u.1)) rest
            same_rest = count_agree (λ u. moved (task p, u.0, u.1)) (λ u. still (task p, u.0, u.1)) (λ u. rw (differ_name c p (λ e. apart (sym e))) refl) rest

            same_moved : count (λ u. moved (task c, u.0, u.1)) vs ≡ count (λ u. still (task p, u.0, u.1)) vs
            same_moved = count_agree (λ u. moved (task c, u.0, u.1)) (λ u. still (task p, u.0, u.1)) (λ u. rw (name-self c) refl) vs
