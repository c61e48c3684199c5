-- Steps that fork keep what is good.
use Rattle.std.proofs.Common.{◌≡◌, ◌≢◌, ℕ, suc, ◌+◌, ◌≤◌, ◌<◌, Bool, cond, List, [], ◌∷◌, ◌++◌, Option, Some, None, refl, ap, sym, ◌∙◌, ◌⊎◌, inl, inr, arith}
use Rattle.std.specs.FinMap.{get, insert}
use Rattle.core_language.specs.Names.{Name, child, same_name}
use Rattle.core_language.specs.Resources.{Proto}
use Rattle.core_language.specs.Values.{Value}
use Rattle.core_language.specs.Configurations.{Config, Place, Task}
use Rattle.core_language.specs.Steps.{forked, after_step}
use Rattle.graphs.specs.Graph.{count, Node, task, channel}
use Rattle.graphs.proofs.Counts.{count-append}
use Rattle.moved_uses.proofs.Bags.{name-self, differ_name}
use Rattle.moved_uses.proofs.Moving.{forked_parent, forked_child, forked_other, forked_ends, forked_end, forked_forest, task_apart, kinds_apart}
use Rattle.moved_uses.proofs.Moving as moved
use Rattle.outline_language.specs.Equations.{Sends, Receives, Concrete, opposite}
use Rattle.good_configurations.specs.Values.{Use}
use Rattle.good_configurations.specs.Uses.{Uses, AreSame, Holds, EndsAt}
use Rattle.good_configurations.specs.Messages.{Does}
use Rattle.good_configurations.specs.Acts.{Typing, Stands}
use Rattle.good_configurations.specs.Good.{TaskGood, ChannelGood, Good, forks_at}
use Rattle.good_steps.proofs.Heads.{twice, opposite_does}
use Rattle.good_steps.proofs.Keeping.{by_name, forks_set, present_set, stands_good, move_task, move_channel}

-- ---- names of children
pub nil_not : {X : Type 0} (xs : List X) (x : X) → xs ++ (x ∷ []) ≡ [] → ⊥
nil_not [] x e = some_nil e
  where
    some_nil : {X : Type 0} {x : X} {xs : List X} → x ∷ xs ≡ [] → ⊥
    some_nil e = cc
nil_not (y ∷ xs) x e = some_nil e
  where
    some_nil : {X : Type 0} {x : X} {xs : List X} → x ∷ xs ≡ [] → ⊥
    some_nil e = cc

pub child_same : (p q : Name) (j k : ℕ) → child p j ≡ child q k → (p ≡ q) × (j ≡ k)
child_same [] [] j k e = (refl, cc)
child_same [] (y ∷ q) j k e = absurd (nil_not q k (tails e))
  where
    tails : j ∷ [] ≡ y ∷ (q ++ (k ∷ [])) → q ++ (k ∷ []) ≡ []
    tails e = cc
child_same (x ∷ p) [] j k e = absurd (nil_not p j (tails e))
  where
    tails : x ∷ (p ++ (j ∷ [])) ≡ k ∷ [] → p ++ (j ∷ []) ≡ []
    tails e = cc
child_same (x ∷ p) (y ∷ q) j k e = let r = child_same p q j k (tails e) in (joined (heads e) (r.0), r.1)
  where
    tails : x ∷ (p ++ (j ∷ [])) ≡ y ∷ (q ++ (k ∷ [])) → p ++ (j ∷ []) ≡ q ++ (k ∷ [])
    tails e = cc

    heads : x ∷ (p ++ (j ∷ [])) ≡ y ∷ (q ++ (k ∷ [])) → x ≡ y
    heads e = cc

    joined : x ≡ y → p ≡ q → x ∷ p ≡ y ∷ q
    joined e f = cc

pub not_some : {X : Type 0} (o : Option X) → (o ≢ None → ⊥) → o ≡ None
not_some None h = refl
not_some (Some x) h = absurd (h (λ e. cc))

-- another end at one name
abbrev set_end : (Name → Concrete) → Name → Concrete → Name → Concrete
set_end E c e d = cond (same_name d c) e (E d)

swap_ends : (c : Name) (a b : Concrete) (all : Uses) → EndsAt c (a ∷ b ∷ []) all → EndsAt c (b ∷ a ∷ []) all
swap_ends c a b all h q = omega (arith, h q)

other_ends : (protos : List Proto) (E F : Name → Concrete) (all : Uses) (d : Name) (o : Option (Option Value)) → E d ≡ F d → ChannelGood protos E all d o → ChannelGood protos F all d o
other_ends protos E F all d None e h = h
other_ends protos E F all d (Some None) e h = rw e at h
other_ends protos E F all d (Some (Some v)) e h = rw e at h

module _ (protos : List Proto) (Typed : Typing) (C : Config) (good : Good protos Typed C) where
  pub fresh_task : (p : Name) (t : Task) → get (C.tasks) p ≡ Some t → get (C.tasks) (child p (t.forks)) ≡ None
  fresh_task p t e = not_some (get (C.tasks) (child p (t.forks))) (λ some. omega (arith, good.named_task p (t.forks) some, ap forks_at e))

  pub fresh_channel : (p : Name) (t : Task) → get (C.tasks) p ≡ Some t → get (C.channels) (child p (t.forks)) ≡ None
  fresh_channel p t e = not_some (get (C.channels) (child p (t.forks))) (λ some. omega (arith, good.named_channel p (t.forks) some, ap forks_at e))

  module _ (p : Name) (t : Task) (at_p : get (C.tasks) p ≡ Some t) (us : List Use) (holds : Holds (task p) us (good.uses)) where
    abbrev new : Name
    new = child p (t.forks)

    no_task_yet : get (C.tasks) new ≡ None
    no_task_yet = fresh_task p t at_p

    no_channel_yet : get (C.channels) new ≡ None
    no_channel_yet = fresh_channel p t at_p

    no_task_uses : Holds (task new) [] (good.uses)
    no_task_uses = rw no_task_yet at (good.tasks new)

    no_channel_uses : Holds (channel new) [] (good.uses) × EndsAt new [] (good.uses)
    no_channel_uses = rw no_channel_yet at (good.channels new)

    new_apart : p ≢ new
    new_apart same = let z : get (C.tasks) p ≡ None = ap (λ n. get (C.tasks) n) same ∙ no_task_yet in none_some (sym at_p ∙ z)
      where
        none_some : {X : Type 0} {x : X} → Some x ≡ None → ⊥
        none_some e = cc

    -- the configuration after the fork is good
    pub fork_good : (e : Concrete) (vs rest : List Use) → AreSame us (vs ++ rest) → Does protos e Sends ⊎ Does protos e Receives → (mine its : Place) →
        Stands Typed mine ((new, e) ∷ rest) → Stands Typed its ((new, opposite e) ∷ vs) → Good protos Typed (after_step C (forked C p (t.forks) new mine its))
    fork_good e vs rest split does mine its parent_stands child_stands = go does
      where
        after : Uses
        after = moved.forked (good.uses) p new e (opposite e) us vs rest

        parts : (q : Use → Bool) → count q us ≡ count q vs + count q rest
        parts q = omega (arith, split q, count-append q vs rest)

        new_ends : EndsAt new (e ∷ opposite e ∷ []) after
        new_ends = forked_end (good.uses) p new e (opposite e) us vs rest new_apart holds parts no_task_uses (no_channel_uses.0) (no_channel_uses.1)

        other : (m : Node Name) (ws : List Use) → m ≢ task p → m ≢ task new → Holds m ws (good.uses) → Holds m ws after
        other m ws mp mc h = forked_other (good.uses) p new e (opposite e) us vs rest new_apart holds parts no_task_uses (no_channel_uses.0) (no_channel_uses.1) m ws mp mc h

        parent : Task
        parent = record { place = mine; forks = suc (t.forks) }

        born : Task
        born = record { place = its; forks = 0 }

        more_forks : (q : Name) → forks_at (get (C.tasks) q) ≤ forks_at (get (insert (insert (C.tasks) p parent) new born) q)
        more_forks q = by_name (insert (C.tasks) p parent) new born (λ o. forks_at (get (C.tasks) q) ≤ forks_at o) q (λ same. rw (same, no_task_yet) (omega arith)) (λ apart. forks_set C p t mine (suc (t.forks)) at_p (omega arith) q)

        own_forks : t.forks < forks_at (get (insert (insert (C.tasks) p parent) new born) p)
        own_forks = by_name (insert (C.tasks) p parent) new born (λ o. t.forks < forks_at o) p (λ same. absurd (new_apart same)) (λ apart. by_name (C.tasks) p parent (λ o. t.forks < forks_at o) p (λ same. omega arith) (λ apart. absurd (apart refl)))

        fresh_one : (q : Name) (k : ℕ) → child q k ≡ new → k < forks_at (get (insert (insert (C.tasks) p parent) new born) q)
        fresh_one q k e = let r = child_same q p k (t.forks) e in rw (r.0, r.1) own_forks

        made : (E : Name → Concrete) → ((d : Name) → d ≢ new → E d ≡ good.ends d) → EndsAt new (E new ∷ opposite (E new) ∷ []) after → Does protos (E new) Receives → Good protos Typed (after_step C (forked C p (t.forks) new mine its))
        made E same_else ends way = record {
          ends = E;
          uses = after;
          tasks = λ q. by_name (insert (C.tasks) p parent) new born (TaskGood Typed after q) q
              (λ same. rw same (stands_good protos Typed after new its 0 ((new, opposite e) ∷ vs) child_stands (forked_child (good.uses) p new e (opposite e) us vs rest new_apart holds parts no_task_uses (no_channel_uses.0) (no_channel_uses.1))))
              (λ apart. by_name (C.tasks) p parent (TaskGood Typed after q) q
              (λ same. rw same (stands_good protos Typed after p mine (suc (t.forks)) ((new, e) ∷ rest) parent_stands (forked_parent (good.uses) p new e (opposite e) us vs rest new_apart holds parts no_task_uses (no_channel_uses.0) (no_channel_uses.1))))
              (λ apart'. move_task protos Typed (good.uses) after q (get (C.tasks) q) (λ ws. other (task q) ws (task_apart q p apart') (task_apart q new apart)) (good.tasks q)));
          channels = λ d. by_name (C.channels) new None (ChannelGood protos E after d) d
              (λ same. rw same (other (channel new) [] (λ z. kinds_apart p new (sym z)) (λ z. kinds_apart new new (sym z)) (no_channel_uses.0), ends, way))
              (λ apart. other_ends protos (good.ends) E after d (get (C.channels) d) (sym (same_else d apart)) (move_channel protos Typed (good.uses) after (good.ends) d (get (C.channels) d) (λ ws. other (channel d) ws (λ z. kinds_apart p d (sym z)) (λ z. kinds_apart new d (sym z))) (λ qs. forked_ends (good.uses) p new e (opposite e) us vs rest new_apart holds parts no_task_uses (no_channel_uses.0) (no_channel_uses.1) d qs apart) (good.channels d)));
          forest = forked_forest (good.uses) p new e (opposite e) us vs rest new_apart holds parts no_task_uses (no_channel_uses.0) (no_channel_uses.1) (good.forest);
          named_task = λ q k. by_name (insert (C.tasks) p parent) new born (λ o. o ≢ None → k < forks_at (get (insert (insert (C.tasks) p parent) new born) q)) (child q k)
              (λ same some. fresh_one q k same) (λ apart some. omega (arith, good.named_task q k (present_set C p t parent at_p (child q k) some), more_forks q));
          named_channel = λ q k. by_name (C.channels) new None (λ o. o ≢ None → k < forks_at (get (insert (insert (C.tasks) p parent) new born) q)) (child q k)
              (λ same some. fresh_one q k same) (λ apart some. omega (arith, good.named_channel q k some, more_forks q));
        }

        at_new : (a : Concrete) → set_end (good.ends) new a new ≡ a
        at_new a = rw (name-self new) refl

        go : Does protos e Sends ⊎ Does protos e Receives → Good protos Typed (after_step C (forked C p (t.forks) new mine its))
        go (inr receives) = made (set_end (good.ends) new e) (λ d apart. rw (differ_name d new apart) refl) (rw (at_new e) new_ends) (rw (at_new e) receives)
        go (inl sends) = made (set_end (good.ends) new (opposite e)) (λ d apart. rw (differ_name d new apart) refl) (rw (at_new (opposite e), twice e) (swap_ends new e (opposite e) after new_ends)) (rw (at_new (opposite e)) (opposite_does protos e Sends sends))
