-- What is kept by whoever is elsewhere, and what a task's new place keeps.
use Rattle.std.proofs.Common.{◌≡◌, ◌≢◌, ℕ, ◌≤◌, Bool, true, false, cond, List, [], ◌∷◌, Option, Some, None, refl, sym, ◌∙◌, arith, ℤ}
use Rattle.std.specs.FinMap.{FinMap, get, insert, remove, get-insert, get-remove}
use Rattle.std.specs.Ordering.{nat_cmp}
use Rattle.std.specs.Cmp.Lexicographic.{slice_cmp, nat_list_cmp_total}
use Rattle.core_language.specs.Names.{Name, child, same_name}
use Rattle.core_language.specs.Resources.{Proto}
use Rattle.core_language.specs.Values.{Value}
use Rattle.core_language.specs.Configurations.{Config, Place, Task}
use Rattle.core_language.specs.Steps.{with_task}
use Rattle.graphs.specs.Graph.{task, channel}
use Rattle.moved_uses.proofs.Bags.{name-is, name-self}
use Rattle.outline_language.specs.Equations.{Concrete, opposite}
use Rattle.good_configurations.specs.Values.{Use}
use Rattle.good_configurations.specs.Uses.{Uses, Holds, EndsAt}
use Rattle.good_configurations.specs.Acts.{Typing, Stands}
use Rattle.good_configurations.specs.Good.{TaskGood, ChannelGood, Good, forks_at}

-- what holds of each name after one was set
pub by_name : {X : Type 0} (m : FinMap {K = Name} (slice_cmp nat_cmp) X) (p : Name) (x : X) (Goal : Option X → Type 0) (q : Name) → (q ≡ p → Goal (Some x)) → (q ≢ p → Goal (get m q)) → Goal (get (insert m p x) q)
by_name m p x Goal q here there = rw (get-insert nat_list_cmp_total m p x q) (go (same_name q p) refl)
  where
    go : (b : Bool) → same_name q p ≡ b → Goal (cond b (Some x) (get m q))
    go true e = here (name-is q p e)
    go false e = there (λ same. let z : same_name q p ≡ true = rw same (name-self p) in cc)

pub by_name_removed : {X : Type 0} (m : FinMap {K = Name} (slice_cmp nat_cmp) X) (p : Name) (Goal : Option X → Type 0) (q : Name) → (q ≡ p → Goal None) → (q ≢ p → Goal (get m q)) → Goal (get (remove m p) q)
by_name_removed m p Goal q here there = rw (get-remove nat_list_cmp_total m p q) (go (same_name q p) refl)
  where
    go : (b : Bool) → same_name q p ≡ b → Goal (cond b None (get m q))
    go true e = here (name-is q p e)
    go false e = there (λ same. let z : same_name q p ≡ true = rw same (name-self p) in cc)

-- the forks of no task are fewer, where one task that is there has another place and count
pub forks_set : (C : Config) (p : Name) (t : Task) (place : Place) (k : ℕ) → get (C.tasks) p ≡ Some t → t.forks ≤ k → (q : Name) → forks_at (get (C.tasks) q) ≤ forks_at (get (insert (C.tasks) p (record { place = place; forks = k })) q)
forks_set C p t place k at_p le q = by_name (C.tasks) p (record { place = place; forks = k }) (λ o. forks_at (get (C.tasks) q) ≤ forks_at o) q (λ same. rw (same, at_p) le) (λ apart. omega arith)

pub present_set : (C : Config) (p : Name) (t : Task) (u : Task) → get (C.tasks) p ≡ Some t → (q : Name) → get (insert (C.tasks) p u) q ≢ None → get (C.tasks) q ≢ None
present_set C p t u at_p q = by_name (C.tasks) p u (λ o. o ≢ None → get (C.tasks) q ≢ None) q (λ same some none. let z : get (C.tasks) q ≡ Some t = rw same at_p in cc) (λ apart some. some)

module _ (protos : List Proto) (Typed : Typing) where
  pub stands_good : (all : Uses) (p : Name) (place : Place) (k : ℕ) (us : List Use) → Stands Typed place us → Holds (task p) us all → TaskGood Typed all p (Some (record { place = place; forks = k }))
  stands_good all p place k us (vs, same, typed) holds = (vs, typed, λ q. sym (same q) ∙ holds q)

  pub move_task : (all after : Uses) (q : Name) (o : Option Task) → ((ws : List Use) → Holds (task q) ws all → Holds (task q) ws after) → TaskGood Typed all q o → TaskGood Typed after q o
  move_task all after q None h good = h [] good
  move_task all after q (Some t) h (us, typed, holds) = (us, typed, h us holds)

  pub move_channel : (all after : Uses) (E : Name → Concrete) (c : Name) (o : Option (Option Value)) → ((ws : List Use) → Holds (channel c) ws all → Holds (channel c) ws after) → ((es : List Concrete) → EndsAt c es all → EndsAt c es after) → ChannelGood protos E all c o → ChannelGood protos E after c o
  move_channel all after E c None h g (held, ends) = (h [] held, g [] ends)
  move_channel all after E c (Some None) h g (held, ends, way) = (h [] held, g (E c ∷ opposite (E c) ∷ []) ends, way)
  move_channel all after E c (Some (Some v)) h g ((us, message, held), ends, way) = ((us, message, h us held), g (E c ∷ []) ends, way)

  -- one task has another place, with the same uses
  pub same_uses : (C : Config) (good : Good protos Typed C) (p : Name) (t : Task) (place : Place) (us : List Use) → get (C.tasks) p ≡ Some t → Holds (task p) us (good.uses) → Stands Typed place us → Good protos Typed (with_task C p place (t.forks))
  same_uses C good p t place us at_p holds stands = record {
    ends = good.ends;
    uses = good.uses;
    tasks = λ q. by_name (C.tasks) p (record { place = place; forks = t.forks }) (TaskGood Typed (good.uses) q) q (λ same. rw same (stands_good (good.uses) p place (t.forks) us stands holds)) (λ apart. good.tasks q);
    channels = good.channels;
    forest = good.forest;
    named_task = λ q k some. omega (arith, good.named_task q k (present_set C p t (record { place = place; forks = t.forks }) at_p (child q k) some), forks_set C p t place (t.forks) at_p (omega arith) q);
    named_channel = λ q k some. omega (arith, good.named_channel q k some, forks_set C p t place (t.forks) at_p (omega arith) q);
  }

  pub with_prints : (C : Config) (ps : List (Name × ℤ)) → Good protos Typed C → Good protos Typed (record C { prints = ps })
  with_prints C ps good = record { ends = good.ends; uses = good.uses; tasks = good.tasks; channels = good.channels; forest = good.forest; named_task = good.named_task; named_channel = good.named_channel }
