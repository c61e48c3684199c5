-- Steps that send and receive keep what is good.
use Rattle.std.proofs.Common.{◌≡◌, ◌≢◌, ℕ, ◌+◌, ◌≤◌, Bool, cond, ◌&&◌, List, [], ◌∷◌, ◌++◌, Option, Some, None, refl, ap, sym, ◌∙◌, ◌⊎◌, inl, inr, arith, subst}
use Rattle.std.specs.FinMap.{get, insert, remove}
use Rattle.core_language.specs.Names.{Name, child, same_name}
use Rattle.core_language.specs.Resources.{Proto}
use Rattle.core_language.specs.Values.{Value}
use Rattle.core_language.specs.Configurations.{Config, Place, Task}
use Rattle.core_language.specs.Steps.{Step, sent, received, after_step}
use Rattle.core_language.specs.Schedules.{IsStuckStep}
use Rattle.graphs.specs.Graph.{count, task, channel, same_node}
use Rattle.graphs.proofs.Counts.{count_cases, count-append}
use Rattle.moved_uses.proofs.Bags.{name-self}
use Rattle.moved_uses.proofs.Moving.{task_apart, channel_apart, kinds_apart, sent_task, sent_channel, sent_other, sent_ends, sent_end, sent_forest, received_task, received_channel, received_other, received_ends, received_end, received_forest}
use Rattle.moved_uses.proofs.Moving as moved
use Rattle.outline_language.specs.Equations.{Sends, Receives, Concrete, opposite}
use Rattle.good_configurations.specs.Values.{Use}
use Rattle.good_configurations.specs.Uses.{Uses, AreSame, Holds, EndsAt}
use Rattle.good_configurations.specs.Messages.{Does, Carries}
use Rattle.good_configurations.specs.Acts.{Typing, Stands}
use Rattle.good_configurations.specs.Good.{TaskGood, ChannelGood, Good}
use Rattle.good_steps.proofs.Heads.{twice, opposite_carries, not_both}
use Rattle.good_steps.proofs.SameEnds.{same_concrete, one_of, one_of_one, one_of_two}
use Rattle.good_steps.proofs.Keeping.{by_name, by_name_removed, forks_set, present_set, stands_good, move_task, move_channel}

module _ (protos : List Proto) (Typed : Typing) where
  -- the step isn't stuck, and what it leaves is good
  abbrev pub Fine : Config → Step → Type 0
  Fine C s = Good protos Typed (after_step C s) × (IsStuckStep s → ⊥)

  module _ (C : Config) (good : Good protos Typed C) (p : Name) (t : Task) (at_p : get (C.tasks) p ≡ Some t) (us : List Use) (holds : Holds (task p) us (good.uses)) (c : Name) (e : Concrete) where
    -- an end that the task has is one of its channel's
    pub is_end : (rest : List Use) → AreSame us ((c, e) ∷ rest) → (es : List Concrete) → EndsAt c es (good.uses) → 1 ≤ count (same_concrete e) es
    is_end rest split es ends = one_of e es (λ q. omega (arith, ends q, holds (λ u. same_name c u.0 && q u.1), count_cases (λ u. same_node same_name (task p) u.0) (λ u. same_name c u.1 && q u.2) (good.uses), split (λ u. same_name c u.0 && q u.1), here q))
      where
        here : (q : Concrete → Bool) → ◌≡◌ {A = ℕ} (cond (same_name c c && q e) 1 0) (cond (q e) 1 0)
        here q = rw (name-self c) refl

    pub send_fine : (v : Value) (place : Place) (vs rest : List Use) → AreSame us ((c, e) ∷ (vs ++ rest)) → Does protos e Sends → Carries protos e v vs → Stands Typed place rest → Fine C (sent C p (t.forks) c v place (get (C.channels) c))
    send_fine v place vs rest split sends message stands = by (get (C.channels) c) refl (good.channels c)
      where
        member : (es : List Concrete) → EndsAt c es (good.uses) → 1 ≤ count (same_concrete e) es
        member es ends = is_end (vs ++ rest) split es ends

        parts : (q : Use → Bool) → count q us ≡ cond (q (c, e)) 1 0 + (count q vs + count q rest)
        parts q = omega (arith, split q, count-append q vs rest)

        by : (o : Option (Option Value)) → get (C.channels) c ≡ o → ChannelGood protos (good.ends) (good.uses) c o → Fine C (sent C p (t.forks) c v place o)
        by None f (held, ends) = absurd (omega (arith, member [] ends))
        by (Some (Some u)) f (held, ends, way) = not_both protos e sends (rw (← one_of_one e (good.ends c) (member (good.ends c ∷ []) ends)) at way)
        by (Some None) f (held, ends, way) = pick (one_of_two e (good.ends c) (opposite (good.ends c)) (member (good.ends c ∷ opposite (good.ends c) ∷ []) ends))
          where
            pick : (e ≡ good.ends c) ⊎ (e ≡ opposite (good.ends c)) → Fine C (sent C p (t.forks) c v place (Some None))
            pick (inl same) = not_both protos e sends (rw (← same) at way)
            pick (inr other) = (
              record {
                ends = good.ends;
                uses = after;
                tasks = λ q. by_name (C.tasks) p (record { place = place; forks = t.forks }) (TaskGood Typed after q) q
                    (λ same. rw same (stands_good protos Typed after p place (t.forks) rest stands (sent_task (good.uses) p c e us vs rest holds parts held)))
                    (λ apart. move_task protos Typed (good.uses) after q (get (C.tasks) q) (λ ws. sent_other (good.uses) p c e us vs rest holds parts held (task q) ws (task_apart q p apart) (kinds_apart q c)) (good.tasks q));
                channels = λ d. by_name (C.channels) c (Some v) (ChannelGood protos (good.ends) after d) d
                    (λ same. rw same ((vs, has_message, sent_channel (good.uses) p c e us vs rest holds parts held), one_end, way))
                    (λ apart. move_channel protos Typed (good.uses) after (good.ends) d (get (C.channels) d) (λ ws. sent_other (good.uses) p c e us vs rest holds parts held (channel d) ws (λ z. kinds_apart p d (sym z)) (channel_apart d c apart)) (λ qs. sent_ends (good.uses) p c e us vs rest holds parts held d qs apart) (good.channels d));
                forest = sent_forest (good.uses) p c e us vs rest holds parts held (good.ends c) both_ends (good.forest);
                named_task = λ q k some. omega (arith, good.named_task q k (present_set C p t (record { place = place; forks = t.forks }) at_p (child q k) some), forks_set C p t place (t.forks) at_p (omega arith) q);
                named_channel = λ q k some. omega (arith, good.named_channel q k (there (child q k) some), forks_set C p t place (t.forks) at_p (omega arith) q);
              },
              λ z. z,
            )
              where
                after : Uses
                after = moved.sent (good.uses) p c e us vs rest

                both_ends : EndsAt c (good.ends c ∷ e ∷ []) (good.uses)
                both_ends = rw other ends

                one_end : EndsAt c (good.ends c ∷ []) after
                one_end = sent_end (good.uses) p c e us vs rest holds parts held (good.ends c) both_ends

                has_message : Carries protos (good.ends c) v vs
                has_message = subst (λ z. Carries protos z v vs) (ap opposite other ∙ twice (good.ends c)) (opposite_carries protos e v vs message)

                there : (d : Name) → get (insert (C.channels) c (Some v)) d ≢ None → get (C.channels) d ≢ None
                there d = by_name (C.channels) c (Some v) (λ o. o ≢ None → get (C.channels) d ≢ None) d (λ same some none. let z : get (C.channels) d ≡ Some None = rw same f in cc) (λ apart some. some)

    pub recv_fine : (place : Value → Place) (rest : List Use) → AreSame us ((c, e) ∷ rest) → Does protos e Receives → ((v : Value) (vs : List Use) → Carries protos e v vs → Stands Typed (place v) (vs ++ rest)) → Fine C (received C p (t.forks) c place (get (C.channels) c))
    recv_fine place rest split receives goes_on = by (get (C.channels) c) refl (good.channels c)
      where
        member : (es : List Concrete) → EndsAt c es (good.uses) → 1 ≤ count (same_concrete e) es
        member es ends = is_end rest split es ends

        parts : (q : Use → Bool) → count q us ≡ cond (q (c, e)) 1 0 + count q rest
        parts q = omega (arith, split q)

        by : (o : Option (Option Value)) → get (C.channels) c ≡ o → ChannelGood protos (good.ends) (good.uses) c o → Fine C (received C p (t.forks) c place o)
        by None f (held, ends) = absurd (omega (arith, member [] ends))
        by (Some None) f (held, ends, way) = (good, λ z. z)
        by (Some (Some v)) f ((vs, message, held), ends, way) = close (one_of_one e (good.ends c) (member (good.ends c ∷ []) ends))
          where
            close : e ≡ good.ends c → Fine C (received C p (t.forks) c place (Some (Some v)))
            close same = (
              record {
                ends = good.ends;
                uses = after;
                tasks = λ q. by_name (C.tasks) p (record { place = place v; forks = t.forks }) (TaskGood Typed after q) q
                    (λ same. rw same (stands_good protos Typed after p (place v) (t.forks) (vs ++ rest) (goes_on v vs carried) (received_task (good.uses) p c e us vs rest holds parts held)))
                    (λ apart. move_task protos Typed (good.uses) after q (get (C.tasks) q) (λ ws. received_other (good.uses) p c e us vs rest holds parts held (task q) ws (task_apart q p apart) (kinds_apart q c)) (good.tasks q));
                channels = λ d. by_name_removed (C.channels) c (ChannelGood protos (good.ends) after d) d
                    (λ same. rw same (received_channel (good.uses) p c e us vs rest holds parts held, received_end (good.uses) p c e us vs rest holds parts held one_end))
                    (λ apart. move_channel protos Typed (good.uses) after (good.ends) d (get (C.channels) d) (λ ws. received_other (good.uses) p c e us vs rest holds parts held (channel d) ws (λ z. kinds_apart p d (sym z)) (channel_apart d c apart)) (λ qs. received_ends (good.uses) p c e us vs rest holds parts held d qs apart) (good.channels d));
                forest = received_forest (good.uses) p c e us vs rest holds parts held one_end (good.forest);
                named_task = λ q k some. omega (arith, good.named_task q k (present_set C p t (record { place = place v; forks = t.forks }) at_p (child q k) some), forks_set C p t (place v) (t.forks) at_p (omega arith) q);
                named_channel = λ q k some. omega (arith, good.named_channel q k (there (child q k) some), forks_set C p t (place v) (t.forks) at_p (omega arith) q);
              },
              λ z. z,
            )
              where
                after : Uses
                after = moved.received (good.uses) p c e us vs rest

                one_end : EndsAt c (e ∷ []) (good.uses)
                one_end = rw same ends

                carried : Carries protos e v vs
                carried = subst (λ z. Carries protos z v vs) (sym same) message

                there : (d : Name) → get (remove (C.channels) c) d ≢ None → get (C.channels) d ≢ None
                there d = by_name_removed (C.channels) c (λ o. o ≢ None → get (C.channels) d ≢ None) d (λ same some none. some refl) (λ apart some. some)
