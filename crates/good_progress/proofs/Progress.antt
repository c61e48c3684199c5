-- Progress: what is good is live.
use Rattle.std.proofs.Common.{◌≡◌, ◌≢◌, ℕ, suc, zero, ◌+◌, ◌≤◌, Bool, true, false, cond, not, ◌&&◌, ◌||◌, List, [], ◌∷◌, length, filter, Option, Some, None, is_some, refl, ap, sym, subst, ◌∙◌, ◌⊎◌, inl, inr, arith}
use Rattle.std.specs.FinMap.{get, keys}
use Rattle.std.proofs.lemmas.Bool.{not-true, and_parts, false_from_ne_true}
use Rattle.core_language.specs.Names.{Name, same_name}
use Rattle.core_language.specs.Programs.{Program}
use Rattle.core_language.specs.Values.{Value}
use Rattle.core_language.specs.Computing.{unbounded}
use Rattle.core_language.specs.Configurations.{Config, Place, Task}
use Rattle.core_language.specs.Acts.{Act, act_of}
use Rattle.core_language.specs.Acts as act
use Rattle.core_language.specs.Steps.{Step, Moves, Waits, IsEnded, IsAbsent, IsHalted, IsStuck, effect, sent, received, step, step_at}
use Rattle.core_language.specs.Schedules.{IsMove, IsStuckStep, IsSafe, IsLive}
use Rattle.graphs.specs.Graph.{count, Node, task, channel}
use Rattle.graphs.proofs.Counts.{count-filter, count_cases, count_agree, count_split, count-le-length}
use Rattle.graphs.proofs.Fewer.{count_pointwise_le}
use Rattle.graphs.proofs.Live.{Distinct, has, stands, Each, sum_of, nothing_left, by_keys, has_count, count_has}
use Rattle.moved_uses.proofs.Bags.{name-is, name-self, same_holder, holder-is, holder-self, member, count_false}
use Rattle.outline_language.specs.Equations.{Sends, Receives, Concrete, opposite}
use Rattle.good_configurations.specs.Values.{Use}
use Rattle.good_configurations.specs.Uses.{Uses, AreSame, Holds, EndsAt}
use Rattle.good_configurations.specs.Messages.{Does}
use Rattle.good_configurations.specs.Acts.{Typing, Fits}
use Rattle.good_configurations.specs.Good.{TaskGood, ChannelGood, Good}
use Rattle.good_steps.proofs.Heads.{not_both, opposite_does}
use Rattle.good_steps.proofs.SameEnds.{same_flag, same_ints, same_concrete, same_concrete-self, one_of_two}
use Rattle.good_steps.proofs.Ends.{is_end}
use Rattle.good_steps.proofs.Kept.{ActsFit}
use Rattle.good_progress.proofs.Keys.{distinct_keys, has-keys}

-- ---- what a step is
abbrev pub waits_in : Step → Bool
waits_in (Waits c) = true
waits_in (Moves D event) = false
waits_in IsEnded = false
waits_in IsAbsent = false
waits_in (IsHalted why) = false
waits_in (IsStuck why) = false

-- ---- lists
whole : {X : Type 0} (p : X → Bool) (xs : List X) → count p xs + count (λ x. not (p x)) xs ≡ length xs
whole p [] = refl
whole p (x ∷ xs) = go (p x) (whole p xs)
  where
    go : (b : Bool) → count p xs + count (λ x. not (p x)) xs ≡ length xs → (cond b 1 0 + count p xs) + (cond (not b) 1 0 + count (λ x. not (p x)) xs) ≡ suc (length xs)
    go true h = omega arith
    go false h = omega arith

all_by_member : {X : Type 0} (p : X → Bool) (xs : List X) → ((x : X) → ((f : X → Bool) → cond (f x) 1 0 ≤ count f xs) → p x ≡ true) → count p xs ≡ length xs
all_by_member {X = X} p xs each = go (count (λ x. not (p x)) xs) refl
  where
    total : count p xs + count (λ x. not (p x)) xs ≡ length xs
    total = whole p xs

    fails : (x : X) × (not (p x) ≡ true) × ((f : X → Bool) → cond (f x) 1 0 ≤ count f xs) → ⊥
    fails (x, miss, mem) = let z : p x ≡ true = each x mem in let y : p x ≡ false = not-true (p x) miss in cc

    go : (k : ℕ) → count (λ x. not (p x)) xs ≡ k → count p xs ≡ length xs
    go zero e = omega (arith, total)
    go (suc k) e = absurd (fails (member (λ x. not (p x)) xs (omega arith)))

length-filter : {X : Type 0} (p : X → Bool) (xs : List X) → length (filter p xs) ≡ count p xs
length-filter p [] = refl
length-filter p (x ∷ xs) = go (p x) (length-filter p xs)
  where
    go : (b : Bool) → length (filter p xs) ≡ count p xs → length (cond b (x ∷ filter p xs) (filter p xs)) ≡ cond b 1 0 + count p xs
    go true h = omega arith
    go false h = omega arith

has_filter : (f : Name → Bool) (xs : List Name) (k : Name) → has same_name xs k ≡ true → f k ≡ true → has same_name (filter f xs) k ≡ true
has_filter f xs k h e = count_has same_name name-is name-self (filter f xs) k (omega (arith, has_count same_name name-is name-self xs k h, count-filter (same_name k) f xs, count_agree (λ x. f x && same_name k x) (same_name k) (λ x. at x (same_name k x) refl) xs))
  where
    at : (x : Name) (b : Bool) → same_name k x ≡ b → (f x && b) ≡ b
    at x true g = rw (← name-is k x g, e) refl
    at x false g = last (f x)
      where
        last : (b : Bool) → (b && false) ≡ false
        last true = refl
        last false = refl

distinct_filter : (f : Name → Bool) (xs : List Name) → Distinct same_name xs → Distinct same_name (filter f xs)
distinct_filter f [] d = tt
distinct_filter f (x ∷ xs) d = go (f x) (distinct_filter f xs (d.1))
  where
    go : (b : Bool) → Distinct same_name (filter f xs) → Distinct same_name (cond b (x ∷ filter f xs) (filter f xs))
    go true ih = (omega (arith, d.0, count-filter (same_name x) f xs, count_cases f (same_name x) xs), ih)
    go false ih = ih

each_of : (P : Name → Type 0) (xs : List Name) → ((x : Name) → has same_name xs x ≡ true → P x) → Each P xs
each_of P [] h = tt
each_of P (x ∷ xs) h = (h x (rw (name-self x) refl), each_of P xs (λ y e. h y (rw e (last (same_name x y)))))
  where
    last : (b : Bool) → (b || true) ≡ true
    last true = refl
    last false = refl

sum_at_least : (f : Name → ℕ) (xs : List Name) → Each (λ x. 1 ≤ f x) xs → length xs ≤ sum_of f xs
sum_at_least f [] h = omega arith
sum_at_least f (x ∷ xs) h = omega (arith, h.0, sum_at_least f xs (h.1))

sum_as : (f : Name → ℕ) (g : Name → Bool) (xs : List Name) → Each (λ x. f x ≡ cond (g x) 1 0) xs → sum_of f xs ≡ count g xs
sum_as f g [] h = refl
sum_as f g (x ∷ xs) h = omega (arith, h.0, sum_as f g xs (h.1))

abbrev pub is_task : Node Name → Bool
is_task (task p) = true
is_task (channel c) = false

abbrev pub name_of : Node Name → Name
name_of (task p) = p
name_of (channel c) = c

and_true : (b : Bool) → (b && true) ≡ b
and_true true = refl
and_true false = refl

sum_at_most : (f : Name → ℕ) (g : Name → Bool) (xs : List Name) → Each (λ x. f x ≤ cond (g x) 1 0) xs → sum_of f xs ≤ count g xs
sum_at_most f g [] h = omega arith
sum_at_most f g (x ∷ xs) h = omega (arith, h.0, sum_at_most f g xs (h.1))

abbrev pub is_full : Option (Option Value) → Bool
is_full None = true
is_full (Some None) = false
is_full (Some (Some v)) = true

module _ (P : Program) (Typed : Typing) (fits : ActsFit P Typed) (C : Config) (good : Good (P.protos) Typed C) (safe : IsSafe P C) (still : (p : Name) → IsMove (step P C p) → ⊥) where
  abbrev chans : List Name
  chans = keys (C.channels)

  abbrev waits : Name → Bool
  waits p = waits_in (step P C p)

  abbrev waiting : List Name
  waiting = filter waits (keys (C.tasks))

  abbrev full : Name → Bool
  full c = is_full (get (C.channels) c)

  -- a use that stands in the list is counted at its holder and at its channel
  held_one : (n : Node Name) (u : Node Name × Name × Concrete) (us : List Use) → u.0 ≡ n → ((f : Node Name × Name × Concrete → Bool) → cond (f u) 1 0 ≤ count f (good.uses)) → Holds n us (good.uses) → 1 ≤ length us
  held_one n u us e mem holds = omega (arith, holds (λ _. true), count-le-length (λ (_ : Use). true) us, mem (λ v. same_holder n v.0 && true), here)
    where
      here : ◌≡◌ {A = ℕ} (cond (same_holder n u.0 && true) 1 0) 1
      here = rw (e, holder-self n) refl

  aimed_one : (c : Name) (u : Node Name × Name × Concrete) (es : List Concrete) → u.1 ≡ c → ((f : Node Name × Name × Concrete → Bool) → cond (f u) 1 0 ≤ count f (good.uses)) → EndsAt c es (good.uses) → 1 ≤ length es
  aimed_one c u es e mem ends = omega (arith, ends (λ _. true), count-le-length (λ (_ : Concrete). true) es, mem (λ v. same_name c v.1 && true), here)
    where
      here : ◌≡◌ {A = ℕ} (cond (same_name c u.1 && true) 1 0) 1
      here = rw (e, name-self c) refl

  targets : count (λ u. has same_name chans u.1) (good.uses) ≡ length (good.uses)
  targets = all_by_member (λ u. has same_name chans u.1) (good.uses) (λ u mem. has-keys (C.channels) u.1 ∙ go u mem (get (C.channels) u.1) (good.channels u.1))
    where
      go : (u : Node Name × Name × Concrete) → ((f : Node Name × Name × Concrete → Bool) → cond (f u) 1 0 ≤ count f (good.uses)) → (o : Option (Option Value)) → ChannelGood (P.protos) (good.ends) (good.uses) u.1 o → is_some o ≡ true
      go u mem None (held, ends) = absurd (omega (arith, aimed_one u.1 u [] refl mem ends))
      go u mem (Some v) g = refl

  -- a task that holds an end waits
  holder_waits : (p : Name) (u : Node Name × Name × Concrete) → u.0 ≡ task p → ((f : Node Name × Name × Concrete → Bool) → cond (f u) 1 0 ≤ count f (good.uses)) → waits p ≡ true
  holder_waits p u e mem = go (get (C.tasks) p) (good.tasks p) (safe p) (still p)
    where
      sent_never : (t : Task) (c : Name) (v : Value) (place : Place) (o : Option (Option Value)) → (IsStuckStep (sent C p (t.forks) c v place o) → ⊥) → (IsMove (sent C p (t.forks) c v place o) → ⊥) → waits_in (sent C p (t.forks) c v place o) ≡ true
      sent_never t c v place None s m = absurd (s tt)
      sent_never t c v place (Some None) s m = absurd (m tt)
      sent_never t c v place (Some (Some x)) s m = absurd (s tt)

      received_waits : (t : Task) (c : Name) (place : Value → Place) (o : Option (Option Value)) → (IsStuckStep (received C p (t.forks) c place o) → ⊥) → (IsMove (received C p (t.forks) c place o) → ⊥) → waits_in (received C p (t.forks) c place o) ≡ true
      received_waits t c place None s m = absurd (s tt)
      received_waits t c place (Some None) s m = refl
      received_waits t c place (Some (Some x)) s m = absurd (m tt)

      at_act : (t : Task) (us : List Use) → Holds (task p) us (good.uses) → (a : Act) → Fits (P.protos) Typed p (t.forks) a us → (IsStuckStep (effect C p (t.forks) a) → ⊥) → (IsMove (effect C p (t.forks) a) → ⊥) → waits_in (effect C p (t.forks) a) ≡ true
      at_act t us held (act.Silent place) fit s m = absurd (m tt)
      at_act t us held (act.Print z place) fit s m = absurd (m tt)
      at_act t us held (act.Fork c parent its) fit s m = absurd (m tt)
      at_act t us held (act.Send c v place) fit s m = sent_never t c v place (get (C.channels) c) s m
      at_act t us held (act.Recv c place) fit s m = received_waits t c place (get (C.channels) c) s m
      at_act t us held act.End fit s m = absurd (m tt)
      at_act t us held act.IsEnded none s m = absurd (omega (arith, held_one (task p) u us e mem held, ap length none))
      at_act t us held (act.IsHalted why) fit s m = absurd fit
      at_act t us held (act.IsStuck why) fit s m = absurd fit

      go : (o : Option Task) → TaskGood Typed (good.uses) p o → (IsStuckStep (step_at unbounded P C p o) → ⊥) → (IsMove (step_at unbounded P C p o) → ⊥) → waits_in (step_at unbounded P C p o) ≡ true
      go None held s m = absurd (omega (arith, held_one (task p) u [] e mem held))
      go (Some t) (us, typed, held) s m = at_act t us held (act_of unbounded P p (t.forks) (t.place)) (fits p (t.forks) (t.place) us typed) s m

  holders : count (λ u. stands same_name waiting chans u.0) (good.uses) ≡ length (good.uses)
  holders = all_by_member (λ u. stands same_name waiting chans u.0) (good.uses) (λ u mem. by u mem u.0 refl)
    where
      by : (u : Node Name × Name × Concrete) → ((f : Node Name × Name × Concrete → Bool) → cond (f u) 1 0 ≤ count f (good.uses)) → (n : Node Name) → u.0 ≡ n → stands same_name waiting chans n ≡ true
      by u mem (task p) e = has_filter waits (keys (C.tasks)) p (has-keys (C.tasks) p ∙ there_p) (holder_waits p u e mem)
        where
          there_p : is_some (get (C.tasks) p) ≡ true
          there_p = go (get (C.tasks) p) (good.tasks p)
            where
              go : (o : Option Task) → TaskGood Typed (good.uses) p o → is_some o ≡ true
              go None held = absurd (omega (arith, held_one (task p) u [] e mem held))
              go (Some t) held = refl
      by u mem (channel c) e = has-keys (C.channels) c ∙ go (get (C.channels) c) (good.channels c)
        where
          go : (o : Option (Option Value)) → ChannelGood (P.protos) (good.ends) (good.uses) c o → is_some o ≡ true
          go None (held, ends) = absurd (omega (arith, held_one (channel c) u [] e mem held))
          go (Some v) g = refl

  at_channel : (c : Name) (es : List Concrete) → EndsAt c es (good.uses) → count (λ u. same_name c u.1) (good.uses) ≡ count (λ _. true) es
  at_channel c es ends = sym (count_agree (λ u. same_name c u.1 && true) (λ u. same_name c u.1) (λ u. and_true (same_name c u.1)) (good.uses)) ∙ sym (ends (λ _. true))

  there : (c : Name) → has same_name chans c ≡ true → get (C.channels) c ≢ None
  there c h none = let z : is_some (get (C.channels) c) ≡ true = sym (has-keys (C.channels) c) ∙ h in let y : is_some (get (C.channels) c) ≡ false = ap is_some none in cc

  counted : Each (λ c. count (λ u. same_name c u.1) (good.uses) ≡ cond (full c) 1 2) chans
  counted = each_of (λ c. count (λ u. same_name c u.1) (good.uses) ≡ cond (full c) 1 2) chans (λ c h. go c (get (C.channels) c) (there c h) (good.channels c))
    where
      go : (c : Name) (o : Option (Option Value)) → o ≢ None → ChannelGood (P.protos) (good.ends) (good.uses) c o → count (λ u. same_name c u.1) (good.uses) ≡ cond (is_full o) 1 2
      go c None some g = absurd (some refl)
      go c (Some None) some (held, ends, way) = at_channel c (good.ends c ∷ opposite (good.ends c) ∷ []) ends
      go c (Some (Some v)) some (held, ends, way) = at_channel c (good.ends c ∷ []) ends

  -- the receiving ends of empty channels that tasks hold
  abbrev awaited : Node Name × Name × Concrete → Bool
  awaited u = is_task u.0 && (not (full u.1) && same_concrete (good.ends u.1) u.2)

  abbrev ends_awaited : Uses
  ends_awaited = filter awaited (good.uses)

  filter_has : (f : Name → Bool) (xs : List Name) (k : Name) → has same_name (filter f xs) k ≡ true → f k ≡ true
  filter_has f xs k h = go (member (λ x. f x && same_name k x) xs (omega (arith, has_count same_name name-is name-self (filter f xs) k h, count-filter (same_name k) f xs)))
    where
      go : (x : Name) × ((f x && same_name k x) ≡ true) × ((g : Name → Bool) → cond (g x) 1 0 ≤ count g xs) → f k ≡ true
      go (x, e, mem) = let b = and_parts (f x) (same_name k x) e in ap f (name-is k x (b.1)) ∙ b.0

  -- what a waiting task holds
  each_end : (p : Name) (t : Task) → get (C.tasks) p ≡ Some t → (us : List Use) → Holds (task p) us (good.uses) → (c : Name) (e : Concrete) (rest : List Use) → AreSame us ((c, e) ∷ rest) → Does (P.protos) e Receives → get (C.channels) c ≡ Some None → 1 ≤ count (λ u. same_name p (name_of u.0)) ends_awaited
  each_end p t at_p us holds c e rest split receives empty_here = with_channel (rw empty_here at (good.channels c))
    where
      counts : e ≡ good.ends c → 1 ≤ count (λ u. same_name p (name_of u.0)) ends_awaited
      counts same = omega (
        arith,
        holds (λ u. same_name c u.0 && same_concrete (good.ends c) u.1),
        split (λ u. same_name c u.0 && same_concrete (good.ends c) u.1),
        own,
        count-filter (λ u. same_name p (name_of u.0)) awaited (good.uses),
        count_pointwise_le (λ u. same_holder (task p) u.0 && (same_name c u.1 && same_concrete (good.ends c) u.2)) (λ u. awaited u && same_name p (name_of u.0)) at (good.uses),
      )
        where
          own : ◌≡◌ {A = ℕ} (cond (same_name c c && same_concrete (good.ends c) e) 1 0) 1
          own = ap {B = ℕ} (λ x. cond (same_name c c && same_concrete (good.ends c) x) 1 0) same ∙ ap {B = ℕ} (λ b. cond (b && same_concrete (good.ends c) (good.ends c)) 1 0) (name-self c) ∙ ap {B = ℕ} (λ b. cond b 1 0) (same_concrete-self (good.ends c))

          at : (u : Node Name × Name × Concrete) → (same_holder (task p) u.0 && (same_name c u.1 && same_concrete (good.ends c) u.2)) ≡ true → (awaited u && same_name p (name_of u.0)) ≡ true
          at u h =
              let a = and_parts (same_holder (task p) u.0) (same_name c u.1 && same_concrete (good.ends c) u.2) h in
              let b = and_parts (same_name c u.1) (same_concrete (good.ends c) u.2) (a.1) in
              let n : task p ≡ u.0 = holder-is (task p) u.0 (a.0) in
              let m : c ≡ u.1 = name-is c u.1 (b.0) in
              let f : full u.1 ≡ false = ap (λ n. full n) (sym m) ∙ ap is_full empty_here in
              rw (← n, f, ap (λ n. same_concrete (good.ends n) u.2) (sym m) ∙ b.1, name-self p) refl

      with_channel : ChannelGood (P.protos) (good.ends) (good.uses) c (Some None) → 1 ≤ count (λ u. same_name p (name_of u.0)) ends_awaited
      with_channel (held, ends, way) = pick (one_of_two e (good.ends c) (opposite (good.ends c)) (is_end (P.protos) Typed C good p t at_p us holds c e rest split (good.ends c ∷ opposite (good.ends c) ∷ []) ends))
        where
          pick : (e ≡ good.ends c) ⊎ (e ≡ opposite (good.ends c)) → 1 ≤ count (λ u. same_name p (name_of u.0)) ends_awaited
          pick (inl same) = counts same
          pick (inr other) = not_both (P.protos) e (subst (λ z. Does (P.protos) z Sends) (sym other) (opposite_does (P.protos) (good.ends c) Receives way)) receives

  each_waits : (p : Name) → waits p ≡ true → 1 ≤ count (λ u. same_name p (name_of u.0)) ends_awaited
  each_waits p h = go (get (C.tasks) p) refl (good.tasks p) h
    where
      no_send : (t : Task) (c : Name) (v : Value) (place : Place) (o : Option (Option Value)) → waits_in (sent C p (t.forks) c v place o) ≡ true → ⊥
      no_send t c v place None h = cc
      no_send t c v place (Some None) h = cc
      no_send t c v place (Some (Some x)) h = cc

      is_empty : (t : Task) (c : Name) (place : Value → Place) (o : Option (Option Value)) → waits_in (received C p (t.forks) c place o) ≡ true → o ≡ Some None
      is_empty t c place None h = cc
      is_empty t c place (Some None) h = refl
      is_empty t c place (Some (Some x)) h = cc

      at_act : (t : Task) → get (C.tasks) p ≡ Some t → (us : List Use) → Holds (task p) us (good.uses) → (a : Act) → Fits (P.protos) Typed p (t.forks) a us → waits_in (effect C p (t.forks) a) ≡ true → 1 ≤ count (λ u. same_name p (name_of u.0)) ends_awaited
      at_act t e us held (act.Silent place) fit h = cc
      at_act t e us held (act.Print z place) fit h = cc
      at_act t e us held (act.Fork c parent its) fit h = cc
      at_act t e us held (act.Send c v place) fit h = absurd (no_send t c v place (get (C.channels) c) h)
      at_act t e us held (act.Recv c place) (end, rest, split, receives, goes) h = each_end p t e us held c end rest split receives (is_empty t c place (get (C.channels) c) h)
      at_act t e us held act.End fit h = cc
      at_act t e us held act.IsEnded fit h = cc
      at_act t e us held (act.IsHalted why) fit h = cc
      at_act t e us held (act.IsStuck why) fit h = cc

      go : (o : Option Task) → get (C.tasks) p ≡ o → TaskGood Typed (good.uses) p o → waits_in (step_at unbounded P C p o) ≡ true → 1 ≤ count (λ u. same_name p (name_of u.0)) ends_awaited
      go None e held h = cc
      go (Some t) e (us, typed, held) h = at_act t e us held (act_of unbounded P p (t.forks) (t.place)) (fits p (t.forks) (t.place) us typed) h

  each_channel : (c : Name) → has same_name chans c ≡ true → count (λ u. same_name c u.1) ends_awaited ≤ cond (not (full c)) 1 0
  each_channel c h = go (get (C.channels) c) refl (there c h) (good.channels c)
    where
      go : (o : Option (Option Value)) → get (C.channels) c ≡ o → o ≢ None → ChannelGood (P.protos) (good.ends) (good.uses) c o → count (λ u. same_name c u.1) ends_awaited ≤ cond (not (is_full o)) 1 0
      go None e some g = absurd (some refl)
      go (Some None) e some (held, ends, way) = omega (arith, count-filter (λ u. same_name c u.1) awaited (good.uses), count_pointwise_le (λ u. awaited u && same_name c u.1) (λ u. same_name c u.1 && same_concrete (good.ends c) u.2) at (good.uses), ends (same_concrete (good.ends c)), opposite_not (good.ends c), at_most (same_concrete (good.ends c) (good.ends c)))
        where
          at_most : (b : Bool) → cond b 1 0 ≤ 1
          at_most true = omega arith
          at_most false = omega arith

          opposite_not : (a : Concrete) → ◌≡◌ {A = ℕ} (cond (same_concrete a (opposite a)) 1 0) 0
          opposite_not a = by (a.dual)
            where
              by : (b : Bool) → ◌≡◌ {A = ℕ} (cond (same_flag b (not b) && (same_name (a.name) (a.name) && same_ints (a.args) (a.args))) 1 0) 0
              by true = refl
              by false = refl

          at : (u : Node Name × Name × Concrete) → (awaited u && same_name c u.1) ≡ true → (same_name c u.1 && same_concrete (good.ends c) u.2) ≡ true
          at u h =
              let a = and_parts (awaited u) (same_name c u.1) h in
              let b = and_parts (is_task u.0) (not (full u.1) && same_concrete (good.ends u.1) u.2) (a.0) in
              let d = and_parts (not (full u.1)) (same_concrete (good.ends u.1) u.2) (b.1) in
              rw (a.1) (ap (λ n. same_concrete (good.ends n) u.2) (name-is c u.1 (a.1)) ∙ d.1)
      go (Some (Some v)) e some g = omega (arith, count-filter (λ u. same_name c u.1) awaited (good.uses), count_false (λ u. awaited u && same_name c u.1) at (good.uses))
        where
          at : (u : Node Name × Name × Concrete) → (awaited u && same_name c u.1) ≡ false
          at u = false_from_ne_true (awaited u && same_name c u.1) (λ h.
              let a = and_parts (awaited u) (same_name c u.1) h in
              let b = and_parts (is_task u.0) (not (full u.1) && same_concrete (good.ends u.1) u.2) (a.0) in
              let d = and_parts (not (full u.1)) (same_concrete (good.ends u.1) u.2) (b.1) in
              let f : full u.1 ≡ true = ap (λ n. full n) (sym (name-is c u.1 (a.1))) ∙ ap is_full e in
              let g : full u.1 ≡ false = not-true (full u.1) (d.0) in cc)

  few : length waiting ≤ count (λ c. not (full c)) chans
  few = omega (
    arith,
    sum_at_least (λ p. count (λ u. same_name p (name_of u.0)) ends_awaited) waiting (each_of (λ p. 1 ≤ count (λ u. same_name p (name_of u.0)) ends_awaited) waiting (λ p h. each_waits p (filter_has waits (keys (C.tasks)) p h))),
    by_keys same_name name-is name-self (λ (u : Node Name × Name × Concrete). name_of u.0) waiting (distinct_filter waits (keys (C.tasks)) (distinct_keys (C.tasks))) ends_awaited,
    count-le-length (λ u. has same_name waiting (name_of u.0)) ends_awaited,
    by_keys same_name name-is name-self (λ (u : Node Name × Name × Concrete). u.1) chans (distinct_keys (C.channels)) ends_awaited,
    sum_at_most (λ c. count (λ u. same_name c u.1) ends_awaited) (λ c. not (full c)) chans (each_of (λ c. count (λ u. same_name c u.1) ends_awaited ≤ cond (not (full c)) 1 0) chans each_channel),
    all_there,
  )
    where
      all_there : count (λ u. has same_name chans u.1) ends_awaited ≡ length ends_awaited
      all_there = omega (arith, count-filter (λ u. has same_name chans u.1) awaited (good.uses), length-filter awaited (good.uses), count_split awaited (λ u. has same_name chans u.1) (good.uses), count_cases awaited (λ u. not (has same_name chans u.1)) (good.uses), whole (λ u. has same_name chans u.1) (good.uses), targets)

  pub none_left : length waiting + length chans ≡ 0
  none_left = nothing_left same_name name-is name-self waiting chans full (good.uses) (distinct_keys (C.channels)) counted targets holders few (good.forest)

moves_or : (o : Step) → IsMove o ⊎ (IsMove o → ⊥)
moves_or (Moves D e) = inl tt
moves_or (Waits c) = inr (λ m. m)
moves_or IsEnded = inr (λ m. m)
moves_or IsAbsent = inr (λ m. m)
moves_or (IsHalted w) = inr (λ m. m)
moves_or (IsStuck w) = inr (λ m. m)

search_moves : (P : Program) (C : Config) (ps : List Name) → ((p : Name) × IsMove (step P C p)) ⊎ ((p : Name) → has same_name ps p ≡ true → IsMove (step P C p) → ⊥)
search_moves P C [] = inr (λ p h m. cc)
search_moves P C (p ∷ ps) = go (moves_or (step P C p)) (search_moves P C ps)
  where
    at : (IsMove (step P C p) → ⊥) → ((q : Name) → has same_name ps q ≡ true → IsMove (step P C q) → ⊥) → (q : Name) (b : Bool) → same_name p q ≡ b → (b || has same_name ps q) ≡ true → IsMove (step P C q) → ⊥
    at n f q true e h m = n (rw (name-is p q e) m)
    at n f q false e h m = f q h m

    go : IsMove (step P C p) ⊎ (IsMove (step P C p) → ⊥) → ((p : Name) × IsMove (step P C p)) ⊎ ((p : Name) → has same_name ps p ≡ true → IsMove (step P C p) → ⊥) → ((q : Name) × IsMove (step P C q)) ⊎ ((q : Name) → has same_name (p ∷ ps) q ≡ true → IsMove (step P C q) → ⊥)
    go (inl m) rest = inl (p, m)
    go (inr n) (inl found) = inl found
    go (inr n) (inr f) = inr (λ q h m. at n f q (same_name p q) refl h m)

-- a task that isn't stuck, nor moves, nor waits, nor halts has ended, or isn't there
neither : (P : Program) (Typed : Typing) (fits : ActsFit P Typed) (C : Config) (good : Good (P.protos) Typed C) (p : Name) → (IsStuckStep (step P C p) → ⊥) → (IsMove (step P C p) → ⊥) → waits_in (step P C p) ≡ false → (step P C p ≡ IsEnded) ⊎ (step P C p ≡ IsAbsent)
neither P Typed fits C good p s m w = go (get (C.tasks) p) (good.tasks p) s m w
  where
    by_step : (o : Step) → (IsStuckStep o → ⊥) → (IsMove o → ⊥) → waits_in o ≡ false → ((why : _) → o ≡ IsHalted why → ⊥) → (o ≡ IsEnded) ⊎ (o ≡ IsAbsent)
    by_step (Moves D e) s m w h = absurd (m tt)
    by_step (Waits c) s m w h = cc
    by_step IsEnded s m w h = inl refl
    by_step IsAbsent s m w h = inr refl
    by_step (IsHalted why) s m w h = absurd (h why refl)
    by_step (IsStuck why) s m w h = absurd (s tt)

    never : (t : Task) (us : List Use) (a : Act) → Fits (P.protos) Typed p (t.forks) a us → (why : _) → effect C p (t.forks) a ≡ IsHalted why → ⊥
    never t us (act.Silent place) fit why e = cc
    never t us (act.Print z place) fit why e = cc
    never t us (act.Fork c parent its) fit why e = cc
    never t us (act.Send c v place) fit why e = by (get (C.channels) c) e
      where
        by : (o : Option (Option Value)) → sent C p (t.forks) c v place o ≡ IsHalted why → ⊥
        by None e = cc
        by (Some None) e = cc
        by (Some (Some x)) e = cc
    never t us (act.Recv c place) fit why e = by (get (C.channels) c) e
      where
        by : (o : Option (Option Value)) → received C p (t.forks) c place o ≡ IsHalted why → ⊥
        by None e = cc
        by (Some None) e = cc
        by (Some (Some x)) e = cc
    never t us act.End fit why e = cc
    never t us act.IsEnded fit why e = cc
    never t us (act.IsHalted w) fit why e = absurd fit
    never t us (act.IsStuck w) fit why e = absurd fit

    go : (o : Option Task) → TaskGood Typed (good.uses) p o → (IsStuckStep (step_at unbounded P C p o) → ⊥) → (IsMove (step_at unbounded P C p o) → ⊥) → waits_in (step_at unbounded P C p o) ≡ false → (step_at unbounded P C p o ≡ IsEnded) ⊎ (step_at unbounded P C p o ≡ IsAbsent)
    go None held s m w = inr refl
    go (Some t) (us, typed, held) s m w = by_step (effect C p (t.forks) (act_of unbounded P p (t.forks) (t.place))) s m w (never t us (act_of unbounded P p (t.forks) (t.place)) (fits p (t.forks) (t.place) us typed))

-- Progress
pub good_live : (P : Program) (Typed : Typing) → ActsFit P Typed → (C : Config) → Good (P.protos) Typed C → IsSafe P C → IsLive P C
good_live P Typed fits C good safe = go (search_moves P C (keys (C.tasks)))
  where
    go : ((p : Name) × IsMove (step P C p)) ⊎ ((p : Name) → has same_name (keys (C.tasks)) p ≡ true → IsMove (step P C p) → ⊥) → IsLive P C
    go (inl moving) = inl moving
    go (inr none) = inr (ends_or, no_channel)
      where
        still : (p : Name) → IsMove (step P C p) → ⊥
        still p m = by (get (C.tasks) p) refl m
          where
            by : (o : Option Task) → get (C.tasks) p ≡ o → IsMove (step_at unbounded P C p o) → ⊥
            by None e m = m
            by (Some t) e m' = none p (has-keys (C.tasks) p ∙ ap is_some e) m

        empty : length (filter (λ p. waits_in (step P C p)) (keys (C.tasks))) + length (keys (C.channels)) ≡ 0
        empty = none_left P Typed fits C good safe still

        no_channel : (c : Name) → get (C.channels) c ≡ None
        no_channel c = by (get (C.channels) c) refl
          where
            by : (o : Option (Option Value)) → get (C.channels) c ≡ o → o ≡ None
            by None e = refl
            by (Some v) e = absurd (omega (arith, empty, has_count same_name name-is name-self (keys (C.channels)) c (has-keys (C.channels) c ∙ ap is_some e), count-le-length (same_name c) (keys (C.channels))))

        ends_or : (p : Name) → (step P C p ≡ IsEnded) ⊎ (step P C p ≡ IsAbsent)
        ends_or p = neither P Typed fits C good p (safe p) (still p) (by (waits_in (step P C p)) refl)
          where
            there : waits_in (step P C p) ≡ true → is_some (get (C.tasks) p) ≡ true
            there h = at_task (get (C.tasks) p) h
              where
                at_task : (o : Option Task) → waits_in (step_at unbounded P C p o) ≡ true → is_some o ≡ true
                at_task None h = cc
                at_task (Some t) h = refl

            by : (b : Bool) → waits_in (step P C p) ≡ b → waits_in (step P C p) ≡ false
            by false e = e
            by true e = absurd (omega (arith, empty, has_count same_name name-is name-self (filter (λ p. waits_in (step P C p)) (keys (C.tasks))) p (has_filter (λ p. waits_in (step P C p)) (keys (C.tasks)) p (has-keys (C.tasks) p ∙ there e) e), count-le-length (same_name p) (filter (λ p. waits_in (step P C p)) (keys (C.tasks)))))
