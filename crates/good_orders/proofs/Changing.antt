-- What two acts change, where neither asks for what the other writes.
use Rattle.std.proofs.Common.{◌≡◌, ◌≢◌, ℕ, suc, Bool, true, false, List, [], ◌∷◌, Option, Some, None, refl, ap, sym, subst, ◌∙◌, ◌⊎◌, inl, inr}
use Rattle.std.specs.FinMap.{get}
use Rattle.core_language.specs.Names.{Name, child}
use Rattle.core_language.specs.Programs.{Program}
use Rattle.core_language.specs.Values.{Value}
use Rattle.core_language.specs.Computing.{Limits}
use Rattle.core_language.specs.Configurations.{Config, Place, Ended, Task}
use Rattle.core_language.specs.Acts.{Act, act_of}
use Rattle.core_language.specs.Acts as act
use Rattle.core_language.specs.Steps.{Event, effect, sent, received, step_within, step_at}
use Rattle.good_orders.specs.Changes.{State, state_of, config_of, moved_to, step_state, write_all, Change, becomes, change, asks, happens, changed, change_at}
use Rattle.good_orders.proofs.Writes.{Apart, AllApart, write_both, get_past}

-- a step is what its act changes
pub effect-changes : (C : Config) (p : Name) (k : ℕ) (a : Act) → moved_to (effect C p k a) ≡ changed (state_of C) (change_at (state_of C) p k a)
effect-changes C p k (act.Silent place) = refl
effect-changes C p k (act.Print z place) = refl
effect-changes C p k (act.Fork c parent its) = refl
effect-changes C p k (act.Send c v place) = go (get (C.channels) c)
  where
    go : (o : Option (Option Value)) → moved_to (sent C p k c v place o) ≡ changed (state_of C) (change p k (act.Send c v place) o)
    go None = refl
    go (Some None) = refl
    go (Some (Some u)) = refl
effect-changes C p k (act.Recv c place) = go (get (C.channels) c)
  where
    go : (o : Option (Option Value)) → moved_to (received C p k c place o) ≡ changed (state_of C) (change p k (act.Recv c place) o)
    go None = refl
    go (Some None) = refl
    go (Some (Some v)) = refl
effect-changes C p k act.End = refl
effect-changes C p k act.IsEnded = refl
effect-changes C p k (act.IsHalted why) = refl
effect-changes C p k (act.IsStuck why) = refl

-- what a task does, told of its state
abbrev pub state_step : Limits → Program → State → Name → Option Task → Option (State × Event)
state_step limits P s p None = None
state_step limits P s p (Some t) = changed s (change_at s p (t.forks) (act_of limits P p (t.forks) (t.place)))

pub step-changes : (limits : Limits) (P : Program) (C : Config) (p : Name) → moved_to (step_within limits P C p) ≡ state_step limits P (state_of C) p (get (C.tasks) p)
step-changes limits P C p = go (get (C.tasks) p)
  where
    go : (o : Option Task) → moved_to (step_at limits P C p o) ≡ state_step limits P (state_of C) p o
    go None = refl
    go (Some t) = effect-changes C p (t.forks) (act_of limits P p (t.forks) (t.place))

-- the channel that an act asks for, where it asks for one
abbrev pub Asks : Act → Type 0
Asks (act.Send c v place) = Unit {0}
Asks (act.Recv c place) = Unit {0}
Asks other = ⊥

-- a fork makes what the task's next child is
abbrev pub ForksAs : Name → ℕ → Act → Type 0
ForksAs p k (act.Fork c parent its) = c ≡ child p k
ForksAs p k other = Unit {0}

pub none_some : {X Z : Type 0} {x : X} → None ≡ Some x → Z
none_some e = cc

some_change : {e f : Change} → Some e ≡ Some f → e ≡ f
some_change e = cc

-- what an act changes, by the kind of act
pub record Changes (p : Name) (k : ℕ) (a : Act) (e : Change) : Type 0 where
  pub place : Place
  pub tasks : (e.tasks ≡ becomes p place k ∷ []) ⊎ ((its : Place) × (e.tasks ≡ becomes p place (suc k) ∷ becomes (child p k) its 0 ∷ []))
  pub channels : (e.channels ≡ []) ⊎ (((o : Option (Option Value)) × (e.channels ≡ (asks a, o) ∷ []) × Asks a) ⊎ (e.channels ≡ (child p k, Some None) ∷ []))

pub changes : (p : Name) (k : ℕ) (a : Act) (o : Option (Option Value)) (e : Change) → ForksAs p k a → change p k a o ≡ Some e → Changes p k a e
changes p k (act.Silent place) o e f h = record { place = place; tasks = inl (ap (λ z. z.tasks) (sym (some_change h))); channels = inl (ap (λ z. z.channels) (sym (some_change h))) }
changes p k (act.Print z place) o e f h = record { place = place; tasks = inl (ap (λ z. z.tasks) (sym (some_change h))); channels = inl (ap (λ z. z.channels) (sym (some_change h))) }
changes p k (act.Fork c parent its) o e f h = record {
  place = parent;
  tasks = inr (its, ap (λ z. z.tasks) (sym (some_change h)) ∙ ap (λ z. becomes p parent (suc k) ∷ becomes z its 0 ∷ []) f);
  channels = inr (inr (ap (λ z. z.channels) (sym (some_change h)) ∙ ap (λ z. (z, Some None) ∷ []) f));
}
changes p k (act.Send c v place) None e f h = none_some h
changes p k (act.Send c v place) (Some (Some u)) e f h = none_some h
changes p k (act.Send c v place) (Some None) e f h = record { place = place; tasks = inl (ap (λ z. z.tasks) (sym (some_change h))); channels = inr (inl (Some (Some v), ap (λ z. z.channels) (sym (some_change h)), tt)) }
changes p k (act.Recv c place) None e f h = none_some h
changes p k (act.Recv c place) (Some None) e f h = none_some h
changes p k (act.Recv c place) (Some (Some v)) e f h = record { place = place v; tasks = inl (ap (λ z. z.tasks) (sym (some_change h))); channels = inr (inl (None, ap (λ z. z.channels) (sym (some_change h)), tt)) }
changes p k act.End o e f h = record { place = Ended; tasks = inl (ap (λ z. z.tasks) (sym (some_change h))); channels = inl (ap (λ z. z.channels) (sym (some_change h))) }
changes p k act.IsEnded o e f h = none_some h
changes p k (act.IsHalted why) o e f h = none_some h
changes p k (act.IsStuck why) o e f h = none_some h

-- an act that changes something and asks for a channel finds it there
asks_there : (p : Name) (k : ℕ) (a : Act) (o : Option (Option Value)) (e : Change) → change p k a o ≡ Some e → Asks a → o ≢ None
asks_there p k (act.Send c v place) None e h ask = none_some h
asks_there p k (act.Send c v place) (Some o) e h ask = λ z. cc
asks_there p k (act.Recv c place) None e h ask = none_some h
asks_there p k (act.Recv c place) (Some o) e h ask = λ z. cc
asks_there p k (act.Silent place) o e h ask = absurd ask
asks_there p k (act.Print z place) o e h ask = absurd ask
asks_there p k (act.Fork c parent its) o e h ask = absurd ask
asks_there p k act.End o e h ask = absurd ask
asks_there p k act.IsEnded o e h ask = absurd ask
asks_there p k (act.IsHalted why) o e h ask = absurd ask
asks_there p k (act.IsStuck why) o e h ask = absurd ask

-- an act that asks for no channel doesn't look at it
no_ask : (p : Name) (k : ℕ) (a : Act) (o o' : Option (Option Value)) → (Asks a → o ≡ o') → change p k a o ≡ change p k a o'
no_ask p k (act.Silent place) o o' h = refl
no_ask p k (act.Print z place) o o' h = refl
no_ask p k (act.Fork c parent its) o o' h = refl
no_ask p k act.End o o' h = refl
no_ask p k act.IsEnded o o' h = refl
no_ask p k (act.IsHalted why) o o' h = refl
no_ask p k (act.IsStuck why) o o' h = refl
no_ask p k (act.Send c v place) o o' h = ap (change p k (act.Send c v place)) (h tt)
no_ask p k (act.Recv c place) o o' h = ap (change p k (act.Recv c place)) (h tt)

-- two tasks that are there, whose next children are not, and whose acts ask for different channels
module _ (s : State) (p q : Name) (j k : ℕ) (a b : Act) (e f : Change)
    (apart : p ≢ q) (p_there : get (s.tasks) p ≢ None) (q_there : get (s.tasks) q ≢ None)
    (p_new : get (s.tasks) (child p j) ≡ None) (q_new : get (s.tasks) (child q k) ≡ None)
    (p_fresh : get (s.channels) (child p j) ≡ None) (q_fresh : get (s.channels) (child q k) ≡ None)
    (children : child p j ≢ child q k) (a_forks : ForksAs p j a) (b_forks : ForksAs q k b)
    (acts_a : change_at s p j a ≡ Some e) (acts_b : change_at s q k b ≡ Some f)
    (differ : Asks a → Asks b → asks a ≢ asks b) where
  tasks_apart : AllApart (e.tasks) (f.tasks)
  tasks_apart = go (changes p j a (get (s.channels) (asks a)) e a_forks acts_a) (changes q k b (get (s.channels) (asks b)) f b_forks acts_b)
    where
      p_old : p ≢ child q k
      p_old z = p_there (ap (λ n. get (s.tasks) n) z ∙ q_new)

      q_old : child p j ≢ q
      q_old z = q_there (ap (λ n. get (s.tasks) n) (sym z) ∙ p_new)

      go : Changes p j a e → Changes q k b f → AllApart (e.tasks) (f.tasks)
      go x y = by (x.tasks) (y.tasks)
        where
          by : (e.tasks ≡ becomes p (x.place) j ∷ []) ⊎ ((its : Place) × (e.tasks ≡ becomes p (x.place) (suc j) ∷ becomes (child p j) its 0 ∷ [])) → (f.tasks ≡ becomes q (y.place) k ∷ []) ⊎ ((its : Place) × (f.tasks ≡ becomes q (y.place) (suc k) ∷ becomes (child q k) its 0 ∷ [])) → AllApart (e.tasks) (f.tasks)
          by (inl g) (inl h) = rw (g, h) ((apart, tt), tt)
          by (inl g) (inr (its, h)) = rw (g, h) ((apart, (p_old, tt)), tt)
          by (inr (its, g)) (inl h) = rw (g, h) ((apart, tt), ((q_old, tt), tt))
          by (inr (its, g)) (inr (its', h)) = rw (g, h) ((apart, (p_old, tt)), ((q_old, (children, tt)), tt))

  a_there : Asks a → get (s.channels) (asks a) ≢ None
  a_there ask = asks_there p j a (get (s.channels) (asks a)) e acts_a ask

  b_there : Asks b → get (s.channels) (asks b) ≢ None
  b_there ask = asks_there q k b (get (s.channels) (asks b)) f acts_b ask

  channels_apart : AllApart (e.channels) (f.channels)
  channels_apart = by ((changes p j a (get (s.channels) (asks a)) e a_forks acts_a).channels) ((changes q k b (get (s.channels) (asks b)) f b_forks acts_b).channels)
    where
      not_new_a : Asks a → asks a ≢ child q k
      not_new_a ask z = a_there ask (ap (λ n. get (s.channels) n) z ∙ q_fresh)

      not_new_b : Asks b → child p j ≢ asks b
      not_new_b ask z = b_there ask (ap (λ n. get (s.channels) n) (sym z) ∙ p_fresh)

      by : (e.channels ≡ []) ⊎ (((o : Option (Option Value)) × (e.channels ≡ (asks a, o) ∷ []) × Asks a) ⊎ (e.channels ≡ (child p j, Some None) ∷ [])) → (f.channels ≡ []) ⊎ (((o : Option (Option Value)) × (f.channels ≡ (asks b, o) ∷ []) × Asks b) ⊎ (f.channels ≡ (child q k, Some None) ∷ [])) → AllApart (e.channels) (f.channels)
      by (inl g) y = rw g tt
      by (inr (inl (o, g, ask))) (inl h) = rw (g, h) (tt, tt)
      by (inr (inl (o, g, ask))) (inr (inl (o', h, ask'))) = rw (g, h) ((differ ask ask', tt), tt)
      by (inr (inl (o, g, ask))) (inr (inr h)) = rw (g, h) ((not_new_a ask, tt), tt)
      by (inr (inr g)) (inl h) = rw (g, h) (tt, tt)
      by (inr (inr g)) (inr (inl (o', h, ask'))) = rw (g, h) ((not_new_b ask', tt), tt)
      by (inr (inr g)) (inr (inr h)) = rw (g, h) ((children, tt), tt)

  -- the other task is as it was, and does the same
  pub still_there : get ((happens s e).tasks) q ≡ get (s.tasks) q
  still_there = let x = changes p j a (get (s.channels) (asks a)) e a_forks acts_a in get_past (s.tasks) q (e.tasks) (by (x.place) (x.tasks))
    where
      old : q ≢ child p j
      old z = q_there (ap (λ n. get (s.tasks) n) z ∙ p_new)

      other : q ≢ p
      other z = apart (sym z)

      by : (pl : Place) → (e.tasks ≡ becomes p pl j ∷ []) ⊎ ((its : Place) × (e.tasks ≡ becomes p pl (suc j) ∷ becomes (child p j) its 0 ∷ [])) → Apart q (e.tasks)
      by pl (inl g) = rw g (other, tt)
      by pl (inr (its, g)) = rw g (other, (old, tt))

  pub still_acts : change_at (happens s e) q k b ≡ Some f
  still_acts = no_ask q k b (get (write_all (s.channels) (e.channels)) (asks b)) (get (s.channels) (asks b)) (λ ask. get_past (s.channels) (asks b) (e.channels) (by ask ((changes p j a (get (s.channels) (asks a)) e a_forks acts_a).channels))) ∙ acts_b
    where
      not_new : Asks b → asks b ≢ child p j
      not_new ask z = b_there ask (ap (λ n. get (s.channels) n) z ∙ p_fresh)

      by : Asks b → (e.channels ≡ []) ⊎ (((o : Option (Option Value)) × (e.channels ≡ (asks a, o) ∷ []) × Asks a) ⊎ (e.channels ≡ (child p j, Some None) ∷ [])) → Apart (asks b) (e.channels)
      by ask (inl g) = rw g tt
      by ask (inr (inl (o, g, ask'))) = rw g ((λ z. differ ask' ask (sym z)), tt)
      by ask (inr (inr g)) = rw g (not_new ask, tt)

  pub same_after : happens (happens s e) f ≡ happens (happens s f) e
  same_after = let x = write_both (s.tasks) (e.tasks) (f.tasks) tasks_apart in let y = write_both (s.channels) (e.channels) (f.channels) channels_apart in λ i. record { tasks = x i; channels = y i }
