-- In a good configuration two tasks that move don't ask for one channel, and so their steps commute.
use Rattle.std.proofs.Common.{◌≡◌, ◌≢◌, ℕ, ◌+◌, ◌≤◌, Bool, true, false, cond, not, ◌&&◌, List, [], ◌∷◌, ◌++◌, Option, Some, None, refl, ap, sym, subst, ◌∙◌, ◌⊎◌, inl, inr, arith}
use Rattle.std.specs.FinMap.{get}
use Rattle.std.proofs.lemmas.Bool.{and_parts}
use Rattle.core_language.specs.Names.{Name, child, same_name}
use Rattle.core_language.specs.Programs.{Program}
use Rattle.core_language.specs.Values.{Value}
use Rattle.core_language.specs.Computing.{Limits, Halt, unbounded, machine}
use Rattle.core_language.specs.Configurations.{Config, Place, Task}
use Rattle.core_language.specs.Acts.{Act, act_of}
use Rattle.core_language.specs.Acts as act
use Rattle.core_language.specs.Steps.{Event}
use Rattle.core_language.proofs.Halting.{ActsAlike, act_of-alike}
use Rattle.graphs.specs.Graph.{count, Node, task}
use Rattle.graphs.proofs.Counts.{count_cases}
use Rattle.graphs.proofs.Fewer.{count_pointwise_le}
use Rattle.moved_uses.proofs.Bags.{name-self, same_holder, holder-is, differ_holder}
use Rattle.moved_uses.proofs.Moving.{task_apart}
use Rattle.outline_language.specs.Equations.{Sends, Receives, Concrete, opposite}
use Rattle.good_configurations.specs.Values.{Use}
use Rattle.good_configurations.specs.Uses.{Uses, AreSame, Holds, EndsAt}
use Rattle.good_configurations.specs.Messages.{Does}
use Rattle.good_configurations.specs.Acts.{Typing, Fits}
use Rattle.good_configurations.specs.Good.{TaskGood, ChannelGood, Good}
use Rattle.good_steps.proofs.Heads.{not_both}
use Rattle.good_steps.proofs.SameEnds.{same_flag, same_ints, same_concrete, same_concrete-self, one_of_two}
use Rattle.good_steps.proofs.Ends.{is_end}
use Rattle.good_steps.proofs.Forks.{child_same, fresh_task, fresh_channel}
use Rattle.good_steps.proofs.Kept.{ActsFit}
use Rattle.good_orders.specs.Changes.{State, state_of, config_of, step_state, Change, change, asks, happens, changed, change_at}
use Rattle.good_orders.proofs.Changing.{state_step, step-changes, Asks, ForksAs, none_some, still_there, still_acts, same_after}

-- two holders are two uses
two_holders : (n m : Node Name) → n ≢ m → (z : Node Name × Name × Concrete → Bool) (all : Uses) → count (λ u. same_holder n u.0 && z u) all + count (λ u. same_holder m u.0 && z u) all ≤ count z all
two_holders n m apart z all = omega (arith, count_cases (λ u. same_holder n u.0) z all, count_pointwise_le (λ u. same_holder m u.0 && z u) (λ u. not (same_holder n u.0) && z u) at all)
  where
    at : (u : Node Name × Name × Concrete) → (same_holder m u.0 && z u) ≡ true → (not (same_holder n u.0) && z u) ≡ true
    at u h = let a = and_parts (same_holder m u.0) (z u) h in let e : same_holder n u.0 ≡ false = ap (same_holder n) (sym (holder-is m u.0 (a.0))) ∙ differ_holder n m apart in rw (e, a.1) refl

-- the acts within the limits fit, or halt
abbrev pub FitOrHalt : Limits → Program → Typing → Type 0
FitOrHalt limits P Typed = (p : Name) (k : ℕ) (place : Place) (us : List Use) → Typed place us → Fits P.protos Typed p k (act_of limits P p k place) us ⊎ ((why : Halt) × (act_of limits P p k place ≡ act.IsHalted why))

module _ (limits : Limits) (P : Program) (Typed : Typing) (fits : FitOrHalt limits P Typed) (s : State) (good : Good (P.protos) Typed (config_of s)) where
  -- a task that moves, and what it does
  record Mover (p : Name) (t : State) (ev : Event) : Type 0 where
    of : Task
    at_p : get (s.tasks) p ≡ Some of
    us : List Use
    holds : Holds (task p) us (good.uses)
    a : Act
    fit : Fits (P.protos) Typed p (of.forks) a us
    is_act : a ≡ act_of limits P p (of.forks) (of.place)
    e : Change
    acts : change_at s p (of.forks) a ≡ Some e
    after : t ≡ happens s e
    event : ev ≡ e.event

  mover : (p : Name) (t : State) (ev : Event) → step_state limits P s p ≡ Some (t, ev) → Mover p t ev
  mover p t ev h = go (get (s.tasks) p) refl (good.tasks p) (sym (step-changes limits P (config_of s) p) ∙ h)
    where
      go : (o : Option Task) → get (s.tasks) p ≡ o → TaskGood Typed (good.uses) p o → state_step limits P s p o ≡ Some (t, ev) → Mover p t ev
      go None e held h = none_some h
      go (Some of) e (us, typed, held) h = by (change_at s p (of.forks) (act_of limits P p (of.forks) (of.place))) refl h
        where
          fitting : (c : Change) → change_at s p (of.forks) (act_of limits P p (of.forks) (of.place)) ≡ Some c → Fits P.protos Typed p (of.forks) (act_of limits P p (of.forks) (of.place)) us ⊎ ((why : Halt) × (act_of limits P p (of.forks) (of.place) ≡ act.IsHalted why)) → Fits P.protos Typed p (of.forks) (act_of limits P p (of.forks) (of.place)) us
          fitting c is (inl fit) = fit
          fitting c is (inr (why, halted)) = none_some (sym (ap (λ z. change_at s p (of.forks) z) halted) ∙ is)

          pair_same : {x y : State × Event} → Some x ≡ Some y → x ≡ y
          pair_same e = cc

          by : (o : Option Change) → change_at s p (of.forks) (act_of limits P p (of.forks) (of.place)) ≡ o → changed s o ≡ Some (t, ev) → Mover p t ev
          by None is h = none_some h
          by (Some c) is h = record { of = of; at_p = e; us = us; holds = held; a = act_of limits P p (of.forks) (of.place); fit = fitting c is (fits p (of.forks) (of.place) us typed); is_act = refl; e = c; acts = is; after = sym (ap (λ z. z.0) (pair_same h)); event = sym (ap (λ z. z.1) (pair_same h)) }

  forks_as : (p : Name) (k : ℕ) (a : Act) (us : List Use) → Fits (P.protos) Typed p k a us → ForksAs p k a
  forks_as p k (act.Fork c parent its) us (e, vs, rest, is, split, does, parent_stands, born) = is
  forks_as p k (act.Silent place) us fit = tt
  forks_as p k (act.Print z place) us fit = tt
  forks_as p k (act.Send c v place) us fit = tt
  forks_as p k (act.Recv c place) us fit = tt
  forks_as p k act.End us fit = tt
  forks_as p k act.IsEnded us fit = tt
  forks_as p k (act.IsHalted why) us fit = tt
  forks_as p k (act.IsStuck why) us fit = tt

  -- what a task that asks for a channel holds of it
  record HoldsEnd (p : Name) (c : Name) (o : Option (Option Value)) : Type 0 where
    e : Concrete
    held : (q : Concrete → Bool) → cond (q e) 1 0 ≤ count (λ u. same_holder (task p) u.0 && (same_name c u.1 && q u.2)) (good.uses)
    among : (es : List Concrete) → EndsAt c es (good.uses) → 1 ≤ count (same_concrete e) es
    way : ((o ≡ Some None) × Does (P.protos) e Sends) ⊎ ((v : Value) × (o ≡ Some (Some v)))

  holds_end : (p : Name) (of : Task) → get (s.tasks) p ≡ Some of → (us : List Use) → Holds (task p) us (good.uses) → (a : Act) → Fits (P.protos) Typed p (of.forks) a us → (o : Option (Option Value)) (e : Change) → change p (of.forks) a o ≡ Some e → Asks a → HoldsEnd p (asks a) o
  holds_end p of at_p us holds (act.Send c v place) (end, vs, rest, split, sends, carries, stands) None e h ask = none_some h
  holds_end p of at_p us holds (act.Send c v place) (end, vs, rest, split, sends, carries, stands) (Some (Some u)) e h ask = none_some h
  holds_end p of at_p us holds (act.Send c v place) (end, vs, rest, split, sends, carries, stands) (Some None) e h ask = record {
    e = end;
    held = λ q. omega (arith, holds (λ u. same_name c u.0 && q u.1), split (λ u. same_name c u.0 && q u.1), own q);
    among = λ es ends. is_end (P.protos) Typed (config_of s) good p of at_p us holds c end (vs ++ rest) split es ends;
    way = inl (refl, sends);
  }
    where
      own : (q : Concrete → Bool) → ◌≡◌ {A = ℕ} (cond (same_name c c && q end) 1 0) (cond (q end) 1 0)
      own q = rw (name-self c) refl
  holds_end p of at_p us holds (act.Recv c place) (end, rest, split, receives, goes) None e h ask = none_some h
  holds_end p of at_p us holds (act.Recv c place) (end, rest, split, receives, goes) (Some None) e h ask = none_some h
  holds_end p of at_p us holds (act.Recv c place) (end, rest, split, receives, goes) (Some (Some v)) e h ask = record {
    e = end;
    held = λ q. omega (arith, holds (λ u. same_name c u.0 && q u.1), split (λ u. same_name c u.0 && q u.1), own q);
    among = λ es ends. is_end (P.protos) Typed (config_of s) good p of at_p us holds c end rest split es ends;
    way = inr (v, refl);
  }
    where
      own : (q : Concrete → Bool) → ◌≡◌ {A = ℕ} (cond (same_name c c && q end) 1 0) (cond (q end) 1 0)
      own q = rw (name-self c) refl
  holds_end p of at_p us holds (act.Silent place) fit o e h ask = absurd ask
  holds_end p of at_p us holds (act.Print z place) fit o e h ask = absurd ask
  holds_end p of at_p us holds (act.Fork c parent its) fit o e h ask = absurd ask
  holds_end p of at_p us holds act.End fit o e h ask = absurd ask
  holds_end p of at_p us holds act.IsEnded fit o e h ask = absurd ask
  holds_end p of at_p us holds (act.IsHalted why) fit o e h ask = absurd ask
  holds_end p of at_p us holds (act.IsStuck why) fit o e h ask = absurd ask

  -- two tasks hold what two ends count
  clash : (p q : Name) → p ≢ q → (c : Name) (o o' : Option (Option Value)) (x : HoldsEnd p c o) (y : HoldsEnd q c o') (es : List Concrete) → EndsAt c es (good.uses) → (t : Concrete → Bool) → t (x.e) ≡ true → t (y.e) ≡ true → 2 ≤ count t es
  clash p q apart c o o' x y es ends t tx ty = omega (arith, ends t, two_holders (task p) (task q) (task_apart p q apart) (λ u. same_name c u.1 && t u.2) (good.uses), x.held t, y.held t, ap {B = ℕ} (λ b. cond b 1 0) tx, ap {B = ℕ} (λ b. cond b 1 0) ty)

  different : (p q : Name) → p ≢ q → (c : Name) → HoldsEnd p c (get (s.channels) c) → HoldsEnd q c (get (s.channels) c) → ⊥
  different p q apart c x y = go (get (s.channels) c) refl (good.channels c) (x.way) (y.way)
    where
      empty_full : {v : Value} {A : Type 0} → Some None ≡ Some (Some v) → A
      empty_full e = cc

      alone : (z : Concrete) → count (same_concrete (opposite z)) (z ∷ opposite z ∷ []) ≤ 1
      alone z = by_flag (z.dual) (same_concrete (opposite z) (opposite z))
        where
          by_flag : (b t : Bool) → cond (same_flag (not b) b && (same_name (z.name) (z.name) && same_ints (z.args) (z.args))) 1 0 + (cond t 1 0 + 0) ≤ 1
          by_flag true true = omega arith
          by_flag true false = omega arith
          by_flag false true = omega arith
          by_flag false false = omega arith

      go : (o : Option (Option Value)) → get (s.channels) c ≡ o → ChannelGood (P.protos) (good.ends) (good.uses) c o → ((get (s.channels) c ≡ Some None) × Does (P.protos) (x.e) Sends) ⊎ ((v : Value) × (get (s.channels) c ≡ Some (Some v))) → ((get (s.channels) c ≡ Some None) × Does (P.protos) (y.e) Sends) ⊎ ((v : Value) × (get (s.channels) c ≡ Some (Some v))) → ⊥
      go None e g (inl (h, sends)) w = none_some (sym e ∙ h)
      go None e g (inr (v, h)) w = none_some (sym e ∙ h)
      go (Some (Some v)) e (held, ends, way) w w' = omega (arith, clash p q apart c (get (s.channels) c) (get (s.channels) c) x y (good.ends c ∷ []) ends (λ _. true) refl refl)
      go (Some None) e g (inr (v, h)) w = empty_full (sym e ∙ h)
      go (Some None) e g (inl h) (inr (v, h')) = empty_full (sym e ∙ h')
      go (Some None) e (held, ends, way) (inl (h, sends)) (inl (h', sends')) = by (one_of_two (x.e) (good.ends c) (opposite (good.ends c)) (x.among (good.ends c ∷ opposite (good.ends c) ∷ []) ends)) (one_of_two (y.e) (good.ends c) (opposite (good.ends c)) (y.among (good.ends c ∷ opposite (good.ends c) ∷ []) ends))
        where
          by : (x.e ≡ good.ends c) ⊎ (x.e ≡ opposite (good.ends c)) → (y.e ≡ good.ends c) ⊎ (y.e ≡ opposite (good.ends c)) → ⊥
          by (inl g) w = not_both (P.protos) (good.ends c) (subst (λ z. Does (P.protos) z Sends) g sends) way
          by (inr g) (inl g') = not_both (P.protos) (good.ends c) (subst (λ z. Does (P.protos) z Sends) g' sends') way
          by (inr g) (inr g') = omega (arith, alone (good.ends c), clash p q apart c (get (s.channels) c) (get (s.channels) c) x y (good.ends c ∷ opposite (good.ends c) ∷ []) ends (same_concrete (opposite (good.ends c))) (ap (same_concrete (opposite (good.ends c))) g ∙ same_concrete-self (opposite (good.ends c))) (ap (same_concrete (opposite (good.ends c))) g' ∙ same_concrete-self (opposite (good.ends c))))

  -- one order of two movers
  one_order : (p q : Name) (t u : State) (e f : Event) → p ≢ q → (x : Mover p t e) (y : Mover q u f) → (step_state limits P t q ≡ Some (happens (happens s (x.e)) (y.e), f)) × (happens (happens s (x.e)) (y.e) ≡ happens (happens s (y.e)) (x.e))
  one_order p q t u e f apart x y = (stepped, same_after s p q (x.of.forks) (y.of.forks) (x.a) (y.a) (x.e) (y.e) apart (there (x.at_p)) (there (y.at_p)) (fresh_task (P.protos) Typed (config_of s) good p (x.of) (x.at_p)) (fresh_task (P.protos) Typed (config_of s) good q (y.of) (y.at_p)) (fresh_channel (P.protos) Typed (config_of s) good p (x.of) (x.at_p)) (fresh_channel (P.protos) Typed (config_of s) good q (y.of) (y.at_p)) children (forks_as p (x.of.forks) (x.a) (x.us) (x.fit)) (forks_as q (y.of.forks) (y.a) (y.us) (y.fit)) (x.acts) (y.acts) differ)
    where
      there : {o : Option Task} {t : Task} → o ≡ Some t → o ≢ None
      there e f = some_none (sym e ∙ f)
        where
          some_none : {t : Task} → Some t ≡ None → ⊥
          some_none e = cc

      children : child p (x.of.forks) ≢ child q (y.of.forks)
      children e = apart ((child_same p q (x.of.forks) (y.of.forks) e).0)

      differ : Asks (x.a) → Asks (y.a) → asks (x.a) ≢ asks (y.a)
      differ ask ask' same = different p q apart (asks (x.a)) (holds_end p (x.of) (x.at_p) (x.us) (x.holds) (x.a) (x.fit) (get (s.channels) (asks (x.a))) (x.e) (x.acts) ask)
          (subst (λ n. HoldsEnd q n (get (s.channels) n)) (sym same) (holds_end q (y.of) (y.at_p) (y.us) (y.holds) (y.a) (y.fit) (get (s.channels) (asks (y.a))) (y.e) (y.acts) ask'))

      kept : get ((happens s (x.e)).tasks) q ≡ get (s.tasks) q
      kept = still_there s p q (x.of.forks) (y.of.forks) (x.a) (y.a) (x.e) (y.e) apart (there (x.at_p)) (there (y.at_p)) (fresh_task (P.protos) Typed (config_of s) good p (x.of) (x.at_p)) (fresh_task (P.protos) Typed (config_of s) good q (y.of) (y.at_p)) (fresh_channel (P.protos) Typed (config_of s) good p (x.of) (x.at_p)) (fresh_channel (P.protos) Typed (config_of s) good q (y.of) (y.at_p)) children (forks_as p (x.of.forks) (x.a) (x.us) (x.fit)) (forks_as q (y.of.forks) (y.a) (y.us) (y.fit)) (x.acts) (y.acts) differ

      acts : change_at (happens s (x.e)) q (y.of.forks) (y.a) ≡ Some (y.e)
      acts = still_acts s p q (x.of.forks) (y.of.forks) (x.a) (y.a) (x.e) (y.e) apart (there (x.at_p)) (there (y.at_p)) (fresh_task (P.protos) Typed (config_of s) good p (x.of) (x.at_p)) (fresh_task (P.protos) Typed (config_of s) good q (y.of) (y.at_p)) (fresh_channel (P.protos) Typed (config_of s) good p (x.of) (x.at_p)) (fresh_channel (P.protos) Typed (config_of s) good q (y.of) (y.at_p)) children (forks_as p (x.of.forks) (x.a) (x.us) (x.fit)) (forks_as q (y.of.forks) (y.a) (y.us) (y.fit)) (x.acts) (y.acts) differ

      stepped : step_state limits P t q ≡ Some (happens (happens s (x.e)) (y.e), f)
      stepped = ap (λ z. step_state limits P z q) (x.after) ∙ step-changes limits P (config_of (happens s (x.e))) q ∙ ap (state_step limits P (happens s (x.e)) q) (kept ∙ y.at_p)
          ∙ ap (λ z. changed (happens s (x.e)) (change_at (happens s (x.e)) q (y.of.forks) z)) (sym (y.is_act)) ∙ ap (changed (happens s (x.e))) acts ∙ ap (λ z. Some (happens (happens s (x.e)) (y.e), z)) (sym (y.event))

  -- steps commute
  pub commute : (p q : Name) (t u : State) (e f : Event) → (p ≡ q → ⊥) → step_state limits P s p ≡ Some (t, e) → step_state limits P s q ≡ Some (u, f) → (v : State) × (step_state limits P t q ≡ Some (v, f)) × (step_state limits P u p ≡ Some (v, e))
  commute p q t u e f apart h h' = go (mover p t e h) (mover q u f h')
    where
      go : Mover p t e → Mover q u f → (v : State) × (step_state limits P t q ≡ Some (v, f)) × (step_state limits P u p ≡ Some (v, e))
      go x y =
          let l = one_order p q t u e f apart x y in
          let r = one_order q p u t f e (λ z. apart (sym z)) y x in
          (happens (happens s (x.e)) (y.e), l.0, r.0 ∙ ap (λ z. Some (z, e)) (sym (l.1)))

-- without limits the acts fit, and within those of the machine they fit or halt
pub unbounded_fits : (P : Program) (Typed : Typing) → ActsFit P Typed → FitOrHalt unbounded P Typed
unbounded_fits P Typed fits p k place us typed = inl (fits p k place us typed)

pub machine_fits : (P : Program) (Typed : Typing) → ActsFit P Typed → FitOrHalt machine P Typed
machine_fits P Typed fits p k place us typed = go (act_of-alike P p k place)
  where
    go : ActsAlike (act_of machine P p k place) (act_of unbounded P p k place) → Fits P.protos Typed p k (act_of machine P p k place) us ⊎ ((why : Halt) × (act_of machine P p k place ≡ act.IsHalted why))
    go (inl halted) = inr halted
    go (inr same) = inl (subst (λ z. Fits P.protos Typed p k z us) (sym same) (fits p k place us typed))
