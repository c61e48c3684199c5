-- A task waits only where it receives, and there no limit is asked.
use Rattle.std.proofs.Common.{◌≡◌, ℕ, Bool, true, false, if◌then◌else◌, refl, sym, ◌∙◌, List, [], ◌∷◌, Option, Some, None}
use Rattle.std.specs.FinMap.{get}
use Rattle.core_language.specs.Names.{Name, Ident}
use Rattle.core_language.specs.Programs.{Body, Program}
use Rattle.core_language.specs.Programs as body
use Rattle.core_language.specs.Values.{Value}
use Rattle.core_language.specs.Values as value
use Rattle.core_language.specs.Computing.{Limits, Depth, Computed, Done, Sticks, Halts, Env, value_of, sum_of, supplied, all_supplied, multiplied, divided, left_over}
use Rattle.core_language.specs.Configurations.{Config, Caller, Place, Running, Ended, Task}
use Rattle.core_language.specs.Acts.{Act, with_result, on_end, returned, forked, act_at, act_of}
use Rattle.core_language.specs.Acts as act
use Rattle.core_language.specs.Steps.{sent, effect, step_at}
use Rattle.held_ends.specs.Waiting.{pair_of}
use Rattle.held_ends.specs.Laws.{WaitsWithinAny}

module _ (C : Config) (p : Name) (k : ℕ) where
  -- the act doesn't wait
  abbrev GoesOn : Act → Type 0
  GoesOn a = pair_of p (effect C p k a) ≡ []

  after_result : {A : Type 0} (r : Computed A) (go : A → Act) → ((a : A) → GoesOn (go a)) → GoesOn (with_result r go)
  after_result (Done a) go each = each a
  after_result (Sticks why) go each = refl
  after_result (Halts why) go each = refl

  at_end : (v : Option Value) (go : Name → Act) → ((c : Name) → GoesOn (go c)) → GoesOn (on_end v go)
  at_end (Some (value.End c)) go each = each c
  at_end (Some (value.Int z)) go each = refl
  at_end (Some value.Unit) go each = refl
  at_end (Some (value.Pair a b)) go each = refl
  at_end (Some (value.Arm i a)) go each = refl
  at_end None go each = refl

  at_return : (callers : List Caller) (v : Value) → GoesOn (returned callers v)
  at_return [] v = refl
  at_return (caller ∷ callers) v = refl

  at_send : (c : Name) (v : Value) (place : Place) → GoesOn (act.Send c v place)
  at_send c v place = by (get C.channels c)
    where
      by : (found : Option (Option Value)) → pair_of p (sent C p k c v place found) ≡ []
      by (Some None) = refl
      by (Some (Some u)) = refl
      by None = refl

  at_fork : (limits : Limits) (program : Program) (x func : Ident) (next : Body) (env : Env) (callers : List Caller) (vs : List Value)
      → GoesOn (forked limits program p k x func next env callers vs)
  at_fork limits program x func next env callers vs = by (limits.forks p) _ refl
    where
      by : (b : Bool) (a : Act) → GoesOn a → GoesOn (if b then a else act.IsHalted Depth)
      by true a h = h
      by false a h = refl

  -- within any limits a form goes on, or asks none of them
  at_form : (limits others : Limits) (program : Program) (rest : Body) (env : Env) (callers : List Caller)
      → pair_of p (effect C p k (act_at limits program p k rest env callers)) ≡ pair_of p (effect C p k (act_at others program p k rest env callers))
  at_form limits others program (body.Recv1 span pat channel path proof next) env callers = refl
  at_form limits others program (body.Absurd span proof) env callers = refl
  at_form limits others program (body.Split span first second x next) env callers = refl
  at_form limits others program (body.Match span x arms) env callers = refl
  at_form limits others program (body.Let span x term next) env callers =
      after_result (sum_of limits env term) _ (λ z. refl) ∙ sym (after_result (sum_of others env term) _ (λ z. refl))
  at_form limits others program (body.Mul span x left right next) env callers =
      after_result (multiplied limits env left right) _ (λ z. refl) ∙ sym (after_result (multiplied others env left right) _ (λ z. refl))
  at_form limits others program (body.Div span x term divisor next) env callers =
      after_result (divided limits env term divisor) _ (λ z. refl) ∙ sym (after_result (divided others env term divisor) _ (λ z. refl))
  at_form limits others program (body.Rem span x term divisor next) env callers =
      after_result (left_over limits env term divisor) _ (λ z. refl) ∙ sym (after_result (left_over others env term divisor) _ (λ z. refl))
  at_form limits others program (body.Call span pat func values proof next) env callers =
      after_result (all_supplied limits env values) _ (λ vs. refl) ∙ sym (after_result (all_supplied others env values) _ (λ vs. refl))
  at_form limits others program (body.Tail span func values proof) env callers =
      after_result (all_supplied limits env values) _ (λ vs. refl) ∙ sym (after_result (all_supplied others env values) _ (λ vs. refl))
  at_form limits others program (body.Fork span x proto func values proof next) env callers =
      after_result (all_supplied limits env values) _ (at_fork limits program x func next env callers)
      ∙ sym (after_result (all_supplied others env values) _ (at_fork others program x func next env callers))
  at_form limits others program (body.Send1 span channel path v proof next) env callers =
      after_result (supplied limits env v) _ (λ v. at_end (value_of env channel) _ (λ c. at_send c v _))
      ∙ sym (after_result (supplied others env v) _ (λ v. at_end (value_of env channel) _ (λ c. at_send c v _)))
  at_form limits others program (body.Print span term next) env callers =
      after_result (sum_of limits env term) _ (λ z. refl) ∙ sym (after_result (sum_of others env term) _ (λ z. refl))
  at_form limits others program (body.If span left right this other) env callers =
      after_result (sum_of limits env left) _ (λ a. after_result (sum_of limits env right) _ (λ b. refl))
      ∙ sym (after_result (sum_of others env left) _ (λ a. after_result (sum_of others env right) _ (λ b. refl)))
  at_form limits others program (body.Ret span v proof) env callers =
      after_result (supplied limits env v) _ (at_return callers) ∙ sym (after_result (supplied others env v) _ (at_return callers))

  at_place : (limits others : Limits) (program : Program) (place : Place)
      → pair_of p (effect C p k (act_of limits program p k place)) ≡ pair_of p (effect C p k (act_of others program p k place))
  at_place limits others program Ended = refl
  at_place limits others program (Running rest env callers) = at_form limits others program rest env callers

pub waits_alike : WaitsWithinAny
waits_alike limits others program C p = by (get C.tasks p)
  where
    by : (o : Option Task) → pair_of p (step_at limits program C p o) ≡ pair_of p (step_at others program C p o)
    by None = refl
    by (Some t) = at_place C p t.forks limits others program t.place
