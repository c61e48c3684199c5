-- A fork's channel and task have the name of the next fork.
use Rattle.std.proofs.Common.{◌≡◌, ℕ, Bool, true, false, if◌then◌else◌, List, [], ◌∷◌, Option, Some, None, refl, subst}
use Rattle.core_language.specs.Names.{Name, child}
use Rattle.core_language.specs.Operands.{Pat}
use Rattle.core_language.specs.Programs.{Body, Program, arm_at}
use Rattle.core_language.specs.Programs as body
use Rattle.core_language.specs.Values.{Value}
use Rattle.core_language.specs.Values as value
use Rattle.core_language.specs.Computing.{Limits, Depth, Computed, Done, Sticks, Halts, Env, value_of, sum_of, supplied, all_supplied, multiplied, divided, left_over}
use Rattle.core_language.specs.Configurations.{Caller, Place, Running, Ended}
use Rattle.core_language.specs.Acts.{Act, with_result, returned, on_end, on_pair, on_sum, chosen, forked, act_at, act_of}
use Rattle.core_language.specs.Acts as act
use Rattle.core_language.specs.Endings.{is_ended}

-- the act isn't that of an ended task, and a fork that it makes has this name
abbrev Names : Name → Act → Type 0
Names q (act.Fork c parent its) = c ≡ q
Names q (act.Silent place) = Unit {0}
Names q (act.Print z place) = Unit {0}
Names q (act.Send c v place) = Unit {0}
Names q (act.Recv c place) = Unit {0}
Names q act.End = Unit {0}
Names q act.IsEnded = ⊥
Names q (act.IsHalted why) = Unit {0}
Names q (act.IsStuck why) = Unit {0}

module _ (q : Name) where
  of_result : {A : Type 0} (m : Computed A) (go : A → Act) → ((a : A) → Names q (go a)) → Names q (with_result m go)
  of_result (Done a) go h = h a
  of_result (Sticks why) go h = tt
  of_result (Halts why) go h = tt

  of_end : (o : Option Value) (go : Name → Act) → ((c : Name) → Names q (go c)) → Names q (on_end o go)
  of_end (Some (value.End c)) go h = h c
  of_end (Some (value.Int z)) go h = tt
  of_end (Some value.Unit) go h = tt
  of_end (Some (value.Pair a b)) go h = tt
  of_end (Some (value.Arm i a)) go h = tt
  of_end None go h = tt

  of_pair : (o : Option Value) (go : Value → Value → Act) → ((a b : Value) → Names q (go a b)) → Names q (on_pair o go)
  of_pair (Some (value.Pair a b)) go h = h a b
  of_pair (Some (value.Int z)) go h = tt
  of_pair (Some value.Unit) go h = tt
  of_pair (Some (value.Arm i a)) go h = tt
  of_pair (Some (value.End c)) go h = tt
  of_pair None go h = tt

  of_sum : (o : Option Value) (go : ℕ → Value → Act) → ((i : ℕ) (a : Value) → Names q (go i a)) → Names q (on_sum o go)
  of_sum (Some (value.Arm i a)) go h = h i a
  of_sum (Some (value.Int z)) go h = tt
  of_sum (Some value.Unit) go h = tt
  of_sum (Some (value.Pair a b)) go h = tt
  of_sum (Some (value.End c)) go h = tt
  of_sum None go h = tt

  of_arm : (arm : Option (Pat × Body)) (env : Env) (callers : List Caller) (v : Value) → Names q (chosen arm env callers v)
  of_arm (Some arm) env callers v = tt
  of_arm None env callers v = tt

  of_return : (callers : List Caller) (v : Value) → Names q (returned callers v)
  of_return [] v = tt
  of_return (c ∷ callers) v = tt

  of_test : (b : Bool) (parent its : Place) → Names q (if b then act.Fork q parent its else act.IsHalted Depth)
  of_test true parent its = refl
  of_test false parent its = tt

module _ (limits : Limits) (program : Program) (p : Name) (k : ℕ) where
  at_form : (rest : Body) (env : Env) (callers : List Caller) → Names (child p k) (act_at limits program p k rest env callers)
  at_form (body.Let span x term next) env callers = of_result _ (sum_of limits env term) _ (λ z. tt)
  at_form (body.Mul span x left right next) env callers = of_result _ (multiplied limits env left right) _ (λ z. tt)
  at_form (body.Div span x term divisor next) env callers = of_result _ (divided limits env term divisor) _ (λ z. tt)
  at_form (body.Rem span x term divisor next) env callers = of_result _ (left_over limits env term divisor) _ (λ z. tt)
  at_form (body.Call span pat func values proof next) env callers = of_result _ (all_supplied limits env values) _ (λ vs. tt)
  at_form (body.Tail span func values proof) env callers = of_result _ (all_supplied limits env values) _ (λ vs. tt)
  at_form (body.Fork span x proto func values proof next) env callers = of_result _ (all_supplied limits env values) _ (λ vs. of_test _ (limits.forks p) _ _)
  at_form (body.Send1 span channel path supply proof next) env callers = of_result _ (supplied limits env supply) _ (λ v. of_end _ (value_of env channel) _ (λ c. tt))
  at_form (body.Recv1 span pat channel path proof next) env callers = of_end _ (value_of env channel) _ (λ c. tt)
  at_form (body.Print span term next) env callers = of_result _ (sum_of limits env term) _ (λ z. tt)
  at_form (body.If span left right this other) env callers = of_result _ (sum_of limits env left) _ (λ a. of_result _ (sum_of limits env right) _ (λ b. tt))
  at_form (body.Split span first second x next) env callers = of_pair _ (value_of env x) _ (λ a b. tt)
  at_form (body.Match span x arms) env callers = of_sum _ (value_of env x) _ (λ i v. of_arm _ (arm_at arms i) env callers v)
  at_form (body.Absurd span proof) env callers = tt
  at_form (body.Ret span supply proof) env callers = of_result _ (supplied limits env supply) _ (λ v. of_return _ callers v)

  pub names_its_child : (place : Place) (c : Name) (parent its : Place) → act_of limits program p k place ≡ act.Fork c parent its → c ≡ child p k
  names_its_child Ended c parent its is = let bad : ⊥ = cc in absurd bad
  names_its_child (Running rest env callers) c parent its is = subst (Names (child p k)) is (at_form rest env callers)

  -- only an ended task has the act of one
  pub ends_only_ended : (place : Place) → act_of limits program p k place ≡ act.IsEnded → is_ended place ≡ true
  ends_only_ended Ended is = refl
  ends_only_ended (Running rest env callers) is = absurd (subst (Names (child p k)) is (at_form rest env callers))
