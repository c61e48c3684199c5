-- What an outlined program reaches is good, and so no task is stuck.
use Rattle.standing_contexts.specs.Places.{Agree, BodyAt, Owed, PlaceAt, StackAt, Standing, names_of_env}
use Rattle.std.proofs.Common.{◌≡◌, ℕ, ℤ, codes, List, [], ◌∷◌, ◌++◌, map, length, Option, Some, None, refl, ap, sym, subst, ◌∙◌, arith}
use Rattle.core_language.specs.Names.{Name}
use Rattle.core_language.specs.Programs.{Body, Let, Mul, Div, Rem, Call, Tail, Fork, Send1, Recv1, Print, If, Split, Match, Absurd, Ret, Function, Program, main_function, function_named}
use Rattle.core_language.specs.Values.{Value}
use Rattle.core_language.specs.Computing.{unbounded, Env}
use Rattle.core_language.specs.Configurations.{names, Caller, Place, Ended, Running, started, Config, start}
use Rattle.core_language.specs.Acts.{act_of, act_at, params_env}
use Rattle.core_language.specs.Schedules.{after, IsSafe, IsStuckStep}
use Rattle.outline_language.specs.Nameless.{Res}
use Rattle.outline_language.specs.Contexts.{Context}
use Rattle.outline_language.specs.Rules.{limits_of, param_shapes}
use Rattle.outline_language.specs.Outlined.{own_result, OutlinedBody, IsOutlined}
use Rattle.good_configurations.specs.Ends.{at, no_values, integer_at}
use Rattle.good_configurations.specs.Values.{Use, KeepsAll}
use Rattle.good_configurations.specs.Uses.{AreSame}
use Rattle.good_configurations.specs.Acts.{Fits}
use Rattle.good_configurations.specs.Good.{Good}
use Rattle.good_steps.proofs.Kept.{ActsFit, step_fine, steps_good}
use Rattle.good_steps.proofs.Starts.{alone_good}
use Rattle.outline_values.specs.Formed.{NamesBound, MainFormed, IsFormed}
use Rattle.given_values.proofs.Giving.{HasShapes}
use Rattle.outline_steps.proofs.Quiet.{let_fits, mul_fits, print_fits, if_fits, absurd_fits, split_fits}
use Rattle.outline_steps.proofs.Returns.{match_fits, ret_fits}
use Rattle.outline_steps.proofs.Division.{div_fits, rem_fits}
use Rattle.standing_contexts.proofs.Entering.{outlined-named, own-back, entered-typed}
use Rattle.outline_steps.proofs.Calls.{call_fits, tail_fits}
use Rattle.outline_steps.proofs.Forks.{fork_fits, unit-unused}
use Rattle.outline_steps.proofs.Messages.{send_fits, recv_fits}

module _ (P : Program) (outlined : IsOutlined P) (formed : IsFormed P) where
  body_fits : (p : Name) (k : ℕ) (env : Env) (callers : List Caller) (F : Env) (owed : Owed) (us vs ws : List Use) → AreSame us (vs ++ ws) → StackAt P callers owed ws → (own : Res) (ctx : Context) (ks : List ℤ) (uses : List Use) → AreSame vs uses → Standing (P.protos) owed own ctx ks F uses
      → (body : Body) → OutlinedBody P own ctx body → NamesBound (P.protos) (names_of_env F) body → Agree (names body) env F → Fits (P.protos) (PlaceAt P) p k (act_at unbounded P p k body env callers) us
  body_fits p k env callers F owed us vs ws split stack own ctx ks uses alike s (Let span x term next) out bound agree = let_fits P p k env callers F owed us vs ws split stack own ctx ks uses alike s span x term next out bound agree
  body_fits p k env callers F owed us vs ws split stack own ctx ks uses alike s (Mul span x left right next) out bound agree = mul_fits P p k env callers F owed us vs ws split stack own ctx ks uses alike s span x left right next out bound agree
  body_fits p k env callers F owed us vs ws split stack own ctx ks uses alike s (Div span x term divisor next) out bound agree = div_fits P p k env callers F owed us vs ws split stack own ctx ks uses alike s span x term divisor next out bound agree
  body_fits p k env callers F owed us vs ws split stack own ctx ks uses alike s (Rem span x term divisor next) out bound agree = rem_fits P p k env callers F owed us vs ws split stack own ctx ks uses alike s span x term divisor next out bound agree
  body_fits p k env callers F owed us vs ws split stack own ctx ks uses alike s (Call span pat f values proof next) out bound agree = call_fits P outlined formed p k env callers F owed us vs ws split stack own ctx ks uses alike s span pat f values proof next out bound agree
  body_fits p k env callers F owed us vs ws split stack own ctx ks uses alike s (Tail span f values proof) out bound agree = tail_fits P outlined formed p k env callers F owed us vs ws split stack own ctx ks uses alike s span f values proof out bound agree
  body_fits p k env callers F owed us vs ws split stack own ctx ks uses alike s (Fork span x ref f values proof next) out bound agree = fork_fits P outlined formed p k env callers F owed us vs ws split stack own ctx ks uses alike s span x ref f values proof next out bound agree
  body_fits p k env callers F owed us vs ws split stack own ctx ks uses alike s (Send1 span c path value proof next) out bound agree = send_fits P formed p k env callers F owed us vs ws split stack own ctx ks uses alike s span c path value proof next out bound agree
  body_fits p k env callers F owed us vs ws split stack own ctx ks uses alike s (Recv1 span pat c path proof next) out bound agree = recv_fits P formed p k env callers F owed us vs ws split stack own ctx ks uses alike s span pat c path proof next out bound agree
  body_fits p k env callers F owed us vs ws split stack own ctx ks uses alike s (Print span term next) out bound agree = print_fits P p k env callers F owed us vs ws split stack own ctx ks uses alike s span term next out bound agree
  body_fits p k env callers F owed us vs ws split stack own ctx ks uses alike s (If span left right this other) out bound agree = if_fits P p k env callers F owed us vs ws split stack own ctx ks uses alike s span left right this other out bound agree
  body_fits p k env callers F owed us vs ws split stack own ctx ks uses alike s (Split span first second x next) out bound agree = split_fits P p k env callers F owed us vs ws split stack own ctx ks uses alike s span first second x next out bound agree
  body_fits p k env callers F owed us vs ws split stack own ctx ks uses alike s (Match span x arms) out bound agree = match_fits P p k env callers F owed us vs ws split stack own ctx ks uses alike s span x arms out bound agree
  body_fits p k env callers F owed us vs ws split stack own ctx ks uses alike s (Absurd span proof) out bound agree = absurd_fits P p k env callers F owed us vs ws split stack own ctx ks uses alike s span proof out
  body_fits p k env callers F owed us vs ws split stack own ctx ks uses alike s (Ret span value proof) out bound agree = ret_fits P p k env callers F owed us vs ws split stack own ctx ks uses alike s span value proof out bound agree

  pub acts_fit : ActsFit P (PlaceAt P)
  acts_fit p k Ended us none = none
  acts_fit p k (Running body env callers) us (F, owed, vs, ws, split, agree, (own, ctx, ks, uses, out, bound, alike, s), stack) = body_fits p k env callers F owed us vs ws split stack own ctx ks uses alike s body out bound agree

  pub start_good : Good (P.protos) (PlaceAt P) (start P)
  start_good = go (formed.main)
    where
      go : (f : Function) × (main_function P ≡ Some f) × MainFormed f → Good (P.protos) (PlaceAt P) (start P)
      go (f, is_main, main) = rw is_main (alone_good (P.protos) (PlaceAt P) (Running (f.body) [] []) ([], ([], own_result f), [], [], (λ q. refl), (λ x e. refl), typed, (refl, λ v vs h. unit-unused (f.result) (main.result) (integer_at []) (f.bound.names) v vs h)))
        where
          no_limits : KeepsAll (at no_values []) (limits_of f)
          no_limits = rw (main.limits) tt

          no_shapes : HasShapes no_values [] (param_shapes f) [] []
          no_shapes = rw (main.params) refl

          no_env : params_env (f.params) [] ≡ []
          no_env = ap (λ z. params_env z []) (main.params)

          typed : BodyAt P ([], own_result f) (f.body) [] []
          typed = subst (λ z. BodyAt P ([], own_result f) (f.body) z []) no_env
              (entered-typed (P.protos) f (formed.functions (codes "main") f is_main) no_values [] (sym (ap length (main.ints))) P refl (outlined-named P (P.funcs) outlined (codes "main") f is_main) ([], own_result f)
              (λ v us h. own-back (P.protos) f (formed.functions (codes "main") f is_main) no_values [] (sym (ap length (main.ints))) v us h) no_limits [] [] no_shapes)

  -- what is reached is good
  pub reached_good : (schedule : List Name) → Good (P.protos) (PlaceAt P) (after P schedule)
  reached_good schedule = steps_good P (PlaceAt P) acts_fit refl (start P) schedule start_good

  -- and so no task is stuck
  pub never_stuck : (schedule : List Name) → IsSafe P (after P schedule)
  never_stuck schedule p = (step_fine P (PlaceAt P) acts_fit refl (after P schedule) (reached_good schedule) p).1
