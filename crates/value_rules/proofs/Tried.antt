-- Arms that are tried one by one.
use Rattle.std.proofs.Common.{◌≡◌, ℕ, zero, suc, ◌-◌, ◌<◌, ◌≤◌, Bool, true, false, if◌then◌else◌, slice_get, List, [], ◌∷◌, length, Option, Some, None, Result, Ok, Err, Bor, refl, sym, ap, ◌∙◌, arith}
use Rattle.std.specs.Option.{option_map, option_copied, MatchOption}
use Rattle.std.specs.List.{HoldsAt}
use Rattle.std.proofs.lemmas.Option.{slice_get_read}
use Rattle.core_language.specs.Names.{Ident}
use Rattle.core_language.specs.Operands.{Pat}
use Rattle.core_language.specs.Programs.{Body, arm_at}
use Rattle.chan_syntax.specs.Reading.{pat_of}
use Rattle.core_programs.specs.declared.nodes.Arm.{Arm}
use Rattle.core_programs.specs.Bodies.{arms_opened}
use Rattle.outline_language.specs.Nameless.{Shape, Res, Resources, resource_at}
use Rattle.outline_language.specs.Contexts.{Why, WrongForm, Context, Taken, and_then, or_why, provided, nothing, take, bind}
use Rattle.outline_language.specs.Giving.{sum_of}
use Rattle.outline_language.specs.Rules.{as_many, bind_arms, rule_match}
use Rattle.outline_obligations.proofs.Reasons.{then_ok, then_err}
use Rattle.outline_walk.proofs.Arms.{not_first}
use Rattle.value_rules.specs.Arms.{bound_arm}
use Rattle.nameless_shapes.specs.Reading.{resources_from}

module _ (at : ℕ → Body) where
  pub even : (rs : List Res) (arms : List Arm) → length rs ≡ length arms → as_many (resources_from rs) (arms_opened arms at) ≡ true
  even [] [] is = refl
  even [] (a ∷ arms) is = absurd (omega (arith, is))
  even (r ∷ rs) [] is = absurd (omega (arith, is))
  even (r ∷ rs) (a ∷ arms) is = even rs arms (omega (arith, is))

  pub uneven : (rs : List Res) (arms : List Arm) → (length rs ≡ length arms → ⊥) → as_many (resources_from rs) (arms_opened arms at) ≡ false
  uneven [] [] not_is = absurd (not_is refl)
  uneven [] (a ∷ arms) not_is = refl
  uneven (r ∷ rs) [] not_is = refl
  uneven (r ∷ rs) (a ∷ arms) not_is = uneven rs arms (λ is. not_is (omega (arith, is)))

  -- the contexts of the arms from a number on
  abbrev pub bound_from : Context → List Res → List Arm → Result (List Context) Why
  bound_from ctx rs arms = bind_arms ctx (resources_from rs) (arms_opened arms at)

  -- whatever comes of the rest, comes of all
  pub record Decides (rest whole : Result (List Context) Why) : Type 0 where
    pub ok : (each : List Context) → rest ≡ Ok each → (all : List Context) × (whole ≡ Ok all)
    pub err : (why : Why) → rest ≡ Err why → whole ≡ Err why

  pub whole_decides : (whole : Result (List Context) Why) → Decides whole whole
  whole_decides whole = record { ok = λ each is. (each, is); err = λ why is. is }

  abbrev then_others : Context → List Res → List Arm → Context → Result (List Context) Why
  then_others ctx rs arms here = and_then (bound_from ctx rs arms) (λ others. Ok (here ∷ others))

  module _ (ctx : Context) (rs : List Res) (arms : List Arm) (whole : Result (List Context) Why) where
    pub none_left : rs ≡ [] → arms ≡ [] → Decides (bound_from ctx rs arms) whole → (all : List Context) × (whole ≡ Ok all)
    none_left no_res no_arm decides = decides.ok [] (ap (λ (xs : List Res). bound_from ctx xs arms) no_res ∙ ap (λ (xs : List Arm). bound_from ctx [] xs) no_arm)

    module _ (r : Res) (others : List Res) (a : Arm) (more : List Arm) (res : rs ≡ r ∷ others) (arm : arms ≡ a ∷ more) (decides : Decides (bound_from ctx rs arms) whole) where
      here : bound_from ctx rs arms ≡ and_then (bind ctx (pat_of a.pat) r) (then_others ctx others more)
      here = ap (λ (xs : List Res). bound_from ctx xs arms) res ∙ ap (λ (xs : List Arm). bound_from ctx (r ∷ others) xs) arm

      pub arm_fails : (why : Why) → bind ctx (pat_of a.pat) r ≡ Err why → whole ≡ Err why
      arm_fails why is = decides.err why (here ∙ then_err (bind ctx (pat_of a.pat) r) why (then_others ctx others more) is)

      pub arm_goes : (after : Context) → bind ctx (pat_of a.pat) r ≡ Ok after → Decides (bound_from ctx others more) whole
      arm_goes after is = record {
        ok = λ each so. decides.ok (after ∷ each) (bound ∙ then_ok (bound_from ctx others more) each (λ os. Ok (after ∷ os)) so);
        err = λ why so. decides.err why (bound ∙ then_err (bound_from ctx others more) why (λ os. Ok (after ∷ os)) so);
      }
        where
          bound : bound_from ctx rs arms ≡ then_others ctx others more after
          bound = here ∙ then_ok (bind ctx (pat_of a.pat) r) after (then_others ctx others more) is

  -- ---- the rule

  module _ (ctx : Context) (x : Ident) (arms : List Arm) (shape : Shape) (left : Context) (taken : take ctx x ≡ Ok (record { shape = shape; context = left })) where
    abbrev then_arms : Resources → Result (List Context) Why
    then_arms resources = and_then (provided (as_many resources (arms_opened arms at)) WrongForm nothing) (λ _. bind_arms left resources (arms_opened arms at))

    abbrev then_sum : Taken → Result (List Context) Why
    then_sum t =
        and_then (or_why (sum_of t.shape) WrongForm) (λ resources.
        and_then (provided (as_many resources (arms_opened arms at)) WrongForm nothing) (λ _. bind_arms t.context resources (arms_opened arms at)))

    of_shape : rule_match ctx x (arms_opened arms at) ≡ then_sum (record { shape = shape; context = left })
    of_shape = then_ok (take ctx x) (record { shape = shape; context = left }) then_sum taken

    pub no_sum : sum_of shape ≡ None → rule_match ctx x (arms_opened arms at) ≡ Err WrongForm
    no_sum is = of_shape ∙ ap (λ (o : Option Resources). and_then (or_why o WrongForm) then_arms) is

    module _ (rs : List Res) (is : sum_of shape ≡ Some (resources_from rs)) where
      of_sum : rule_match ctx x (arms_opened arms at) ≡ then_arms (resources_from rs)
      of_sum = of_shape ∙ ap (λ (o : Option Resources). and_then (or_why o WrongForm) then_arms) is

      pub not_as_many : (length rs ≡ length arms → ⊥) → rule_match ctx x (arms_opened arms at) ≡ Err WrongForm
      not_as_many not_is = of_sum ∙ ap (λ (b : Bool). and_then (provided b WrongForm nothing) (λ _. bind_arms left (resources_from rs) (arms_opened arms at))) (uneven rs arms not_is)

      pub each_arm : length rs ≡ length arms → rule_match ctx x (arms_opened arms at) ≡ bound_from left rs arms
      each_arm long = of_sum ∙ ap (λ (b : Bool). and_then (provided b WrongForm nothing) (λ _. bind_arms left (resources_from rs) (arms_opened arms at))) (even rs arms long)

-- ---- the resource of an arm, and its pattern

nothing_past : {X : Type 0} (xs : List X) (k : ℕ) → length xs ≤ k → slice_get xs k ≡ None
nothing_past [] k le = refl
nothing_past (x ∷ xs) zero le = absurd (omega (arith, le))
nothing_past (x ∷ xs) (suc k) le = nothing_past xs k (omega (arith, le))

pub got : {X : Type 0} (xs : List X) (k : ℕ) (r : Option (Bor X)) → MatchOption r (length xs ≤ k) (λ x. (k < length xs) × HoldsAt (λ y. x.now ≡ y) xs k) → option_copied r ≡ slice_get xs k
got xs k None past = sym (nothing_past xs k past)
got xs k (Some x) (less, holds) = sym (slice_get_read xs (length xs) k x.now refl less (holds x.now))

pub at_number : (rs : List Res) (k : ℕ) → resource_at (resources_from rs) k ≡ slice_get rs k
at_number [] k = refl
at_number (r ∷ rs) zero = refl
at_number (r ∷ rs) (suc k) =
    let less : suc k - 1 ≡ k = omega arith in
    ap (λ t. if t then Some r else resource_at (resources_from rs) (suc k - 1)) (not_first k)
    ∙ ap (λ (j : ℕ). resource_at (resources_from rs) j) less
    ∙ at_number rs k

module _ (at : ℕ → Body) where
  pub arm_there : (arms : List Arm) (k : ℕ) → arm_at (arms_opened arms at) k ≡ option_map (λ a. (pat_of a.pat, at a.next)) (slice_get arms k)
  arm_there [] k = refl
  arm_there (a ∷ arms) zero = refl
  arm_there (a ∷ arms) (suc k) = arm_there arms k

  module _ (ctx : Context) (res : Res) (arms : List Arm) (k : ℕ) where
    pub bound_there : (a : Arm) → slice_get arms k ≡ Some a → bound_arm ctx (arms_opened arms at) k res ≡ bind ctx (pat_of a.pat) res
    bound_there a is =
        ap (λ (o : Option (Pat × Body)). and_then (or_why o WrongForm) (λ arm. bind ctx arm.0 res))
        (arm_there arms k ∙ ap (option_map (λ (b : Arm). (pat_of b.pat, at b.next))) is)

    pub bound_past : length arms ≤ k → bound_arm ctx (arms_opened arms at) k res ≡ Err WrongForm
    bound_past past =
        ap (λ (o : Option (Pat × Body)). and_then (or_why o WrongForm) (λ arm. bind ctx arm.0 res))
        (arm_there arms k ∙ ap (option_map (λ (b : Arm). (pat_of b.pat, at b.next))) (nothing_past arms k past))
