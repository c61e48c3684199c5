-- Each step keeps that frames have the values that they need.
use Rattle.std.proofs.Common.{◌≡◌, ℕ, zero, suc, int_le, Bool, true, false, cond, not, ◌&&◌, ◌||◌, if◌then◌else◌, List, [], ◌∷◌, map, length, Option, Some, None, refl, sym, ap, ◌∙◌, subst}
use Rattle.std.specs.List.{AllByRecursion}
use Rattle.std.specs.Ordering.{nat_cmp, eq_by_cmp}
use Rattle.std.specs.Cmp.Lexicographic.{slice_cmp, nat_list_cmp_total}
use Rattle.std.specs.FinMap.{get, insert, get-insert}
use Rattle.std.proofs.lemmas.Bool.{or_left, or_right, or_from, and_from, not_from_false}
use Rattle.core_language.specs.Names.{Name, NameMap, Ident, same, child}
use Rattle.core_language.specs.Programs.{Body, Arms, Program, function_named, arm_list, arm_at}
use Rattle.core_language.specs.Programs as body
use Rattle.core_language.specs.Values.{Value}
use Rattle.core_language.specs.Values as value
use Rattle.core_language.specs.Computing.{Limits, Depth, Computed, Done, Sticks, Halts, Env, value_of, sum_of, multiplied, divided, left_over, supplied, all_supplied}
use Rattle.core_language.specs.Configurations.{in_term, in_supply, in_supplies, kept, Caller, Place, Ended, Running, Task, Config}
use Rattle.core_language.specs.Acts.{Act, with_result, at, bound, params_env, entered, returned, on_end, on_pair, on_sum, chosen, forked, act_at, act_of}
use Rattle.core_language.specs.Acts as act
use Rattle.core_language.specs.Steps.{effect, sent, received, step_at, after_step}
use Rattle.core_programs.specs.declared.nodes.Parts.{Parts}
use Rattle.core_programs.specs.Bodies.{program_of}
use Rattle.core_programs.specs.Form.{IsFormed}
use Rattle.frame_laws.specs.Needs.{needs, arms_need}
use Rattle.frame_laws.specs.Fits.{HasValue, HasValues, StandsAtNode, CallerFits, Fits, FitsAll}
use Rattle.frame_laws.specs.Calls.{HasFunction}
use Rattle.frame_laws.specs.Laws.{FitsAfterSteps}
use Rattle.frame_laws.proofs.Tests.{later}
use Rattle.frame_laws.proofs.Nodes.{follows, followers_stand, body_of, calls_find_functions}
use Rattle.frame_laws.proofs.Frames.{bound_value, kept_value, param_value, supplied_length, needed_named}

-- the places of an act fit
abbrev ActFits : Parts → Act → Type 0
ActFits parts (act.Silent place) = Fits parts place
ActFits parts (act.Print z place) = Fits parts place
ActFits parts (act.Fork child parent its) = Fits parts parent × Fits parts its
ActFits parts (act.Send channel v place) = Fits parts place
ActFits parts (act.Recv channel place) = (v : Value) → Fits parts (place v)
ActFits parts act.End = Unit {0}
ActFits parts act.IsEnded = Unit {0}
ActFits parts (act.IsHalted why) = Unit {0}
ActFits parts (act.IsStuck why) = Unit {0}

-- ---- acts

module _ (parts : Parts) where
  result_fits : {A : Type 0} (m : Computed A) (go : A → Act) → ((a : A) → m ≡ Done a → ActFits parts (go a)) → ActFits parts (with_result m go)
  result_fits (Done a) go fits = fits a refl
  result_fits (Sticks why) go fits = tt
  result_fits (Halts why) go fits = tt

  end_fits : (o : Option Value) (go : Name → Act) → ((c : Name) → ActFits parts (go c)) → ActFits parts (on_end o go)
  end_fits (Some (value.End c)) go fits = fits c
  end_fits (Some (value.Int z)) go fits = tt
  end_fits (Some value.Unit) go fits = tt
  end_fits (Some (value.Pair a b)) go fits = tt
  end_fits (Some (value.Arm i a)) go fits = tt
  end_fits None go fits = tt

  pair_fits : (o : Option Value) (go : Value → Value → Act) → ((a b : Value) → ActFits parts (go a b)) → ActFits parts (on_pair o go)
  pair_fits (Some (value.Pair a b)) go fits = fits a b
  pair_fits (Some (value.Int z)) go fits = tt
  pair_fits (Some value.Unit) go fits = tt
  pair_fits (Some (value.Arm i a)) go fits = tt
  pair_fits (Some (value.End c)) go fits = tt
  pair_fits None go fits = tt

  sum_fits : (o : Option Value) (go : ℕ → Value → Act) → ((i : ℕ) (a : Value) → ActFits parts (go i a)) → ActFits parts (on_sum o go)
  sum_fits (Some (value.Arm i a)) go fits = fits i a
  sum_fits (Some (value.Int z)) go fits = tt
  sum_fits (Some value.Unit) go fits = tt
  sum_fits (Some (value.Pair a b)) go fits = tt
  sum_fits (Some (value.End c)) go fits = tt
  sum_fits None go fits = tt

  -- a frame that goes on at a body with the values that it needs
  goes_on : (next : Body) (env : Env) (callers : List Caller) → StandsAtNode parts next → HasValues next env → AllByRecursion (CallerFits parts) callers → Fits parts (at next env callers)
  goes_on next env callers stands values fit = (stands, λ x need. kept_value next env x (needed_named next x need) (values x need), fit)

module _ (parts : Parts) (formed : IsFormed parts) (limits : Limits) where
  following : (here : Body) → StandsAtNode parts here → AllByRecursion (StandsAtNode parts) (follows here)
  following here stands = followers_stand parts here formed.numbered stands

  -- a function that is there is entered with a value for each parameter
  enters : (func : Ident) (vs : List Value) (count : ℕ) (callers : List Caller) → HasFunction (program_of parts) func count → length vs ≡ count → AllByRecursion (CallerFits parts) callers
      → Fits parts (entered (function_named func (program_of parts).funcs) vs callers)
  enters func vs count callers (f, is, many) long fit =
      let (stands, scoped) = body_of parts formed func f is in
      subst (λ o. Fits parts (entered o vs callers)) (sym is)
      (goes_on parts f.body (params_env f.params vs) callers stands (λ x need. param_value f.params vs x (many ∙ sym long) (scoped x need)) fit)

  -- a result goes to the latest caller
  returns : (callers : List Caller) (v : Value) → AllByRecursion (CallerFits parts) callers → ActFits parts (returned callers v)
  returns [] v fit = tt
  returns (c ∷ callers) v (its, fit) =
      let (span, pat, func, values, proof, calling, named) = its.after_call in
      let stands = following (body.Call span pat func values proof c.rest) (its.call, its.within, sym calling) in
      goes_on parts c.rest (bound c.env c.name v) callers stands.0 (λ x need. bound_value c.env c.name v x (its.has_values x need)) fit

  -- one more variable and on
  binds : (next : Body) (env : Env) (y : Ident) (v : Value) (callers : List Caller) → StandsAtNode parts next → ((x : Ident) → needs next x ≡ true → same y x ≡ false → HasValue env x)
      → AllByRecursion (CallerFits parts) callers → Fits parts (at next (bound env y v) callers)
  binds next env y v callers stands values fit = goes_on parts next (bound env y v) callers stands (λ x need. bound_value env y v x (values x need)) fit

  goes_either : (t : Bool) (this other : Body) (env : Env) (callers : List Caller) → Fits parts (at this env callers) → Fits parts (at other env callers)
      → Fits parts (at (if t then this else other) env callers)
  goes_either true this other env callers first second = first
  goes_either false this other env callers first second = second

  forks_fit : (t : Bool) (child : Name) (parent its : Place) → Fits parts parent → Fits parts its → ActFits parts (if t then act.Fork child parent its else act.IsHalted Depth)
  forks_fit true child parent its first second = (first, second)
  forks_fit false child parent its first second = tt

  arms_fit : (arms : Arms) (i : ℕ) (env : Env) (v : Value) (callers : List Caller) → AllByRecursion (StandsAtNode parts) (map (λ arm. arm.1) (arm_list arms))
      → ((x : Ident) → arms_need arms x ≡ true → HasValue env x) → AllByRecursion (CallerFits parts) callers → ActFits parts (chosen (arm_at arms i) env callers v)
  arms_fit body.NoArm i env v callers stands values fit = tt
  arms_fit (body.Arm pat next more) zero env v callers stands values fit =
      binds next env pat.name v callers stands.0
      (λ x need apart. values x (or_left (needs next x && not (same pat.name x)) _ (and_from (needs next x) _ need (not_from_false _ apart)))) fit
  arms_fit (body.Arm pat next more) (suc i) env v callers stands values fit =
      arms_fit more i env v callers stands.1 (λ x need. values x (or_right (needs next x && not (same pat.name x)) (arms_need more x) need)) fit

  act_fits : (p : Name) (forks : ℕ) (here : Body) (env : Env) (callers : List Caller) → Fits parts (Running here env callers) → ActFits parts (act_at limits (program_of parts) p forks here env callers)
  act_fits p forks (body.Let span y term next) env callers (stands, values, fit) =
      result_fits parts (sum_of limits env term) _ (λ z is.
      binds next env y (value.Int z) callers (following (body.Let span y term next) stands).0
      (λ x need other. values x (later (in_term x term) (needs next x) (same y x) need other)) fit)
  act_fits p forks (body.Mul span y left right next) env callers (stands, values, fit) =
      result_fits parts (multiplied limits env left right) _ (λ z is.
      binds next env y (value.Int z) callers (following (body.Mul span y left right next) stands).0
      (λ x need other. values x (later (in_term x left || in_term x right) (needs next x) (same y x) need other)) fit)
  act_fits p forks (body.Div span y term divisor next) env callers (stands, values, fit) =
      result_fits parts (divided limits env term divisor) _ (λ z is.
      binds next env y (value.Int z) callers (following (body.Div span y term divisor next) stands).0
      (λ x need other. values x (later (in_term x term) (needs next x) (same y x) need other)) fit)
  act_fits p forks (body.Rem span y term divisor next) env callers (stands, values, fit) =
      result_fits parts (left_over limits env term divisor) _ (λ z is.
      binds next env y (value.Int z) callers (following (body.Rem span y term divisor next) stands).0
      (λ x need other. values x (later (in_term x term) (needs next x) (same y x) need other)) fit)
  act_fits p forks (body.Call span pat func supplies proof next) env callers ((n, lt, is), values, fit) =
      result_fits parts (all_supplied limits env supplies) _ (λ vs made.
      enters func vs (length supplies) (record { name = pat.name; rest = next; env = kept next env } ∷ callers)
      (calls_find_functions parts formed (body.Call span pat func supplies proof next) (n, lt, is))
      (supplied_length limits env supplies vs made) (
        record {
          call = n;
          within = lt;
          after_call = (span, pat, func, supplies, proof, sym is, refl);
          has_values = λ x need other. kept_value next env x (needed_named next x need) (values x (later (in_supplies x supplies) (needs next x) (same pat.name x) need other));
        },
        fit,
      ))
  act_fits p forks (body.Tail span func supplies proof) env callers (stands, values, fit) =
      result_fits parts (all_supplied limits env supplies) _ (λ vs made.
      enters func vs (length supplies) callers (calls_find_functions parts formed (body.Tail span func supplies proof) stands) (supplied_length limits env supplies vs made) fit)
  act_fits p forks (body.Fork span y proto func supplies proof next) env callers (stands, values, fit) =
      result_fits parts (all_supplied limits env supplies) (forked limits (program_of parts) p forks y func next env callers) (λ vs made.
      let one_more : suc (length vs) ≡ suc (length supplies) = ap suc (supplied_length limits env supplies vs made) in
      forks_fit (limits.forks p) (child p forks) _ _
      (binds next env y (value.End (child p forks)) callers (following (body.Fork span y proto func supplies proof next) stands).0
      (λ x need other. values x (later (in_supplies x supplies) (needs next x) (same y x) need other)) fit)
      (enters func (value.End (child p forks) ∷ vs) (suc (length supplies)) [] (calls_find_functions parts formed (body.Fork span y proto func supplies proof next) stands) one_more tt))
  act_fits p forks (body.Send1 span channel path supply proof next) env callers (stands, values, fit) =
      result_fits parts (supplied limits env supply) _ (λ v made. end_fits parts (value_of env channel) _ (λ c.
      goes_on parts next env callers (following (body.Send1 span channel path supply proof next) stands).0
      (λ x need. values x (or_right (same x channel || in_supply x supply) (needs next x) need)) fit))
  act_fits p forks (body.Recv1 span pat channel path proof next) env callers (stands, values, fit) =
      end_fits parts (value_of env channel) _ (λ c v.
      binds next env pat.name v callers (following (body.Recv1 span pat channel path proof next) stands).0
      (λ x need other. values x (later (same x channel) (needs next x) (same pat.name x) need other)) fit)
  act_fits p forks (body.Print span term next) env callers (stands, values, fit) =
      result_fits parts (sum_of limits env term) _ (λ z is.
      goes_on parts next env callers (following (body.Print span term next) stands).0 (λ x need. values x (or_right (in_term x term) (needs next x) need)) fit)
  act_fits p forks (body.If span left right this other) env callers (stands, values, fit) =
      let both = following (body.If span left right this other) stands in
      result_fits parts (sum_of limits env left) _ (λ a is. result_fits parts (sum_of limits env right) _ (λ b also.
      goes_either (int_le a b) this other env callers
      (goes_on parts this env callers both.0 (λ x need. values x (or_right (in_term x left || in_term x right) (needs this x || needs other x) (or_left (needs this x) (needs other x) need))) fit)
      (goes_on parts other env callers both.1.0 (λ x need. values x (or_right (in_term x left || in_term x right) (needs this x || needs other x) (or_right (needs this x) (needs other x) need))) fit)))
  act_fits p forks (body.Split span first second y next) env callers (stands, values, fit) =
      pair_fits parts (value_of env y) _ (λ a b.
      binds next (bound env first.name a) second.name b callers (following (body.Split span first second y next) stands).0
      (λ x need other. bound_value env first.name a x (λ neither.
      values x (later (same x y) (needs next x) (same first.name x || same second.name x) need (or_from (same first.name x) (same second.name x) neither other))))
      fit)
  act_fits p forks (body.Match span y arms) env callers (stands, values, fit) =
      sum_fits parts (value_of env y) _ (λ i v.
      arms_fit arms i env v callers (following (body.Match span y arms) stands) (λ x need. values x (or_right (same x y) (arms_need arms x) need)) fit)
  act_fits p forks (body.Absurd span proof) env callers fits = tt
  act_fits p forks (body.Ret span supply proof) env callers (stands, values, fit) =
      result_fits parts (supplied limits env supply) (returned callers) (λ v made. returns callers v fit)

  place_fits : (p : Name) (forks : ℕ) (place : Place) → Fits parts place → ActFits parts (act_of limits (program_of parts) p forks place)
  place_fits p forks Ended fits = tt
  place_fits p forks (Running here env callers) fits = act_fits p forks here env callers fits

-- ---- configurations

-- one task more, or at another place
pub put_fits : (parts : Parts) (tasks : NameMap Task) (p : Name) (t : Task) → Fits parts t.place → ((q : Name) (u : Task) → get tasks q ≡ Some u → Fits parts u.place)
    → (q : Name) (u : Task) → get (insert tasks p t) q ≡ Some u → Fits parts u.place
put_fits parts tasks p t fits all q u got = by (eq_by_cmp (slice_cmp nat_cmp) q p) (sym (get-insert nat_list_cmp_total tasks p t q) ∙ got)
  where
    by : (b : Bool) → cond b (Some t) (get tasks q) ≡ Some u → Fits parts u.place
    by true found = let is : t ≡ u = cc in subst (λ (v : Task). Fits parts v.place) is fits
    by false found = all q u found

effect_fits : (parts : Parts) (C : Config) (p : Name) (forks : ℕ) (a : Act) → FitsAll parts C → ActFits parts a → FitsAll parts (after_step C (effect C p forks a))
effect_fits parts C p forks (act.Silent place) all fits = put_fits parts C.tasks p _ fits all
effect_fits parts C p forks (act.Print z place) all fits = put_fits parts C.tasks p _ fits all
effect_fits parts C p forks (act.Fork c parent its) all fits = put_fits parts _ c _ fits.1 (put_fits parts C.tasks p _ fits.0 all)
effect_fits parts C p forks (act.Send c v place) all fits = by (get C.channels c)
  where
    by : (o : Option (Option Value)) → FitsAll parts (after_step C (sent C p forks c v place o))
    by (Some None) = put_fits parts C.tasks p _ fits all
    by (Some (Some u)) = all
    by None = all
effect_fits parts C p forks (act.Recv c place) all fits = by (get C.channels c)
  where
    by : (o : Option (Option Value)) → FitsAll parts (after_step C (received C p forks c place o))
    by (Some (Some v)) = put_fits parts C.tasks p _ (fits v) all
    by (Some None) = all
    by None = all
effect_fits parts C p forks act.End all fits = put_fits parts C.tasks p _ tt all
effect_fits parts C p forks act.IsEnded all fits = all
effect_fits parts C p forks (act.IsHalted why) all fits = all
effect_fits parts C p forks (act.IsStuck why) all fits = all

pub fits_after_steps : FitsAfterSteps
fits_after_steps parts formed limits C p all = by (get C.tasks p) refl
  where
    by : (o : Option Task) → get C.tasks p ≡ o → FitsAll parts (after_step C (step_at limits (program_of parts) C p o))
    by None is = all
    by (Some t) is = effect_fits parts C p t.forks _ all (place_fits parts formed limits p t.forks t.place (all p t is))
