-- Division fits the uses of its task.
use Rattle.standing_contexts.specs.Places.{Agree, BodyAt, Owed, Pays, PlaceAt, StackAt, Standing, names_of_env}
use Rattle.std.proofs.Common.{◌≡◌, ℕ, zero, suc, ◌+◌, ◌≤◌, ◌<◌, ◌/◌, ◌%◌, ◌*◌, ℤ, pos, negsuc, neg_ℤ, ◌+ℤ◌, ◌-ℤ◌, ◌*ℤ◌, ◌≤ℤ◌, int_le, Bool, true, false, not, ◌||◌, ◌&&◌, if◌then◌else◌, List, [], ◌∷◌, ◌++◌, map, length, append-nil, Option, Some, None, Result, Ok, Err, refl, ap, sym, subst, ◌∙◌, arith}
use Rattle.std.proofs.lemmas.Int.{ints}
use Rattle.core_language.specs.Names.{Name, Ident, same}
use Rattle.core_language.specs.Terms.{Term}
use Rattle.core_language.specs.Operands.{Pat, Proof, Supply}
use Rattle.core_language.specs.Resources.{Proto}
use Rattle.core_language.specs.Programs.{Span, Body, Arms, NoArm, Arm, Program, arm_at}
use Rattle.core_language.specs.Programs as body
use Rattle.core_language.specs.Values.{Value}
use Rattle.core_language.specs.Values as value
use Rattle.core_language.specs.Computing.{unbounded, Done, Env, value_of, sum_of, multiplied}
use Rattle.core_language.specs.Computing as computing
use Rattle.core_language.specs.Configurations.{in_term, names, arms_name, kept, Caller, Place, Ended, Running}
use Rattle.core_language.specs.Acts.{Act, act_at, at, bound, chosen, on_sum}
use Rattle.core_language.specs.Acts as act
use Rattle.graphs.specs.Graph.{count}
use Rattle.graphs.proofs.Counts.{count-append}
use Rattle.outline_language.specs.LinearForms.{Var, Free, Inside, LinearForm, constant_form, add_times, minus, plus_one, form_at}
use Rattle.outline_language.specs.Nameless.{Shape, Res, Resources, Int, Pair, Sum, NoMore, More}
use Rattle.outline_language.specs.Nameless as shape
use Rattle.outline_language.specs.Contexts.{Why, WrongForm, NotProved, and_then, or_why, provided, nothing, Context, Taken, without, start_of, meaning, oblige, leftovers, take, hold, add_hyp, bind}
use Rattle.outline_language.specs.Giving.{pair_of}
use Rattle.outline_language.specs.Giving as giving
use Rattle.outline_language.specs.Rules.{next_variable, new_int, rule_if, as_many, bind_arms}
use Rattle.outline_language.specs.Outlined.{OutlinedBody, OutlinedArms}
use Rattle.good_configurations.specs.Ends.{integer_at}
use Rattle.good_configurations.specs.Ends as ends
use Rattle.good_configurations.specs.Values.{Use, Has, HasShape, HasArm}
use Rattle.good_configurations.specs.Uses.{AreSame}
use Rattle.good_configurations.specs.Acts.{Stands, Fits}
use Rattle.outline_values.specs.Proper.{HasEntries, ProperForm, ProperRes, ProperResources, ProperShape, ProperVar}
use Rattle.outline_values.specs.Formed.{NamesAre, NamesBound, ArmsBound}
use Rattle.outline_values.proofs.Answers.{one_ok, err_ok, and_then-ok, provided-ok, or_why-ok, one_some, none_some}
use Rattle.outline_language.proofs.Values.{add_times-at, variable-at, minus-at, plus_one-at, constant-at}
use Rattle.outline_values.proofs.Proper.{low_values, high, res-more}
use Rattle.given_values.proofs.Obliging.{oblige-true}
use Rattle.given_values.proofs.Entries.{take-typed, TakenAs}
use Rattle.farkas_check.proofs.Products.{neg_times}
use Rattle.std.proofs.Math.IntN as Z
use Rattle.std.proofs.Math.Nat.{div-add-mod, mod-lt, mul-suc}
use Rattle.std.specs.Int.{int_div_euclid, int_rem_euclid}
use Rattle.outline_values.proofs.Readings.{proper-agree}
use Rattle.outline_steps.proofs.Quiet.{one_more}
use Rattle.standing_contexts.proofs.Standing.{FormsAtMost, hyps-true, grow_hyps, grow_entries, other_entries, add_hyp-is, res-moves}
use Rattle.standing_contexts.proofs.Binding.{Grown, bind-typed, new_int-typed}
use Rattle.standing_contexts.proofs.Operands.{either_left, either_right, bound-value, same-self}
use Rattle.standing_contexts.proofs.Places.{goes_on, names-bound, term-typed, term-proper}

-- the quotient, rounded down
div-low : (a : ℤ) (d : ℕ) → 1 ≤ d → (pos d *ℤ int_div_euclid a (pos d)) ≤ℤ a
div-low (pos a) d h = omega (arith, ints, div-add-mod a d)
div-low (negsuc a) d h = omega (arith, ints, div-add-mod a d, mod-lt a h, Z.*ℤ-negsuc (pos d) (a / d), mul-suc d (a / d))

div-high : (a : ℤ) (d : ℕ) → 1 ≤ d → a ≤ℤ ((pos d *ℤ int_div_euclid a (pos d)) +ℤ (pos d -ℤ pos 1))
div-high (pos a) d h = omega (arith, ints, div-add-mod a d, mod-lt a h)
div-high (negsuc a) d h = omega (arith, ints, div-add-mod a d, mod-lt a h, Z.*ℤ-negsuc (pos d) (a / d), mul-suc d (a / d))

rem-low : (a : ℤ) (d : ℕ) → pos 0 ≤ℤ int_rem_euclid a (pos d)
rem-low (pos a) d = omega (arith, ints)
rem-low (negsuc a) d = omega (arith, ints)

rem-high : (a : ℤ) (d : ℕ) → 1 ≤ d → int_rem_euclid a (pos d) ≤ℤ (pos d -ℤ pos 1)
rem-high (pos a) d h = omega (arith, ints, mod-lt a h)
rem-high (negsuc a) d h = omega (arith, ints, mod-lt a h)

module _ (P : Program) (p : Name) (k : ℕ) (env : Env) (callers : List Caller) (F : Env) (owed : Owed) (us vs ws : List Use) (split : AreSame us (vs ++ ws)) (stack : StackAt P callers owed ws)
    (own : Res) (ctx : Context) (ks : List ℤ) (uses : List Use) (alike : AreSame vs uses) (s : Standing (P.protos) owed own ctx ks F uses) where
  abbrev Fit : Body → Type 0
  Fit rest = Fits (P.protos) (PlaceAt P) p k (act_at unbounded P p k rest env callers) us

  abbrev w : ℕ → ℤ
  w = integer_at ks

  -- at a longer list of integers
  wider : (z : ℤ) (a : LinearForm) → ProperForm (length (ctx.ints)) 0 a → form_at (ends.at (integer_at (ks ++ z ∷ [])) []) a ≡ form_at (ends.at w []) a
  wider z a proper = proper-agree (ends.at (integer_at (ks ++ z ∷ [])) []) (ends.at w []) (length (ctx.ints)) 0 same a proper
    where
      same : (v : Var) → ProperVar (length (ctx.ints)) 0 v → ends.at (integer_at (ks ++ z ∷ [])) [] v ≡ ends.at w [] v
      same (Free i) h = low_values ks (z ∷ []) i (omega (arith, s.len, h))
      same (Inside i) h = refl

  next-is : (z : ℤ) → form_at (ends.at (integer_at (ks ++ z ∷ [])) []) (next_variable ctx) ≡ z
  next-is z = variable-at (ends.at (integer_at (ks ++ z ∷ [])) []) (Free (length (ctx.ints))) ∙ high ks (z ∷ []) 0 (length (ctx.ints)) (omega (arith, s.len))

  -- a new integer that keeps its hypotheses
  new_fits : (next : Body) (x : Ident) (z : ℤ) (fs : List LinearForm) (after : Context) → FormsAtMost (P.protos) owed own (integer_at (ks ++ z ∷ [])) fs → new_int ctx x fs ≡ Ok after → OutlinedBody P own after next → NamesBound (P.protos) (names_of_env F ++ x ∷ []) next → Agree (names next) env F → Stands (PlaceAt P) (at next (bound env x (value.Int z)) callers) us
  new_fits next x z fs after kept e out names agree = go (new_int-typed (P.protos) owed own ctx ks F uses s x z fs kept after e)
    where
      go : (more : List ℤ) × Standing (P.protos) owed own after more (bound F x (value.Int z)) uses → Stands (PlaceAt P) (at next (bound env x (value.Int z)) callers) us
      go (more, stands) = one_more P p k env callers F owed us vs ws split stack own ctx ks uses alike s next x (value.Int z) after more uses stands alike out names agree

  div-forms : (a : LinearForm) → ProperForm (length (ctx.ints)) 0 a → (d : ℕ) → 1 ≤ d → FormsAtMost (P.protos) owed own (integer_at (ks ++ int_div_euclid (form_at (ends.at w []) a) (pos d) ∷ []))
      (add_times (pos d) (next_variable ctx) (minus (constant_form (pos 0)) a) ∷ add_times (neg_ℤ (pos d)) (next_variable ctx) (minus a (constant_form (pos d -ℤ pos 1))) ∷ [])
  div-forms a proper d some = go (int_div_euclid (form_at (ends.at w []) a) (pos d)) (div-low (form_at (ends.at w []) a) d some) (div-high (form_at (ends.at w []) a) d some)
    where
      go : (z : ℤ) → (pos d *ℤ z) ≤ℤ form_at (ends.at w []) a → form_at (ends.at w []) a ≤ℤ ((pos d *ℤ z) +ℤ (pos d -ℤ pos 1))
          → FormsAtMost (P.protos) owed own (integer_at (ks ++ z ∷ [])) (add_times (pos d) (next_variable ctx) (minus (constant_form (pos 0)) a) ∷ add_times (neg_ℤ (pos d)) (next_variable ctx) (minus a (constant_form (pos d -ℤ pos 1))) ∷ [])
      go z low_z high_z = (
        omega (arith, ints, low_z, add_times-at u (pos d) (next_variable ctx) (minus (constant_form (pos 0)) a), minus-at u (constant_form (pos 0)) a, constant-at u (pos 0), ap (λ y. pos d *ℤ y) (next-is z), wider z a proper),
        (omega (arith, ints, high_z, add_times-at u (neg_ℤ (pos d)) (next_variable ctx) (minus a (constant_form (pos d -ℤ pos 1))), minus-at u a (constant_form (pos d -ℤ pos 1)), constant-at u (pos d -ℤ pos 1), ap (λ y. neg_ℤ (pos d) *ℤ y) (next-is z), neg_times (pos d) z, wider z a proper), tt),
      )
        where
          u : Var → ℤ
          u = ends.at (integer_at (ks ++ z ∷ [])) []

  rem-forms : (a : LinearForm) (d : ℕ) → 1 ≤ d → FormsAtMost (P.protos) owed own (integer_at (ks ++ int_rem_euclid (form_at (ends.at w []) a) (pos d) ∷ []))
      (minus (constant_form (pos 0)) (next_variable ctx) ∷ minus (next_variable ctx) (constant_form (pos d -ℤ pos 1)) ∷ [])
  rem-forms a d some = go (int_rem_euclid (form_at (ends.at w []) a) (pos d)) (rem-low (form_at (ends.at w []) a) d) (rem-high (form_at (ends.at w []) a) d some)
    where
      go : (z : ℤ) → pos 0 ≤ℤ z → z ≤ℤ (pos d -ℤ pos 1) → FormsAtMost (P.protos) owed own (integer_at (ks ++ z ∷ [])) (minus (constant_form (pos 0)) (next_variable ctx) ∷ minus (next_variable ctx) (constant_form (pos d -ℤ pos 1)) ∷ [])
      go z low_z high_z = (omega (arith, ints, low_z, minus-at u (constant_form (pos 0)) (next_variable ctx), constant-at u (pos 0), next-is z), (omega (arith, ints, high_z, minus-at u (next_variable ctx) (constant_form (pos d -ℤ pos 1)), constant-at u (pos d -ℤ pos 1), next-is z), tt))
        where
          u : Var → ℤ
          u = ends.at (integer_at (ks ++ z ∷ [])) []

  pub div_fits : (span : Span) (x : Ident) (term : Term) (divisor : ℕ) (next : Body) → OutlinedBody P own ctx (body.Div span x term divisor next) → NamesBound (P.protos) (names_of_env F) (body.Div span x term divisor next) → Agree (names (body.Div span x term divisor next)) env F → Fit (body.Div span x term divisor next)
  div_fits span x term divisor next (after, rule, out) (term_names, some, next_names) agree = go (and_then-ok (meaning ctx term) (λ a. new_int ctx x (add_times (pos divisor) (next_variable ctx) (minus (constant_form (pos 0)) a) ∷ add_times (neg_ℤ (pos divisor)) (next_variable ctx) (minus a (constant_form (pos divisor -ℤ pos 1))) ∷ [])) after rule)
    where
      go : (a : LinearForm) × (meaning ctx term ≡ Ok a) × (new_int ctx x (add_times (pos divisor) (next_variable ctx) (minus (constant_form (pos 0)) a) ∷ add_times (neg_ℤ (pos divisor)) (next_variable ctx) (minus a (constant_form (pos divisor -ℤ pos 1))) ∷ []) ≡ Ok after) → Fit (body.Div span x term divisor next)
      go (a, e₁, e₂) = rw (term-typed P owed own ctx ks F uses s env term a term_names (λ y e. agree y (either_left (in_term y term) (names next y) e)) e₁)
          (new_fits next x (int_div_euclid (form_at (ends.at w []) a) (pos divisor)) (add_times (pos divisor) (next_variable ctx) (minus (constant_form (pos 0)) a) ∷ add_times (neg_ℤ (pos divisor)) (next_variable ctx) (minus a (constant_form (pos divisor -ℤ pos 1))) ∷ []) after (div-forms a (term-proper P owed own ctx ks F uses s term a e₁) divisor some) e₂ out next_names (λ y e. agree y (either_right (in_term y term) (names next y) e)))

  pub rem_fits : (span : Span) (x : Ident) (term : Term) (divisor : ℕ) (next : Body) → OutlinedBody P own ctx (body.Rem span x term divisor next) → NamesBound (P.protos) (names_of_env F) (body.Rem span x term divisor next) → Agree (names (body.Rem span x term divisor next)) env F → Fit (body.Rem span x term divisor next)
  rem_fits span x term divisor next (after, rule, out) (term_names, some, next_names) agree = go (and_then-ok (meaning ctx term) (λ a. new_int ctx x (minus (constant_form (pos 0)) (next_variable ctx) ∷ minus (next_variable ctx) (constant_form (pos divisor -ℤ pos 1)) ∷ [])) after rule)
    where
      go : (a : LinearForm) × (meaning ctx term ≡ Ok a) × (new_int ctx x (minus (constant_form (pos 0)) (next_variable ctx) ∷ minus (next_variable ctx) (constant_form (pos divisor -ℤ pos 1)) ∷ []) ≡ Ok after) → Fit (body.Rem span x term divisor next)
      go (a, e₁, e₂) = rw (term-typed P owed own ctx ks F uses s env term a term_names (λ y e. agree y (either_left (in_term y term) (names next y) e)) e₁)
          (new_fits next x (int_rem_euclid (form_at (ends.at w []) a) (pos divisor)) (minus (constant_form (pos 0)) (next_variable ctx) ∷ minus (next_variable ctx) (constant_form (pos divisor -ℤ pos 1)) ∷ []) after (rem-forms a divisor some) e₂ out next_names (λ y e. agree y (either_right (in_term y term) (names next y) e)))
