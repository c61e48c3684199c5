-- A function at values that were given for its parameters.
use Rattle.standing_contexts.specs.Places.{BodyAt, Owed, Pays, Standing, TrueRows, names_of_env}
use Rattle.std.proofs.Common.{◌≡◌, ℕ, zero, suc, ◌+◌, ◌≤◌, ℤ, pos, Bool, true, false, if◌then◌else◌, List, [], ◌∷◌, ◌++◌, map, flat_map, length, append-nil, Option, Some, None, Result, Ok, Err, refl, ap, sym, subst, ◌∙◌, arith}
use Rattle.std.specs.List.{AllByRecursion}
use Rattle.core_language.specs.Names.{Ident, same}
use Rattle.core_language.specs.Terms.{Limit as WrittenLimit}
use Rattle.core_language.specs.Resources.{Proto}
use Rattle.core_language.specs.Resources as written
use Rattle.core_language.specs.Programs.{Param, Function, Program, function_named}
use Rattle.core_language.specs.Values.{Value}
use Rattle.core_language.specs.Computing.{Env}
use Rattle.core_language.specs.Acts.{params_env}
use Rattle.linear_forms.specs.Substitution.{place_of}
use Rattle.outline_language.specs.LinearForms.{Var, Free, Inside, LinearForm, constant_form, variable_form, form_at, row_of}
use Rattle.outline_language.specs.Nameless.{Limit, Shape, Res, at_place, named_form, nameless_limit, nameless_shape, nameless_res, forms_of_limit}
use Rattle.outline_language.specs.Contexts.{Entry, Context, start}
use Rattle.outline_language.specs.Rules.{limits_of, param_shapes, result_of}
use Rattle.outline_language.specs.Outlined.{own_result, OutlinedFunction, IsOutlined}
use Rattle.good_configurations.specs.Ends.{at, integer_at}
use Rattle.good_configurations.specs.Values.{Use, KeepsAll, Has, HasShape}
use Rattle.good_configurations.specs.Uses.{AreSame}
use Rattle.outline_values.specs.Proper.{HasEntries, ProperLimits, ProperRes, ProperShape, nest, nest_res}
use Rattle.outline_values.specs.Formed.{deepest, ParamsFormed, FunctionFormed, NamesBound}
use Rattle.outline_values.proofs.Answers.{one_some, none_some}
use Rattle.outline_language.proofs.Values.{constant-at, variable-at}
use Rattle.outline_values.proofs.Alike.{has_shape-alike, has-alike, keeps-alike, res-turned}
use Rattle.outline_values.proofs.Proper.{past, shape-read, res-read, limits-read}
use Rattle.outline_values.proofs.Readings.{value_named, int_named, named-at, shape-like, res-like, limits-like}
use Rattle.outline_values.proofs.Shapes.{nest-read, nest_res-read}
use Rattle.given_values.proofs.Giving.{HasShapes, ProperShapes}
use Rattle.standing_contexts.proofs.Standing.{grow_hyps, FormsAtMost}
use Rattle.standing_contexts.proofs.Binding.{limits-at_most}

-- a name of a function's binder has the instance for it
binder-value : (w : ℕ → ℤ) (names : List Ident) (js : List ℤ) (x : Ident) → value_named w [] names js x ≡ value_named (integer_at js) names [] [] x
binder-value w names js x = sym (named-at w [] names js x) ∙ go (place_of names x)
  where
    go : (o : Option ℕ) → form_at (at w js) (at_place o (at_place (place_of [] x) (constant_form (pos 0)) Free) Inside) ≡ int_named (integer_at js) o
    go None = constant-at (at w js) (pos 0)
    go (Some i) = variable-at (at w js) (Inside i)

pub outlined-named : (P : Program) (fs : List Function) → AllByRecursion (OutlinedFunction P) fs → (x : Ident) (f : Function) → function_named x fs ≡ Some f → OutlinedFunction P f
outlined-named P [] all x f e = none_some e
outlined-named P (g ∷ fs) all x f e = go (same (g.name) x) e (outlined-named P fs (all.1) x f)
  where
    go : (t : Bool) → (if t then Some g else function_named x fs) ≡ Some f → (function_named x fs ≡ Some f → OutlinedFunction P f) → OutlinedFunction P f
    go true e ih = subst (OutlinedFunction P) (one_some e) (all.0)
    go false e ih = ih e

flat-map : (f : WrittenLimit → Limit) (ls : List WrittenLimit) → flat_map (λ l. forms_of_limit (f l)) ls ≡ flat_map forms_of_limit (map f ls)
flat-map f [] = refl
flat-map f (l ∷ ls) = ap (λ z. forms_of_limit (f l) ++ z) (flat-map f ls)

-- what is declared for a function
module _ (protos : List Proto) (f : Function) (formed : FunctionFormed protos f) where
  abbrev names : List Ident
  names = f.bound.names

  zero_most : (n : ℕ) → 0 ≤ n
  zero_most n = omega arith

  pub params-proper : (n : ℕ) (ps : List Param) → ParamsFormed protos ps → ProperShapes protos n (length names) (map (λ p. nameless_shape [] names p.shape) ps)
  params-proper n [] h = tt
  params-proper n (p ∷ ps) h = ((shape-read protos n [] (zero_most n) (length names) names (omega arith) (p.shape) ((h.0).0), omega (arith, nest-read [] names (p.shape), (h.0).1)), params-proper n ps (h.1))

  pub limits-proper : (n : ℕ) → ProperLimits n (length names) (limits_of f)
  limits-proper n = limits-read protos n [] (zero_most n) (length names) names (omega arith) (f.bound.limits)

  pub result-proper : (n : ℕ) → ProperRes protos n (length names) (result_of f)
  result-proper n = res-read protos n [] (zero_most n) (length names) names (omega arith) (f.result) (formed.result)

  pub result-deep : nest_res (result_of f) ≤ deepest
  result-deep = omega (arith, nest_res-read [] names (f.result), formed.shallow)

  pub own-proper : ProperRes protos (length names) 0 (own_result f)
  own-proper = res-read protos (length names) names (omega arith) 0 [] (omega arith) (f.result) (formed.result)

  pub own-deep : nest_res (own_result f) ≤ deepest
  own-deep = omega (arith, nest_res-read names [] (f.result), formed.shallow)

  module _ (w : ℕ → ℤ) (js : List ℤ) (count : length js ≡ length names) where
    -- what the function gives back, with its binders as integer variables
    pub own-result : (v : Value) (us : List Use) → Has (integer_at js) [] (own_result f) v us → Has w js (result_of f) v us
    own-result v us h = has-alike (integer_at js) w [] js 0 (own_result f) (result_of f) [] refl (res-turned w (integer_at js) js [] 0 (result_of f) (own_result f) (res-like w (integer_at js) [] names names [] js [] (binder-value w names js) [] (f.result))) v us h

    pub own-back : (v : Value) (us : List Use) → Has w js (result_of f) v us → Has (integer_at js) [] (own_result f) v us
    own-back v us h = has-alike w (integer_at js) js [] 0 (result_of f) (own_result f) [] refl (res-like w (integer_at js) [] names names [] js [] (binder-value w names js) [] (f.result)) v us h

    base : (x : Ident) → value_named w [] names js x ≡ value_named (integer_at js) names [] [] x
    base x = binder-value w names js x

    entries-start : (ps : List Param) → ParamsFormed protos ps → (vs : List Value) (us : List Use) → HasShapes w js (map (λ p. nameless_shape [] names p.shape) ps) vs us
        → HasEntries protos (length names) (integer_at js) (params_env ps vs) (map (λ p. record { name = p.name; shape = nameless_shape names [] p.shape; held = true }) ps) us
    entries-start [] h [] us has = has
    entries-start [] h (v ∷ vs) us has = absurd has
    entries-start (p ∷ ps) h [] us has = absurd has
    entries-start (p ∷ ps) h (v ∷ vs) us (us₁, us₂, split, here, rest) = (
      us₁,
      us₂,
      split,
      refl,
      shape-read protos (length names) names (omega arith) 0 [] (omega arith) (p.shape) ((h.0).0),
      has_shape-alike w (integer_at js) js [] 0 (nameless_shape [] names (p.shape)) (nameless_shape names [] (p.shape)) [] refl (shape-like w (integer_at js) [] names names [] js [] base [] (p.shape)) v us₁ here,
      entries-start ps (h.1) vs us₂ rest,
    )

    -- the context in which the function begins stands, at values for its parameters
    pub start-stands : (owed : Owed) → ((v : Value) (us : List Use) → Has w js (result_of f) v us → Pays owed v us) → KeepsAll (at w js) (limits_of f) → (vs : List Value) (us : List Use) → HasShapes w js (param_shapes f) vs us
        → Standing protos owed (own_result f) (start f) js (params_env (f.params) vs) us
    start-stands owed pays keeps vs us has = grow_hyps protos owed (own_result f) (record { ints = names; hyps = []; entries = map (λ p. record { name = p.name; shape = nameless_shape names [] p.shape; held = true }) (f.params) }) js (params_env (f.params) vs) us bare_stands (flat_map (λ l. forms_of_limit (nameless_limit names [] l)) (f.bound.limits)) at_most
      where
        bare_stands : Standing protos owed (own_result f) (record { ints = names; hyps = []; entries = map (λ p. record { name = p.name; shape = nameless_shape names [] p.shape; held = true }) (f.params) }) js (params_env (f.params) vs) us
        bare_stands = record {
          len = count;
          rows = tt;
          entries = entries-start (f.params) (formed.params) vs us has;
          own_proper = own-proper;
          own_deep = own-deep;
          pays = λ v us h. pays v us (own-result v us h);
        }

        at_most : FormsAtMost protos owed (own_result f) (integer_at js) (flat_map (λ l. forms_of_limit (nameless_limit names [] l)) (f.bound.limits))
        at_most = subst (FormsAtMost protos owed (own_result f) (integer_at js)) (sym (flat-map (nameless_limit names []) (f.bound.limits)))
            (limits-at_most protos owed (own_result f) (integer_at js) (map (nameless_limit names []) (f.bound.limits)) (keeps-alike w (integer_at js) js [] 0 (limits_of f) (map (nameless_limit names []) (f.bound.limits)) [] refl (limits-like w (integer_at js) [] names names [] js [] base [] (f.bound.limits)) keeps))

    param-names : (ps : List Param) (vs : List Value) (us : List Use) → HasShapes w js (map (λ p. nameless_shape [] names p.shape) ps) vs us → names_of_env (params_env ps vs) ≡ map (λ p. p.name) ps
    param-names [] [] us has = refl
    param-names [] (v ∷ vs) us has = absurd has
    param-names (p ∷ ps) [] us has = absurd has
    param-names (p ∷ ps) (v ∷ vs) us (us₁, us₂, split, here, rest) = ap (λ z. p.name ∷ z) (param-names ps vs us₂ rest)

    -- the function's body, at values for its parameters
    pub entered-typed : (P : Program) → P.protos ≡ protos → OutlinedFunction P f → (owed : Owed) → ((v : Value) (us : List Use) → Has w js (result_of f) v us → Pays owed v us) → KeepsAll (at w js) (limits_of f) → (vs : List Value) (us : List Use) → HasShapes w js (param_shapes f) vs us
        → BodyAt P owed (f.body) (params_env (f.params) vs) us
    entered-typed P same out owed pays keeps vs us has =
        (own_result f, start f, js, us, out, subst (λ z. NamesBound z (names_of_env (params_env (f.params) vs)) (f.body)) (sym same) (subst (λ z. NamesBound protos z (f.body)) (sym (param-names (f.params) vs us has)) (formed.body)), (λ q. refl), subst (λ z. Standing z owed (own_result f) (start f) js (params_env (f.params) vs) us) (sym same) (start-stands owed pays keeps vs us has))
