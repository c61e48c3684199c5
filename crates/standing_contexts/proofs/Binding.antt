-- Patterns that are bound, and integers that are new.
use Rattle.standing_contexts.specs.Places.{Owed, Pays, Standing, TrueRows}
use Rattle.std.proofs.Common.{◌≡◌, ℕ, zero, suc, ◌+◌, ◌≤◌, ◌<◌, ℤ, pos, neg_ℤ, ◌+ℤ◌, ◌-ℤ◌, ◌*ℤ◌, ◌≤ℤ◌, Bool, true, false, nat_eq, List, [], ◌∷◌, ◌++◌, map, flat_map, length, length-append, append-nil, append_assoc, Option, Some, None, Result, Ok, Err, refl, ap, sym, subst, ◌∙◌, arith, add-zero}
use Rattle.std.proofs.lemmas.Int.{ints}
use Rattle.std.proofs.lemmas.Bool.{eqb-true}
use Rattle.std.specs.List.{range_with_len}
use Rattle.core_language.specs.Names.{Ident}
use Rattle.core_language.specs.Terms.{Relation, AtMost, Less, Same}
use Rattle.core_language.specs.Operands.{Pat}
use Rattle.core_language.specs.Resources.{Proto}
use Rattle.core_language.specs.Values.{Value}
use Rattle.core_language.specs.Values as value
use Rattle.core_language.specs.Computing.{Env}
use Rattle.core_language.specs.Acts.{bound}
use Rattle.outline_language.specs.LinearForms.{Var, Free, Inside, LinearForm, variable_form, minus, plus_one, form_at, row_of}
use Rattle.outline_language.specs.Nameless.{Limit, Shape, Res, Int, Binds, limit_with, at_most_zero, forms_of_limit}
use Rattle.outline_language.specs.Contexts.{Why, InstanceCount, TooLarge, and_then, provided, nothing, Context, put_in_shape, hold, add_int, add_ints, add_hyps, variables_from, bind}
use Rattle.outline_language.specs.Rules.{next_variable, new_int}
use Rattle.good_configurations.specs.Ends.{at, integer_at}
use Rattle.good_configurations.specs.Values.{Use, InRelation, Keeps, KeepsAll, Has, HasShape}
use Rattle.outline_values.specs.Proper.{ProperForms, ProperLimits, ProperRes, ProperShape, ProperVar, nest}
use Rattle.outline_values.proofs.Answers.{one_ok, err_ok, and_then-ok, provided-ok}
use Rattle.outline_language.proofs.Values.{minus-at, plus_one-at, variable-at}
use Rattle.outline_values.proofs.Alike.{has_shape-alike, keeps-alike, limits-turned, LimitsAlike}
use Rattle.outline_values.proofs.Proper.{low_values, high, parts-weak, var-more, shape-more, length-map}
use Rattle.outline_values.proofs.Readings.{limits-agree, shape-agree, limits-open}
use Rattle.given_values.proofs.Giving.{put-typed}
use Rattle.standing_contexts.proofs.Standing.{hyps-true, grow_ints, grow_hyps, FormsAtMost, grow_entries, other_entries, add_ints-is, add_hyps-is}

-- ---- the new integer variables, as instances

range-length : (a n : ℕ) → length (range_with_len a n) ≡ n
range-length a zero = refl
range-length a (suc n) = ap suc (range-length (a + 1) n)

variables-length : (m k : ℕ) → length (variables_from m k) ≡ k
variables-length m k = length-map (λ i. variable_form (Free i)) (range_with_len m k) ∙ range-length m k

variables-proper : (n m k : ℕ) → m + k ≤ n → ProperForms n 0 (variables_from m k)
variables-proper n m zero le = tt
variables-proper n m (suc k) le = ((omega arith, tt), variables-proper n (m + 1) k (omega arith))

variables-at : (w : ℕ → ℤ) (m : ℕ) (js : List ℤ) → ((i : ℕ) → w (m + i) ≡ integer_at js i) → map (form_at (at w [])) (variables_from m (length js)) ≡ js
variables-at w m [] h = refl
variables-at w m (j ∷ js) h = joined (variable-at (at w []) (Free m) ∙ ap w (sym (add-zero m)) ∙ h 0) (variables-at w (m + 1) js (λ i. let same : (m + 1) + i ≡ m + suc i = omega arith in ap w same ∙ h (suc i)))
  where
    joined : {x y : ℤ} {xs ys : List ℤ} → x ≡ y → xs ≡ ys → x ∷ xs ≡ y ∷ ys
    joined p q = λ i. p i ∷ q i

-- a context with more integer variables, and the same values of the old ones
pub record Grown (ctx : Context) (ks : List ℤ) (after : Context) (more : List ℤ) : Type 0 where
  pub longer : length (ctx.ints) ≤ length (after.ints)
  pub agrees : (i : ℕ) → i < length (ctx.ints) → integer_at ks i ≡ integer_at more i

module _ (protos : List Proto) (owed : Owed) (own : Res) where
  -- limits that are kept give forms that are at most 0
  pub limits-at_most : (w : ℕ → ℤ) (ls : List Limit) → KeepsAll (at w []) ls → FormsAtMost protos owed own w (flat_map forms_of_limit ls)
  limits-at_most w [] h = tt
  limits-at_most w (l ∷ ls) (k, h) = go (l.relation) k (limits-at_most w ls h)
    where
      go : (r : Relation) → InRelation r (form_at (at w []) (l.left)) (form_at (at w []) (l.right)) → FormsAtMost protos owed own w (flat_map forms_of_limit ls) → FormsAtMost protos owed own w (at_most_zero r (l.left) (l.right) ++ flat_map forms_of_limit ls)
      go AtMost k rest = (omega (arith, ints, k, minus-at (at w []) (l.left) (l.right)), rest)
      go Less k rest = (omega (arith, ints, k, minus-at (at w []) (l.left) (l.right), plus_one-at (at w []) (minus (l.left) (l.right))), rest)
      go Same k rest = (omega (arith, ints, k, minus-at (at w []) (l.left) (l.right)), (omega (arith, ints, k, minus-at (at w []) (l.right) (l.left)), rest))

  flat-map : (f : Limit → Limit) (ls : List Limit) → flat_map (λ l. forms_of_limit (f l)) ls ≡ flat_map forms_of_limit (map f ls)
  flat-map f [] = refl
  flat-map f (l ∷ ls) = ap (λ z. forms_of_limit (f l) ++ z) (flat-map f ls)

  -- a context in which the binders of a resource are integer variables
  module _ (ctx : Context) (ks : List ℤ) (F : Env) (us : List Use) (s : Standing protos owed own ctx ks F us) (xs : List Ident) (js : List ℤ) (count : length js ≡ length xs) where
    abbrev wide : Context
    wide = record { ints = ctx.ints ++ xs; hyps = ctx.hyps; entries = ctx.entries }

    abbrev w : ℕ → ℤ
    w = integer_at ks

    abbrev u : ℕ → ℤ
    u = integer_at (ks ++ js)

    abbrev n : ℕ
    n = length (ctx.ints)

    abbrev vars : List LinearForm
    vars = variables_from (length (ctx.ints)) (length js)

    stands_wide : Standing protos owed own wide (ks ++ js) F us
    stands_wide = grow_ints protos owed own ctx ks F us s xs js count

    u-high : (i : ℕ) → u (n + i) ≡ integer_at js i
    u-high i = high ks js i (n + i) (omega (arith, s.len))

    u-low : (d : ℕ) (v : Var) → ProperVar n d v → at w js v ≡ at u js v
    u-low d (Free i) h = sym (low_values ks js i (omega (arith, s.len, h)))
    u-low d (Inside i) h = refl

    vars-worth : map (form_at (at u [])) vars ≡ js
    vars-worth = variables-at u n js u-high

    wide-length : length (ctx.ints ++ xs) ≡ n + length js
    wide-length = length-append (ctx.ints) xs ∙ omega (arith, count)

    vars_proper : ProperForms (length (ctx.ints ++ xs)) 0 vars
    vars_proper = variables-proper (length (ctx.ints ++ xs)) n (length js) (omega (arith, wide-length))

    abbrev k : ℕ
    k = length js

    limits_more : (ls : List Limit) → ProperLimits n k ls → ProperLimits (length (ctx.ints ++ xs)) k ls
    limits_more [] h = tt
    limits_more (l ∷ ls) h = ((parts-weak n (length (ctx.ints ++ xs)) k k more (l.left.multiples) ((h.0).0), parts-weak n (length (ctx.ints ++ xs)) k k more (l.right.multiples) ((h.0).1)), limits_more ls (h.1))
      where
        more : (v : Var) → ProperVar n k v → ProperVar (length (ctx.ints ++ xs)) k v
        more = var-more n (length (ctx.ints ++ xs)) k (omega (arith, wide-length))

    limits_hold : (ls : List Limit) → ProperLimits n k ls → KeepsAll (at w js) ls → KeepsAll (at u []) (map (limit_with vars 0) ls)
    limits_hold ls proper keeps = keeps-alike u u js [] 0 ls (map (limit_with vars 0) ls) [] refl (limits-turned u u [] js 0 (map (limit_with vars 0) ls) ls opened) (keeps-alike w u js js 0 ls ls [] refl (limits-agree w u js js n k (u-low k) 0 k (omega arith) ls proper) keeps)
      where
        opened : LimitsAlike u u [] js 0 (map (limit_with vars 0) ls) ls
        opened = subst (λ z. LimitsAlike u u [] z 0 (map (limit_with vars 0) ls) ls) vars-worth (limits-open u (length (ctx.ints ++ xs)) vars vars_proper 0 k (omega (arith, variables-length n (length js))) ls (limits_more ls proper))

  -- a pattern that is bound to a value of the resource
  pub bind-typed : (ctx : Context) (ks : List ℤ) (F : Env) (us : List Use) → Standing protos owed own ctx ks F us → (pat : Pat) (r : Res) → ProperRes protos (length (ctx.ints)) 0 r → (v : Value) (vs : List Use) → Has (integer_at ks) [] r v vs → (after : Context) → bind ctx pat r ≡ Ok after
      → (more : List ℤ) × Grown ctx ks after more × Standing protos owed own after more (bound F (pat.name) v) (us ++ vs)
  bind-typed ctx ks F us s pat (Binds k limits sh) proper v vs (js, len, keeps, has) after e = go (and_then-ok (provided (nat_eq (length (pat.names)) k) InstanceCount nothing) _ after e)
    where
      go : (t : Unit {0}) × (provided (nat_eq (length (pat.names)) k) InstanceCount nothing ≡ Ok t) × (and_then (add_ints ctx (pat.names)) (λ with_ints.
          and_then (add_hyps with_ints (flat_map (λ l. forms_of_limit (limit_with (variables_from (length (ctx.ints)) k) 0 l)) limits)) (λ with_hyps.
          and_then (put_in_shape (variables_from (length (ctx.ints)) k) sh) (λ here. Ok (hold with_hyps (pat.name) here)))) ≡ Ok after) → (more : List ℤ) × Grown ctx ks after more × Standing protos owed own after more (bound F (pat.name) v) (us ++ vs)
      go (t, e₁, e₂) = with_ints (and_then-ok (add_ints ctx (pat.names)) _ after e₂)
        where
          count : length js ≡ length (pat.names)
          count = len ∙ sym (eqb-true (length (pat.names)) k ((provided-ok _ InstanceCount nothing t e₁).0))

          none : k + 0 ≡ length js
          none = omega (arith, len)

          limits_proper : ProperLimits (length (ctx.ints)) (length js) limits
          limits_proper = subst (λ z. ProperLimits (length (ctx.ints)) z limits) none (proper.0)

          shape_proper : ProperShape protos (length (ctx.ints)) (length js) sh
          shape_proper = subst (λ z. ProperShape protos (length (ctx.ints)) z sh) none (proper.1)

          kept : FormsAtMost protos owed own (integer_at (ks ++ js)) (flat_map (λ l. forms_of_limit (limit_with (variables_from (length (ctx.ints)) (length js)) 0 l)) limits)
          kept = subst (FormsAtMost protos owed own (integer_at (ks ++ js))) (sym (flat-map (limit_with (variables_from (length (ctx.ints)) (length js)) 0) limits)) (limits-at_most (integer_at (ks ++ js)) (map (limit_with (variables_from (length (ctx.ints)) (length js)) 0) limits) (limits_hold ctx ks F us s (pat.names) js count limits limits_proper (subst (λ z. KeepsAll (at (integer_at ks) z) limits) (append-nil js) keeps)))

          wide : Context
          wide = record { ints = ctx.ints ++ pat.names; hyps = ctx.hyps; entries = ctx.entries }

          forms : ℕ → List LinearForm
          forms k = flat_map (λ l. forms_of_limit (limit_with (variables_from (length (ctx.ints)) k) 0 l)) limits

          full : Context
          full = record { ints = ctx.ints ++ pat.names; hyps = ctx.hyps ++ map (row_of (length (ctx.ints ++ pat.names))) (flat_map (λ l. forms_of_limit (limit_with (variables_from (length (ctx.ints)) (length js)) 0 l)) limits); entries = ctx.entries }

          stands_full : Standing protos owed own full (ks ++ js) F us
          stands_full = grow_hyps protos owed own wide (ks ++ js) F us (grow_ints protos owed own ctx ks F us s (pat.names) js count) (flat_map (λ l. forms_of_limit (limit_with (variables_from (length (ctx.ints)) (length js)) 0 l)) limits) kept

          has_wide : HasShape (integer_at (ks ++ js)) js sh v vs
          has_wide = has_shape-alike (integer_at ks) (integer_at (ks ++ js)) js js 0 sh sh [] refl (shape-agree (integer_at ks) (integer_at (ks ++ js)) js js (length (ctx.ints)) (length js) (u-low ctx ks F us s (pat.names) js count (length js)) protos 0 (length js) (omega arith) sh shape_proper) v vs (subst (λ z. HasShape (integer_at ks) z sh v vs) (append-nil js) has)

          last : (here : Shape) → put_in_shape (variables_from (length (ctx.ints)) (length js)) sh ≡ Ok here → Standing protos owed own (hold full (pat.name) here) (ks ++ js) (bound F (pat.name) v) (us ++ vs)
          last here e = grow_entries protos owed own full (ks ++ js) F us stands_full (pat.name) v here vs (put.0) ((put.3) v vs (subst (λ z. HasShape (integer_at (ks ++ js)) z sh v vs) (sym (vars-worth ctx ks F us s (pat.names) js count)) has_wide))
            where
              shape_wide : ProperShape protos (length (ctx.ints ++ pat.names)) (length (variables_from (length (ctx.ints)) (length js))) sh
              shape_wide = subst (λ z. ProperShape protos (length (ctx.ints ++ pat.names)) z sh) (sym (variables-length (length (ctx.ints)) (length js))) (shape-more protos (length (ctx.ints)) (length (ctx.ints ++ pat.names)) (omega (arith, length-append (ctx.ints) (pat.names))) (length js) sh shape_proper)

              put : ProperShape protos (length (ctx.ints ++ pat.names)) 0 here × (nest here ≡ nest sh) × ((v : Value) (us : List Use) → HasShape (integer_at (ks ++ js)) [] here v us → HasShape (integer_at (ks ++ js)) (map (form_at (at (integer_at (ks ++ js)) [])) (variables_from (length (ctx.ints)) (length js))) sh v us) × ((v : Value) (us : List Use) → HasShape (integer_at (ks ++ js)) (map (form_at (at (integer_at (ks ++ js)) [])) (variables_from (length (ctx.ints)) (length js))) sh v us → HasShape (integer_at (ks ++ js)) [] here v us)
              put = put-typed protos (ctx.ints ++ pat.names) (full.hyps) (ks ++ js) (stands_full.len) (hyps-true (length (ctx.ints ++ pat.names)) (integer_at (ks ++ js)) (full.hyps) (stands_full.rows)) F (variables_from (length (ctx.ints)) (length js)) (vars_proper ctx ks F us s (pat.names) js count) sh here shape_wide e

          with_ints : (a : Context) × (add_ints ctx (pat.names) ≡ Ok a) × (and_then (add_hyps a (forms k)) (λ with_hyps. and_then (put_in_shape (variables_from (length (ctx.ints)) k) sh) (λ here. Ok (hold with_hyps (pat.name) here))) ≡ Ok after) → (more : List ℤ) × Grown ctx ks after more × Standing protos owed own after more (bound F (pat.name) v) (us ++ vs)
          with_ints (a, e₃, e₄) = with_hyps (and_then-ok (add_hyps a (forms k)) _ after e₄)
            where
              with_hyps : (b : Context) × (add_hyps a (forms k) ≡ Ok b) × (and_then (put_in_shape (variables_from (length (ctx.ints)) k) sh) (λ here. Ok (hold b (pat.name) here)) ≡ Ok after) → (more : List ℤ) × Grown ctx ks after more × Standing protos owed own after more (bound F (pat.name) v) (us ++ vs)
              with_hyps (b, e₅, e₆) = with_shape (and_then-ok (put_in_shape (variables_from (length (ctx.ints)) k) sh) _ after e₆)
                where
                  b_is : b ≡ full
                  b_is = add_hyps-is a (forms k) b e₅ ∙ ap (λ z. record { ints = z.ints; hyps = z.hyps ++ map (row_of (length (z.ints))) (forms k); entries = z.entries }) (add_ints-is ctx (pat.names) a e₃) ∙ ap (λ z. record { ints = ctx.ints ++ pat.names; hyps = ctx.hyps ++ map (row_of (length (ctx.ints ++ pat.names))) (forms z); entries = ctx.entries }) (sym len)

                  with_shape : (here : Shape) × (put_in_shape (variables_from (length (ctx.ints)) k) sh ≡ Ok here) × (◌≡◌ {A = Result Context Why} (Ok (hold b (pat.name) here)) (Ok after)) → (more : List ℤ) × Grown ctx ks after more × Standing protos owed own after more (bound F (pat.name) v) (us ++ vs)
                  with_shape (here, e₇, e₈) = let x = subst (λ z. Grown ctx ks z (ks ++ js) × Standing protos owed own z (ks ++ js) (bound F (pat.name) v) (us ++ vs)) (ap (λ z. hold z (pat.name) here) (sym b_is) ∙ one_ok e₈) (record { longer = omega (arith, length-append (ctx.ints) (pat.names)); agrees = λ i lt. sym (low_values ks js i (omega (arith, s.len, lt))) }, last here (subst (λ z. put_in_shape (variables_from (length (ctx.ints)) z) sh ≡ Ok here) (sym len) e₇)) in (ks ++ js, x.0, x.1)

  -- a new integer variable, and the program variable that it is
  pub new_int-typed : (ctx : Context) (ks : List ℤ) (F : Env) (us : List Use) → Standing protos owed own ctx ks F us → (x : Ident) (z : ℤ) (fs : List LinearForm) → FormsAtMost protos owed own (integer_at (ks ++ z ∷ [])) fs → (after : Context) → new_int ctx x fs ≡ Ok after
      → (more : List ℤ) × Standing protos owed own after more (bound F x (value.Int z)) us
  new_int-typed ctx ks F us s x z fs kept after e = go (and_then-ok (add_int ctx x) _ after e)
    where
      more : List ℤ
      more = ks ++ z ∷ []

      wide : Context
      wide = record { ints = ctx.ints ++ x ∷ []; hyps = ctx.hyps; entries = ctx.entries }

      go : (a : Context) × (add_int ctx x ≡ Ok a) × (and_then (add_hyps a fs) (λ after. Ok (hold after x (Int (next_variable ctx)))) ≡ Ok after) → (more : List ℤ) × Standing protos owed own after more (bound F x (value.Int z)) us
      go (a, e₁, e₂) = by (and_then-ok (add_hyps a fs) _ after e₂)
        where
          by : (b : Context) × (add_hyps a fs ≡ Ok b) × (◌≡◌ {A = Result Context Why} (Ok (hold b x (Int (next_variable ctx)))) (Ok after)) → (more : List ℤ) × Standing protos owed own after more (bound F x (value.Int z)) us
          by (b, e₃, e₄) = (ks ++ z ∷ [], subst (λ c. Standing protos owed own c (ks ++ z ∷ []) (bound F x (value.Int z)) us) (ap (λ c. hold c x (Int (next_variable ctx))) (sym b_is) ∙ one_ok e₄) (subst (λ c. Standing protos owed own (hold full x (Int (next_variable ctx))) (ks ++ z ∷ []) (bound F x (value.Int z)) c) (append-nil us) held))
            where
              full : Context
              full = record { ints = ctx.ints ++ x ∷ []; hyps = ctx.hyps ++ map (row_of (length (ctx.ints ++ x ∷ []))) fs; entries = ctx.entries }

              b_is : b ≡ full
              b_is = add_hyps-is a fs b e₃ ∙ ap (λ z. record { ints = z.ints; hyps = z.hyps ++ map (row_of (length (z.ints))) fs; entries = z.entries }) (sym ((provided-ok _ TooLarge _ a e₁).1))

              stands_full : Standing protos owed own full (ks ++ z ∷ []) F us
              stands_full = grow_hyps protos owed own (record { ints = ctx.ints ++ x ∷ []; hyps = ctx.hyps; entries = ctx.entries }) (ks ++ z ∷ []) F us (grow_ints protos owed own ctx ks F us s (x ∷ []) (z ∷ []) refl) fs kept

              z_is : form_at (at (integer_at (ks ++ z ∷ [])) []) (next_variable ctx) ≡ z
              z_is = variable-at (at (integer_at (ks ++ z ∷ [])) []) (Free (length (ctx.ints))) ∙ high ks (z ∷ []) 0 (length (ctx.ints)) (omega (arith, s.len))

              held : Standing protos owed own (hold full x (Int (next_variable ctx))) (ks ++ z ∷ []) (bound F x (value.Int z)) (us ++ [])
              held = grow_entries protos owed own full (ks ++ z ∷ []) F us stands_full x (value.Int z) (Int (next_variable ctx)) [] ((omega (arith, length-append (ctx.ints) (x ∷ [])), tt)) (ap value.Int (sym z_is), refl)
