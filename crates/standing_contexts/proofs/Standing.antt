-- A context whose integer variables and entries have values, and what it grows by.
use Rattle.standing_contexts.specs.Places.{Owed, Pays, Standing, TrueRows}
use Rattle.std.proofs.Common.{◌≡◌, ℕ, zero, suc, ◌+◌, ◌≤◌, ◌<◌, ℤ, pos, ◌+ℤ◌, ◌-ℤ◌, ◌*ℤ◌, ◌≤ℤ◌, Bool, true, false, nat_lt, nat_eq, List, [], ◌∷◌, ◌++◌, All, map, flat_map, length, length-append, append-nil, append_assoc, Option, Some, None, Result, Ok, Err, refl, ap, sym, subst, ◌∙◌, arith, add-zero}
use Rattle.std.proofs.lemmas.Int.{ints}
use Rattle.std.proofs.lemmas.Bool.{eqb-true}
use Rattle.std.proofs.lemmas.List.Elements.{All-from_recursion}
use Rattle.std.specs.List.{range_with_len, AllByRecursion}
use Rattle.core_language.specs.Names.{Ident}
use Rattle.core_language.specs.Terms.{AtMost, Less, Same}
use Rattle.core_language.specs.Operands.{Pat}
use Rattle.core_language.specs.Resources.{Proto}
use Rattle.core_language.specs.Values.{Value}
use Rattle.core_language.specs.Computing.{Env}
use Rattle.core_language.specs.Acts.{bound}
use Rattle.farkas_check.specs.declared.cert.Row.{Row}
use Rattle.farkas_check.specs.Rows.{linear_part, value_at}
use Rattle.linear_forms.specs.Terms.{unit_at}
use Rattle.outline_language.specs.LinearForms.{Var, Free, Inside, LinearForm, variable_form, minus, plus_one, multiples_at, form_at, free_values, row_of}
use Rattle.outline_language.specs.Nameless.{Limit, Shape, Res, Binds, limit_with, shape_with, at_most_zero, forms_of_limit}
use Rattle.outline_language.specs.Contexts.{Why, InstanceCount, TooLarge, and_then, provided, nothing, Entry, Context, row_formed, put_in_shape, hold, most, add_int, add_ints, add_hyp, add_hyps, variables_from, bind}
use Rattle.good_configurations.specs.Ends.{at, integer_at}
use Rattle.good_configurations.specs.Values.{Use, InRelation, Keeps, KeepsAll, Has, HasShape}
use Rattle.outline_values.specs.Proper.{HasEntries, HasHeld, ProperForms, ProperLimits, ProperRes, ProperShape, ProperVar, nest_res}
use Rattle.outline_values.specs.Formed.{deepest}
use Rattle.outline_values.proofs.Answers.{one_ok, err_ok, and_then-ok, provided-ok}
use Rattle.outline_language.proofs.Values.{minus-at, plus_one-at, variable-at}
use Rattle.outline_values.proofs.Alike.{has_shape-alike, has-alike, keeps-alike, limits-turned, LimitsAlike}
use Rattle.outline_values.proofs.Proper.{low_values, high, shape-more, res-more, length-map}
use Rattle.outline_values.proofs.Readings.{limits-agree, shape-agree, res-agree, limits-open}
use Rattle.given_values.proofs.Obliging.{AreTrue, AllAtMost, form-row}
use Rattle.given_values.proofs.Giving.{put-typed}

rows-true : (n : ℕ) (w : ℕ → ℤ) (rows : List Row) → TrueRows n w rows → AllByRecursion (λ row. value_at w row ≤ℤ pos 0) rows
rows-true n w [] h = tt
rows-true n w (r ∷ rows) h = ((h.0).1, rows-true n w rows (h.1))

pub hyps-true : (n : ℕ) (w : ℕ → ℤ) (rows : List Row) → TrueRows n w rows → AreTrue w rows
hyps-true n w rows h = All-from_recursion (λ row. value_at w row ≤ℤ pos 0) rows (rows-true n w rows h)

-- ---- more integer variables

linear-low : (f g : ℕ → ℤ) (n : ℕ) → ((i : ℕ) → i < n → f i ≡ g i) → (cs : List ℤ) → length cs ≤ n → linear_part f cs ≡ linear_part g cs
linear-low f g n h [] le = refl
linear-low f g zero h (c ∷ cs) le = absurd (omega arith)
linear-low f g (suc n) h (c ∷ cs) le = rw (h 0 (omega arith), linear-low (λ i. f (suc i)) (λ i. g (suc i)) n (λ i lt. h (suc i) (omega arith)) cs (omega arith)) refl

module _ (protos : List Proto) (n m : ℕ) (le : n ≤ m) (w u : ℕ → ℤ) (same : (i : ℕ) → i < n → w i ≡ u i) where
  rows-more : (rows : List Row) → TrueRows n w rows → TrueRows m u rows
  rows-more [] h = tt
  rows-more (r ∷ rows) h = ((omega (arith, le, (h.0).0), subst (λ z. (z +ℤ r.constant) ≤ℤ pos 0) (linear-low w u n same (r.coefficients) ((h.0).0)) ((h.0).1)), rows-more rows (h.1))

  base : (v : Var) → ProperVar n 0 v → at w [] v ≡ at u [] v
  base (Free i) h = same i h
  base (Inside i) h = absurd (omega arith)

  back : (v : Var) → ProperVar n 0 v → at u [] v ≡ at w [] v
  back v h = sym (base v h)

  pub shape-moves : (s : Shape) → ProperShape protos n 0 s → (v : Value) (us : List Use) → HasShape w [] s v us → HasShape u [] s v us
  shape-moves s proper v us h = has_shape-alike w u [] [] 0 s s [] refl (shape-agree w u [] [] n 0 base protos 0 0 refl s proper) v us h

  pub res-moves : (r : Res) → ProperRes protos n 0 r → (v : Value) (us : List Use) → Has w [] r v us → Has u [] r v us
  res-moves r proper v us h = has-alike w u [] [] 0 r r [] refl (res-agree w u [] [] n 0 base protos 0 0 refl r proper) v us h

  pub res-back : (r : Res) → ProperRes protos n 0 r → (v : Value) (us : List Use) → Has u [] r v us → Has w [] r v us
  res-back r proper v us h = has-alike u w [] [] 0 r r [] refl (res-agree u w [] [] n 0 back protos 0 0 refl r proper) v us h

  entries-more : (F : Env) (es : List Entry) (us : List Use) → HasEntries protos n w F es us → HasEntries protos m u F es us
  entries-more [] [] us h = h
  entries-more [] (e ∷ es) us h = h
  entries-more (b ∷ F) [] us h = h
  entries-more (b ∷ F) (e ∷ es) us (vs, ws, split, named, proper, held, rest) = (vs, ws, split, named, shape-more protos n m le 0 (e.shape) proper, one (e.held) held, entries-more F es ws rest)
    where
      one : (h : Bool) → HasHeld w b.1 (e.shape) h vs → HasHeld u b.1 (e.shape) h vs
      one true held = shape-moves (e.shape) proper b.1 vs held
      one false held = held

module _ (protos : List Proto) (owed : Owed) (own : Res) where
  pub grow_ints : (ctx : Context) (ks : List ℤ) (F : Env) (us : List Use) → Standing protos owed own ctx ks F us → (xs : List Ident) (js : List ℤ) → length js ≡ length xs → Standing protos owed own (record { ints = ctx.ints ++ xs; hyps = ctx.hyps; entries = ctx.entries }) (ks ++ js) F us
  grow_ints ctx ks F us s xs js count = record {
    len = length-append ks js ∙ omega (arith, s.len, count, length-append (ctx.ints) xs);
    rows = rows-more protos n m le w u same (ctx.hyps) (s.rows);
    entries = entries-more protos n m le w u same F (ctx.entries) us (s.entries);
    own_proper = res-more protos n m le 0 own (s.own_proper);
    own_deep = s.own_deep;
    pays = λ v vs h. s.pays v vs (res-back protos n m le w u same own (s.own_proper) v vs h);
  }
    where
      n : ℕ
      n = length (ctx.ints)

      m : ℕ
      m = length (ctx.ints ++ xs)

      w : ℕ → ℤ
      w = integer_at ks

      u : ℕ → ℤ
      u = integer_at (ks ++ js)

      le : length (ctx.ints) ≤ length (ctx.ints ++ xs)
      le = omega (arith, length-append (ctx.ints) xs)

      same : (i : ℕ) → i < length (ctx.ints) → integer_at ks i ≡ integer_at (ks ++ js) i
      same i lt = sym (low_values ks js i (omega (arith, s.len, lt)))

  -- ---- more hypotheses

  length-range : (a n : ℕ) → length (range_with_len a n) ≡ n
  length-range a zero = refl
  length-range a (suc n) = ap suc (length-range (a + 1) n)

  row-length : (n : ℕ) (f : LinearForm) → length ((row_of n f).coefficients) ≡ n
  row-length n f = length-map (λ i. multiples_at (free_values (unit_at i)) (f.multiples)) (range_with_len 0 n) ∙ length-range 0 n

  rows-joined : (n : ℕ) (w : ℕ → ℤ) (rows others : List Row) → TrueRows n w rows → TrueRows n w others → TrueRows n w (rows ++ others)
  rows-joined n w [] others h k = k
  rows-joined n w (r ∷ rows) others h k = (h.0, rows-joined n w rows others (h.1) k)

  -- each form is at most 0
  abbrev pub FormsAtMost : (ℕ → ℤ) → List LinearForm → Type 0
  FormsAtMost w [] = Unit {0}
  FormsAtMost w (f ∷ fs) = (form_at (at w []) f ≤ℤ pos 0) × FormsAtMost w fs

  pub grow_hyps : (ctx : Context) (ks : List ℤ) (F : Env) (us : List Use) → Standing protos owed own ctx ks F us → (fs : List LinearForm) → FormsAtMost (integer_at ks) fs → Standing protos owed own (record { ints = ctx.ints; hyps = ctx.hyps ++ map (row_of (length (ctx.ints))) fs; entries = ctx.entries }) ks F us
  grow_hyps ctx ks F us s fs h = record { len = s.len; rows = rows-joined n w (ctx.hyps) (map (row_of n) fs) (s.rows) (made fs h); entries = s.entries; own_proper = s.own_proper; own_deep = s.own_deep; pays = s.pays }
    where
      n : ℕ
      n = length (ctx.ints)

      w : ℕ → ℤ
      w = integer_at ks

      made : (fs : List LinearForm) → FormsAtMost (integer_at ks) fs → TrueRows (length (ctx.ints)) (integer_at ks) (map (row_of (length (ctx.ints))) fs)
      made [] h = tt
      made (f ∷ fs) h = ((omega (arith, row-length (length (ctx.ints)) f), subst (λ z. z ≤ℤ pos 0) (sym (form-row ctx ks (s.len) (hyps-true (length (ctx.ints)) (integer_at ks) (ctx.hyps) (s.rows)) f)) (h.0)), made fs (h.1))

  -- ---- one more entry, and other entries

  entries-joined : (n : ℕ) (w : ℕ → ℤ) (F : Env) (es : List Entry) (us : List Use) → HasEntries protos n w F es us → (x : Ident) (v : Value) (s : Shape) (vs : List Use) → ProperShape protos n 0 s → HasShape w [] s v vs
      → HasEntries protos n w (bound F x v) (es ++ record { name = x; shape = s; held = true } ∷ []) (us ++ vs)
  entries-joined n w [] [] us h x v s vs proper has = (vs, [], ap (λ z. z ++ vs) h ∙ sym (append-nil vs), refl, proper, has, refl)
  entries-joined n w [] (e ∷ es) us h x v s vs proper has = absurd h
  entries-joined n w (b ∷ F) [] us h x v s vs proper has = absurd h
  entries-joined n w (b ∷ F) (e ∷ es) us (us₁, us₂, split, named, e_proper, held, rest) x v s vs proper has =
      (us₁, us₂ ++ vs, ap (λ z. z ++ vs) split ∙ append_assoc us₁ us₂ vs, named, e_proper, held, entries-joined n w F es us₂ rest x v s vs proper has)

  pub grow_entries : (ctx : Context) (ks : List ℤ) (F : Env) (us : List Use) → Standing protos owed own ctx ks F us → (x : Ident) (v : Value) (s : Shape) (vs : List Use) → ProperShape protos (length (ctx.ints)) 0 s → HasShape (integer_at ks) [] s v vs → Standing protos owed own (hold ctx x s) ks (bound F x v) (us ++ vs)
  grow_entries ctx ks F us s x v sh vs proper has = record { len = s.len; rows = s.rows; entries = entries-joined (length (ctx.ints)) (integer_at ks) F (ctx.entries) us (s.entries) x v sh vs proper has; own_proper = s.own_proper; own_deep = s.own_deep; pays = s.pays }

  pub other_entries : (ctx : Context) (ks : List ℤ) (F : Env) (us : List Use) → Standing protos owed own ctx ks F us → (es : List Entry) (vs : List Use) → HasEntries protos (length (ctx.ints)) (integer_at ks) F es vs → Standing protos owed own (record { ints = ctx.ints; hyps = ctx.hyps; entries = es }) ks F vs
  other_entries ctx ks F us s es vs has = record { len = s.len; rows = s.rows; entries = has; own_proper = s.own_proper; own_deep = s.own_deep; pays = s.pays }

-- ---- what is added

pub add_ints-is : (ctx : Context) (xs : List Ident) (after : Context) → add_ints ctx xs ≡ Ok after → after ≡ record { ints = ctx.ints ++ xs; hyps = ctx.hyps; entries = ctx.entries }
add_ints-is ctx [] after e = sym (one_ok e) ∙ ap (λ z. record { ints = z; hyps = ctx.hyps; entries = ctx.entries }) (sym (append-nil (ctx.ints)))
add_ints-is ctx (x ∷ xs) after e = go (and_then-ok (add_int ctx x) (λ more. add_ints more xs) after e) (λ more h. add_ints-is more xs after h)
  where
    go : (more : Context) × (add_int ctx x ≡ Ok more) × (add_ints more xs ≡ Ok after) → ((more : Context) → add_ints more xs ≡ Ok after → after ≡ record { ints = more.ints ++ xs; hyps = more.hyps; entries = more.entries }) → after ≡ record { ints = ctx.ints ++ (x ∷ xs); hyps = ctx.hyps; entries = ctx.entries }
    go (more, e₁, e₂) ih = ih more e₂ ∙ ap (λ z. record { ints = z.ints ++ xs; hyps = z.hyps; entries = z.entries }) (sym ((provided-ok _ TooLarge _ more e₁).1)) ∙ ap (λ z. record { ints = z; hyps = ctx.hyps; entries = ctx.entries }) (append_assoc (ctx.ints) (x ∷ []) xs)

pub add_hyp-is : (ctx : Context) (f : LinearForm) (after : Context) → add_hyp ctx f ≡ Ok after → after ≡ record { ints = ctx.ints; hyps = ctx.hyps ++ map (row_of (length (ctx.ints))) (f ∷ []); entries = ctx.entries }
add_hyp-is ctx f after e = go (and_then-ok (row_formed (length (ctx.ints)) f) _ after e)
  where
    go : (row : Row) × (row_formed (length (ctx.ints)) f ≡ Ok row) × (provided (nat_lt (length (ctx.hyps)) most) TooLarge (record { ints = ctx.ints; hyps = ctx.hyps ++ row ∷ []; entries = ctx.entries }) ≡ Ok after) → after ≡ record { ints = ctx.ints; hyps = ctx.hyps ++ map (row_of (length (ctx.ints))) (f ∷ []); entries = ctx.entries }
    go (row, e₁, e₂) = sym ((provided-ok _ TooLarge _ after e₂).1) ∙ ap (λ z. record { ints = ctx.ints; hyps = ctx.hyps ++ z ∷ []; entries = ctx.entries }) (sym ((provided-ok _ TooLarge (row_of (length (ctx.ints)) f) row e₁).1))

pub add_hyps-is : (ctx : Context) (fs : List LinearForm) (after : Context) → add_hyps ctx fs ≡ Ok after → after ≡ record { ints = ctx.ints; hyps = ctx.hyps ++ map (row_of (length (ctx.ints))) fs; entries = ctx.entries }
add_hyps-is ctx [] after e = sym (one_ok e) ∙ ap (λ z. record { ints = ctx.ints; hyps = z; entries = ctx.entries }) (sym (append-nil (ctx.hyps)))
add_hyps-is ctx (f ∷ fs) after e = go (and_then-ok (add_hyp ctx f) (λ more. add_hyps more fs) after e) (λ more h. add_hyps-is more fs after h)
  where
    go : (more : Context) × (add_hyp ctx f ≡ Ok more) × (add_hyps more fs ≡ Ok after) → ((more : Context) → add_hyps more fs ≡ Ok after → after ≡ record { ints = more.ints; hyps = more.hyps ++ map (row_of (length (more.ints))) fs; entries = more.entries }) → after ≡ record { ints = ctx.ints; hyps = ctx.hyps ++ map (row_of (length (ctx.ints))) (f ∷ fs); entries = ctx.entries }
    go (more, e₁, e₂) ih = ih more e₂ ∙ ap (λ z. record { ints = z.ints; hyps = z.hyps ++ map (row_of (length (z.ints))) fs; entries = z.entries }) (add_hyp-is ctx f more e₁) ∙ ap (λ z. record { ints = ctx.ints; hyps = z; entries = ctx.entries }) (append_assoc (ctx.hyps) (row_of (length (ctx.ints)) f ∷ []) (map (row_of (length (ctx.ints))) fs))
