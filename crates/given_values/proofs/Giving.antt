-- Values that are given have the resources at which they are given.
use Rattle.std.proofs.Common.{◌≡◌, ℕ, zero, suc, ◌+◌, ◌-◌, ◌≤◌, nat_eq, max, ℤ, pos, Bool, true, false, not, ◌&&◌, if◌then◌else◌, nat_le, List, [], ◌∷◌, ◌++◌, map, flat_map, length, append-nil, Option, Some, None, slice_get, Result, Ok, Err, refl, ap, sym, subst, ◌∙◌, arith}
use Rattle.std.proofs.lemmas.Bool.{and_parts, le-leb, ne_eqb}
use Rattle.core_language.specs.Names.{Ident, same}
use Rattle.core_language.specs.Terms.{Term}
use Rattle.core_language.specs.Operands.{Supply}
use Rattle.core_language.specs.Operands as supply
use Rattle.core_language.specs.Resources.{Proto}
use Rattle.core_language.specs.Values.{Value, depth, is_shallow}
use Rattle.core_language.specs.Values as value
use Rattle.core_language.specs.Computing.{unbounded, Computed, Done, Env, value_of, sum_of, bare_name, term_value, shallow, supplied, all_supplied}
use Rattle.farkas_check.specs.declared.cert.Row.{Row}
use Rattle.outline_language.specs.LinearForms.{LinearForm, form_at}
use Rattle.outline_language.specs.Nameless.{Ref, Limit, Shape, Res, Resources, Int, End, Pair, Sum, Binds, NoMore, More, resource_at, shape_with, res_with, limit_with, shape_fits, res_fits, forms_of_limit, same_bool, same_shape}
use Rattle.outline_language.specs.Nameless as shape
use Rattle.outline_language.specs.Contexts.{Why, WrongForm, TooLarge, InstanceCount, and_then, or_why, provided, Entry, Context, Cursor, Supplied, next_instance, take_instances, instances, oblige_all, put_in_shape, put_in_res, meaning, equate, equate_all, take, Taken, without}
use Rattle.outline_language.specs.Giving.{Given, accept, give_variable, give_integer, give_term, is_unit, pair_of, at_res, give_shape, give, give_all}
use Rattle.outline_language.specs.Giving as giving
use Rattle.graphs.specs.Graph.{count}
use Rattle.graphs.proofs.Counts.{count-append}
use Rattle.good_configurations.specs.Ends.{at, concrete, integer_at}
use Rattle.outline_language.specs.Equations.{Concrete}
use Rattle.good_configurations.specs.Values.{Use, KeepsAll, Has, HasShape, HasArm}
use Rattle.good_configurations.specs.Uses.{AreSame}
use Rattle.outline_values.specs.Proper.{HasEntries, ProperForms, ProperLimits, ProperRes, ProperResources, ProperShape, nest, nest_res, nest_resources}
use Rattle.outline_values.specs.Formed.{NamesAre, NamesIn, SupplyNames, SuppliesNames, deepest}
use Rattle.outline_values.proofs.Answers.{one_ok, err_ok, and_then-ok, provided-ok, or_why-ok, one_some, none_some}
use Rattle.outline_values.proofs.Alike.{has_shape-alike, has-alike, keeps-alike, shape-turned, res-turned, LimitsAlike, ShapeAlike, ResAlike}
use Rattle.outline_values.proofs.Proper.{length-map, shape_with-proper, res_with-proper}
use Rattle.outline_values.proofs.Readings.{limits-open, shape-open, res-open}
use Rattle.outline_values.proofs.Shapes.{same-is, mark-is, same_shape-is, nest-with, nest_res-with, depth-nest}
use Rattle.given_values.proofs.Obliging.{AreTrue, AllAtMost, oblige_all-true, equate-true, equate_all-true, limits-keep}
use Rattle.given_values.proofs.Entries.{entry_names, meaning-proper, meaning-typed, take-typed, TakenAs}

-- the context with other entries
abbrev pub with_entries : Context → List Entry → Context
with_entries ctx es = record { ints = ctx.ints; hyps = ctx.hyps; entries = es }

-- the values have the shapes, each with its uses
abbrev pub HasShapes : (ℕ → ℤ) → List ℤ → List Shape → List Value → List Use → Type 0
HasShapes w b [] [] us = us ≡ []
HasShapes w b [] (v ∷ vs) us = ⊥
HasShapes w b (s ∷ ss) [] us = ⊥
HasShapes w b (s ∷ ss) (v ∷ vs) us = (us₁ us₂ : List Use) × (us ≡ us₁ ++ us₂) × HasShape w b s v us₁ × HasShapes w b ss vs us₂

abbrev pub ProperShapes : List Proto → ℕ → ℕ → List Shape → Type 0
ProperShapes protos n d [] = Unit {0}
ProperShapes protos n d (s ∷ ss) = (ProperShape protos n d s × (nest s ≤ deepest)) × ProperShapes protos n d ss

module _ (protos : List Proto) (ints : List Ident) (hyps : List Row) (ks : List ℤ) (len : length ks ≡ length ints) (true_hyps : AreTrue (integer_at ks) hyps) (F : Env) where
  abbrev w : ℕ → ℤ
  w = integer_at ks

  abbrev n : ℕ
  n = length ints

  -- a context with these entries
  abbrev ctx_of : List Entry → Context
  ctx_of es = record { ints = ints; hyps = hyps; entries = es }

  abbrev values_of : List LinearForm → List ℤ
  values_of forms = map (form_at (at w [])) forms

  -- ---- instances

  take_instances-typed : (es : List Entry) (us : List Use) → HasEntries protos n w F es us → (k : ℕ) (cursor : Cursor) (s : Supplied) → take_instances (ctx_of es) k cursor ≡ Ok s → ProperForms n 0 (s.forms) × (length (s.forms) ≡ k)
  take_instances-typed es us has zero cursor s e = subst (λ z. ProperForms n 0 (z.forms) × (length (z.forms) ≡ 0)) (one_ok e) (tt, refl)
  take_instances-typed es us has (suc k) cursor s e = go (and_then-ok (next_instance (ctx_of es) cursor) _ s e) (λ c t h. take_instances-typed es us has k c t h)
    where
      go : (f : LinearForm) × (next_instance (ctx_of es) cursor ≡ Ok f) × (and_then (take_instances (ctx_of es) k (record cursor { instance = suc (cursor.instance) })) (λ rest. Ok (record { forms = f ∷ rest.forms; cursor = rest.cursor })) ≡ Ok s)
          → ((c : Cursor) (t : Supplied) → take_instances (ctx_of es) k c ≡ Ok t → ProperForms n 0 (t.forms) × (length (t.forms) ≡ k)) → ProperForms n 0 (s.forms) × (length (s.forms) ≡ suc k)
      go (f, e₁, e₂) ih = by (and_then-ok (take_instances (ctx_of es) k (record cursor { instance = suc (cursor.instance) })) _ s e₂) (and_then-ok (or_why (slice_get (cursor.proof.instances) (cursor.instance)) InstanceCount) (meaning (ctx_of es)) f e₁)
        where
          by : (t : Supplied) × (take_instances (ctx_of es) k (record cursor { instance = suc (cursor.instance) }) ≡ Ok t) × (◌≡◌ {A = Result Supplied Why} (Ok (record { forms = f ∷ t.forms; cursor = t.cursor })) (Ok s))
              → (term : Term) × (or_why (slice_get (cursor.proof.instances) (cursor.instance)) InstanceCount ≡ Ok term) × (meaning (ctx_of es) term ≡ Ok f) → ProperForms n 0 (s.forms) × (length (s.forms) ≡ suc k)
          by (t, e₃, e₄) (term, e₅, e₆) = let x = ih (record cursor { instance = suc (cursor.instance) }) t e₃ in
              subst (λ z. ProperForms n 0 (z.forms) × (length (z.forms) ≡ suc k)) (one_ok e₄) ((meaning-proper protos n w (ctx_of es) refl F us has term f e₆, x.0), ap suc (x.1))

  flat-map : (f : Limit → Limit) (ls : List Limit) → flat_map (λ l. forms_of_limit (f l)) ls ≡ flat_map forms_of_limit (map f ls)
  flat-map f [] = refl
  flat-map f (l ∷ ls) = ap (λ z. forms_of_limit (f l) ++ z) (flat-map f ls)

  -- instances keep the limits
  pub instances-typed : (es : List Entry) (us : List Use) → HasEntries protos n w F es us → (k : ℕ) (limits : List Limit) → ProperLimits n k limits → (cursor : Cursor) (s : Supplied) → instances (ctx_of es) k limits cursor ≡ Ok s
      → ProperForms n 0 (s.forms) × (length (s.forms) ≡ k) × KeepsAll (at w (values_of (s.forms))) limits
  instances-typed es us has k limits proper cursor s e = go (and_then-ok (take_instances (ctx_of es) k cursor) _ s e)
    where
      go : (t : Supplied) × (take_instances (ctx_of es) k cursor ≡ Ok t) × (and_then (oblige_all (ctx_of es) (flat_map (λ l. forms_of_limit (limit_with (t.forms) 0 l)) limits) (t.cursor)) (λ after. Ok (record { forms = t.forms; cursor = after })) ≡ Ok s) → ProperForms n 0 (s.forms) × (length (s.forms) ≡ k) × KeepsAll (at w (values_of (s.forms))) limits
      go (t, e₁, e₂) = by (and_then-ok (oblige_all (ctx_of es) (flat_map (λ l. forms_of_limit (limit_with (t.forms) 0 l)) limits) (t.cursor)) _ s e₂)
        where
          x : ProperForms n 0 (t.forms) × (length (t.forms) ≡ k)
          x = take_instances-typed es us has k cursor t e₁

          by : (after : Cursor) × (oblige_all (ctx_of es) (flat_map (λ l. forms_of_limit (limit_with (t.forms) 0 l)) limits) (t.cursor) ≡ Ok after) × (◌≡◌ {A = Result Supplied Why} (Ok (record { forms = t.forms; cursor = after })) (Ok s)) → ProperForms n 0 (s.forms) × (length (s.forms) ≡ k) × KeepsAll (at w (values_of (s.forms))) limits
          by (after, e₃, e₄) = subst (λ z. ProperForms n 0 (z.forms) × (length (z.forms) ≡ k) × KeepsAll (at w (values_of (z.forms))) limits) (one_ok e₄) (x.0, x.1, kept)
            where
              kept : KeepsAll (at w (values_of (t.forms))) limits
              kept = keeps-alike w w [] (values_of (t.forms)) 0 (map (limit_with (t.forms) 0) limits) limits [] refl (limits-open w n (t.forms) (x.0) 0 k (omega (arith, x.1)) limits proper)
                  (limits-keep (ctx_of es) ks len true_hyps (map (limit_with (t.forms) 0) limits) (subst (AllAtMost (ctx_of es) ks len true_hyps) (flat-map (limit_with (t.forms) 0) limits) (oblige_all-true (ctx_of es) ks len true_hyps (flat_map (λ l. forms_of_limit (limit_with (t.forms) 0 l)) limits) (t.cursor) after e₃)))

  -- a shape with instances put in
  pub put-typed : (forms : List LinearForm) → ProperForms n 0 forms → (s asked : Shape) → ProperShape protos n (length forms) s → put_in_shape forms s ≡ Ok asked
      → ProperShape protos n 0 asked × (nest asked ≡ nest s) × ((v : Value) (us : List Use) → HasShape w [] asked v us → HasShape w (values_of forms) s v us) × ((v : Value) (us : List Use) → HasShape w (values_of forms) s v us → HasShape w [] asked v us)
  put-typed [] proper_forms s asked proper e = subst (λ z. ProperShape protos n 0 z × (nest z ≡ nest s) × ((v : Value) (us : List Use) → HasShape w [] z v us → HasShape w [] s v us) × ((v : Value) (us : List Use) → HasShape w [] s v us → HasShape w [] z v us)) (one_ok e) (proper, refl, (λ v us h. h), (λ v us h. h))
  put-typed (f ∷ fs) proper_forms s asked proper e = subst (λ z. ProperShape protos n 0 z × (nest z ≡ nest s) × ((v : Value) (us : List Use) → HasShape w [] z v us → HasShape w (values_of (f ∷ fs)) s v us) × ((v : Value) (us : List Use) → HasShape w (values_of (f ∷ fs)) s v us → HasShape w [] z v us)) ((provided-ok _ TooLarge (shape_with (f ∷ fs) 0 s) asked e).1) (
    shape_with-proper protos n (f ∷ fs) proper_forms 0 (length (f ∷ fs)) (omega arith) s proper,
    nest-with (f ∷ fs) 0 s,
    (λ v us h. has_shape-alike w w [] (values_of (f ∷ fs)) 0 (shape_with (f ∷ fs) 0 s) s [] refl alike v us h),
    (λ v us h. has_shape-alike w w (values_of (f ∷ fs)) [] 0 s (shape_with (f ∷ fs) 0 s) [] refl (shape-turned w w [] (values_of (f ∷ fs)) 0 (shape_with (f ∷ fs) 0 s) s alike) v us h),
  )
    where
      alike : ShapeAlike w w [] (values_of (f ∷ fs)) 0 (shape_with (f ∷ fs) 0 s) s
      alike = shape-open w n (f ∷ fs) proper_forms protos 0 (length (f ∷ fs)) (omega arith) s proper

  pub put_res-typed : (forms : List LinearForm) → ProperForms n 0 forms → (r asked : Res) → ProperRes protos n (length forms) r → put_in_res forms r ≡ Ok asked
      → ProperRes protos n 0 asked × (nest_res asked ≡ nest_res r) × ((v : Value) (us : List Use) → Has w (values_of forms) r v us → Has w [] asked v us)
  put_res-typed [] proper_forms r asked proper e = subst (λ z. ProperRes protos n 0 z × (nest_res z ≡ nest_res r) × ((v : Value) (us : List Use) → Has w [] r v us → Has w [] z v us)) (one_ok e) (proper, refl, (λ v us h. h))
  put_res-typed (f ∷ fs) proper_forms r asked proper e = subst (λ z. ProperRes protos n 0 z × (nest_res z ≡ nest_res r) × ((v : Value) (us : List Use) → Has w (values_of (f ∷ fs)) r v us → Has w [] z v us)) ((provided-ok _ TooLarge (res_with (f ∷ fs) 0 r) asked e).1) (
    res_with-proper protos n (f ∷ fs) proper_forms 0 (length (f ∷ fs)) (omega arith) r proper,
    nest_res-with (f ∷ fs) 0 r,
    (λ v us h. has-alike w w (values_of (f ∷ fs)) [] 0 r (res_with (f ∷ fs) 0 r) [] refl (res-turned w w [] (values_of (f ∷ fs)) 0 (res_with (f ∷ fs) 0 r) r alike) v us h),
  )
    where
      alike : ResAlike w w [] (values_of (f ∷ fs)) 0 (res_with (f ∷ fs) 0 r) r
      alike = res-open w n (f ∷ fs) proper_forms protos 0 (length (f ∷ fs)) (omega arith) r proper

  -- ---- a variable of one shape where another is asked for

  pub accept-typed : (es : List Entry) (has asked : Shape) (cursor after : Cursor) → accept (ctx_of es) has asked cursor ≡ Ok after → (v : Value) (us : List Use) → HasShape w [] has v us → HasShape w [] asked v us
  accept-typed es shape.Unit shape.Unit cursor after e v us h = h
  accept-typed es (Int s) (Int t) cursor after e v us h = (h.0 ∙ ap value.Int (equate-true (ctx_of es) ks len true_hyps s t cursor after e), h.1)
  accept-typed es (End d) (End f) cursor after e v us h = go (and_then-ok (provided (same_bool (d.dual) (f.dual) && same (d.name) (f.name)) WrongForm cursor) (equate_all (ctx_of es) (d.args) (f.args)) after e) h
    where
      go : (c : Cursor) × (provided (same_bool (d.dual) (f.dual) && same (d.name) (f.name)) WrongForm cursor ≡ Ok c) × (equate_all (ctx_of es) (d.args) (f.args) c ≡ Ok after) → HasShape w [] (End d) v us → HasShape w [] (End f) v us
      go (c, e₁, e₂) (a, is, its) = (a, is, its ∙ ap (λ z. (a, z) ∷ []) (joined (mark-is (d.dual) (f.dual) (x.0)) (same-is (d.name) (f.name) (x.1)) (equate_all-true (ctx_of es) ks len true_hyps (d.args) (f.args) c after e₂)))
        where
          x : (same_bool (d.dual) (f.dual) ≡ true) × (same (d.name) (f.name) ≡ true)
          x = and_parts (same_bool (d.dual) (f.dual)) (same (d.name) (f.name)) ((provided-ok _ WrongForm cursor c e₁).0)

          joined : d.dual ≡ f.dual → d.name ≡ f.name → values_of (d.args) ≡ values_of (f.args) → concrete (at w []) d ≡ concrete (at w []) f
          joined p q r = λ i. record { dual = p i; name = q i; args = r i }
  accept-typed es (Pair r s) (Pair t u) cursor after e v us h = subst (λ z. HasShape w [] z v us) (same_shape-is (Pair r s) (Pair t u) ((provided-ok _ WrongForm cursor after e).0)) h
  accept-typed es (Sum rs) (Sum ts) cursor after e v us h = subst (λ z. HasShape w [] z v us) (same_shape-is (Sum rs) (Sum ts) ((provided-ok _ WrongForm cursor after e).0)) h
  accept-typed es shape.Unit (Int t) cursor after e v us h = err_ok e
  accept-typed es shape.Unit (End f) cursor after e v us h = err_ok e
  accept-typed es shape.Unit (Pair t u) cursor after e v us h = err_ok e
  accept-typed es shape.Unit (Sum ts) cursor after e v us h = err_ok e
  accept-typed es (Int s) shape.Unit cursor after e v us h = err_ok e
  accept-typed es (Int s) (End f) cursor after e v us h = err_ok e
  accept-typed es (Int s) (Pair t u) cursor after e v us h = err_ok e
  accept-typed es (Int s) (Sum ts) cursor after e v us h = err_ok e
  accept-typed es (End d) shape.Unit cursor after e v us h = err_ok e
  accept-typed es (End d) (Int t) cursor after e v us h = err_ok e
  accept-typed es (End d) (Pair t u) cursor after e v us h = err_ok e
  accept-typed es (End d) (Sum ts) cursor after e v us h = err_ok e
  accept-typed es (Pair r s) shape.Unit cursor after e v us h = err_ok e
  accept-typed es (Pair r s) (Int t) cursor after e v us h = err_ok e
  accept-typed es (Pair r s) (End f) cursor after e v us h = err_ok e
  accept-typed es (Pair r s) (Sum ts) cursor after e v us h = err_ok e
  accept-typed es (Sum rs) shape.Unit cursor after e v us h = err_ok e
  accept-typed es (Sum rs) (Int t) cursor after e v us h = err_ok e
  accept-typed es (Sum rs) (End f) cursor after e v us h = err_ok e
  accept-typed es (Sum rs) (Pair t u) cursor after e v us h = err_ok e

  -- ---- values that are given

  names-same : (G : Env) (es : List Entry) (us : List Use) → HasEntries protos n w G es us → entry_names es ≡ map (λ b. b.0) G
  names-same [] [] us has = refl
  names-same [] (e ∷ es) us has = absurd has
  names-same (b ∷ G) [] us has = absurd has
  names-same (b ∷ G) (e ∷ es) us (vs, ws, split, named, proper, held, rest) = joined (sym named) (names-same G es ws rest)
    where
      joined : e.name ≡ b.0 → entry_names es ≡ map (λ b. b.0) G → e.name ∷ entry_names es ≡ b.0 ∷ map (λ b. b.0) G
      joined p q = λ i. p i ∷ q i

  abbrev names_of_env : List Ident
  names_of_env = map (λ b. b.0) F

  abbrev given_of : List Entry → Cursor → Given
  given_of es cursor = record { context = ctx_of es; cursor = cursor }

  -- the value, with its uses, and what stays
  abbrev pub GivenAs : Computed Value → (Value → List Use → Type 0) → Given → List Use → Type 0
  GivenAs computed Typed after us =
      (v : Value) × (vs rest : List Use) × (es : List Entry) × (computed ≡ Done v) × Typed v vs × (after.context ≡ ctx_of es) × HasEntries protos n w F es rest × AreSame us (vs ++ rest)

  abbrev pub Gives : Supply → Type 0
  Gives s = (es : List Entry) (us : List Use) → HasEntries protos n w F es us → (asked : Shape) → ProperShape protos n 0 asked → nest asked ≤ deepest → (cursor : Cursor) (after : Given) → give_shape s asked (given_of es cursor) ≡ Ok after → GivenAs (supplied unbounded F s) (HasShape w [] asked) after us

  abbrev pub GivesAt : Supply → Type 0
  GivesAt s = (es : List Entry) (us : List Use) → HasEntries protos n w F es us → (r : Res) → ProperRes protos n 0 r → nest_res r ≤ deepest → (cursor : Cursor) (after : Given) → at_res (give_shape s) r (given_of es cursor) ≡ Ok after → GivenAs (supplied unbounded F s) (Has w [] r) after us

  pub at_res-typed : (s : Supply) → Gives s → GivesAt s
  at_res-typed s gives es us has (Binds k limits sh) proper deep cursor after e = go (and_then-ok (instances (ctx_of es) k limits cursor) _ after e)
    where
      none : k + 0 ≡ k
      none = omega arith

      go : (t : Supplied) × (instances (ctx_of es) k limits cursor ≡ Ok t) × (and_then (put_in_shape (t.forms) sh) (λ asked. give_shape s asked (given_of es (t.cursor))) ≡ Ok after) → GivenAs (supplied unbounded F s) (Has w [] (Binds k limits sh)) after us
      go (t, e₁, e₂) = by (instances-typed es us has k limits (subst (λ z. ProperLimits n z limits) none (proper.0)) cursor t e₁) (and_then-ok (put_in_shape (t.forms) sh) _ after e₂)
        where
          by : ProperForms n 0 (t.forms) × (length (t.forms) ≡ k) × KeepsAll (at w (values_of (t.forms))) limits → (asked : Shape) × (put_in_shape (t.forms) sh ≡ Ok asked) × (give_shape s asked (given_of es (t.cursor)) ≡ Ok after) → GivenAs (supplied unbounded F s) (Has w [] (Binds k limits sh)) after us
          by (forms_proper, count, kept) (asked, e₃, e₄) = last (put-typed (t.forms) forms_proper sh asked (subst (λ z. ProperShape protos n z sh) (none ∙ sym count) (proper.1)) e₃)
            where
              last : ProperShape protos n 0 asked × (nest asked ≡ nest sh) × ((v : Value) (us : List Use) → HasShape w [] asked v us → HasShape w (values_of (t.forms)) sh v us) × ((v : Value) (us : List Use) → HasShape w (values_of (t.forms)) sh v us → HasShape w [] asked v us) → GivenAs (supplied unbounded F s) (Has w [] (Binds k limits sh)) after us
              last (asked_proper, same_nest, into, out) = end (gives es us has asked asked_proper (omega (arith, same_nest, deep)) (t.cursor) after e₄)
                where
                  end : GivenAs (supplied unbounded F s) (HasShape w [] asked) after us → GivenAs (supplied unbounded F s) (Has w [] (Binds k limits sh)) after us
                  end (v, vs, rest, es', is, typed, ctx', stays, split) =
                      (v, vs, rest, es', is, (values_of (t.forms), length-map (form_at (at w [])) (t.forms) ∙ count, rw append-nil kept, rw append-nil (into v vs typed)), ctx', stays, split)

  shallow-is : (s : Shape) (v : Value) (us : List Use) → HasShape w [] s v us → nest s ≤ deepest → shallow v ≡ Done v
  shallow-is s v us h deep = let e : is_shallow v ≡ true = le-leb (depth v) 256 (omega (arith, depth-nest w [] s v us h, deep)) in rw e refl

  arm-at : (rs : Resources) (i : ℕ) (r : Res) → resource_at rs i ≡ Some r → ProperResources protos n 0 rs → nest_resources rs ≤ deepest → ProperRes protos n 0 r × (nest_res r ≤ deepest) × ((v : Value) (us : List Use) → Has w [] r v us → HasArm w [] rs i v us)
  arm-at NoMore i r e proper deep = none_some e
  arm-at (More t ts) zero r e proper deep = (subst (ProperRes protos n 0) (one_some e) (proper.0), subst (λ z. nest_res z ≤ deepest) (one_some e) (omega (arith, deep)), λ v us h. subst (λ z. Has w [] z v us) (sym (one_some e)) h)
  arm-at (More t ts) (suc i) r e proper deep = arm-at ts i r (next e) (proper.1) (omega (arith, deep))
    where
      next : (if nat_eq (suc i) 0 then Some t else resource_at ts (suc i - 1)) ≡ Some r → resource_at ts i ≡ Some r
      next e =
          let one : suc i - 1 ≡ i = omega arith in
          let apart : nat_eq (suc i) 0 ≡ false = ne_eqb (suc i) 0 (λ same. omega (arith, same)) in
          subst (λ z. resource_at ts z ≡ Some r) one (subst (λ z. (if z then Some t else resource_at ts (suc i - 1)) ≡ Some r) apart e)

  give_term-typed : (term : Term) (o : Option Ident) → NamesIn names_of_env o term → (es : List Entry) (us : List Use) → HasEntries protos n w F es us → (asked : Shape) (cursor : Cursor) (after : Given) → give_term o term asked (given_of es cursor) ≡ Ok after → GivenAs (term_value unbounded F term o) (HasShape w [] asked) after us
  give_term-typed term (Some x) names es us has asked cursor after e = go (and_then-ok (take (ctx_of es) x) _ after e)
    where
      go : (t : Taken) × (take (ctx_of es) x ≡ Ok t) × (and_then (accept (t.context) (t.shape) asked cursor) (λ cursor. Ok (record { context = t.context; cursor = cursor })) ≡ Ok after) → GivenAs (term_value unbounded F term (Some x)) (HasShape w [] asked) after us
      go (t, e₁, e₂) = by (take-typed protos n w (ctx_of es) F us has x t e₁) (and_then-ok (accept (t.context) (t.shape) asked cursor) _ after e₂)
        where
          by : (t.context ≡ ctx_of (without x es)) × TakenAs protos n w F x (t.shape) (without x es) us → (c : Cursor) × (accept (t.context) (t.shape) asked cursor ≡ Ok c) × (◌≡◌ {A = Result Given Why} (Ok (record { context = t.context; cursor = c })) (Ok after)) → GivenAs (term_value unbounded F term (Some x)) (HasShape w [] asked) after us
          by (is_ctx, (v, vs, rest, at_x, typed, proper, stays, split)) (c, e₃, e₄) =
              (v, vs, rest, without x es, rw at_x refl, accept-typed (without x es) (t.shape) asked cursor c (subst (λ z. accept z (t.shape) asked cursor ≡ Ok c) is_ctx e₃) v vs typed, sym (ap (λ z. z.context) (one_ok e₄)) ∙ is_ctx, stays, split)
  give_term-typed term None names es us has (Int t) cursor after e = go (and_then-ok (meaning (ctx_of es) term) _ after e)
    where
      go : (s : LinearForm) × (meaning (ctx_of es) term ≡ Ok s) × (and_then (equate (ctx_of es) s t cursor) (λ cursor. Ok (record { context = ctx_of es; cursor = cursor })) ≡ Ok after) → GivenAs (term_value unbounded F term None) (HasShape w [] (Int t)) after us
      go (s, e₁, e₂) = by (and_then-ok (equate (ctx_of es) s t cursor) _ after e₂)
        where
          by : (c : Cursor) × (equate (ctx_of es) s t cursor ≡ Ok c) × (◌≡◌ {A = Result Given Why} (Ok (record { context = ctx_of es; cursor = c })) (Ok after)) → GivenAs (term_value unbounded F term None) (HasShape w [] (Int t)) after us
          by (c, e₃, e₄) =
              (value.Int (form_at (at w []) s), [], us, es, rw (meaning-typed protos n w (ctx_of es) refl F us has term s (subst (λ z. NamesAre z term) (sym (names-same F es us has)) names) e₁) refl, (ap value.Int (equate-true (ctx_of es) ks len true_hyps s t cursor c e₃), refl), sym (ap (λ z. z.context) (one_ok e₄)), has, λ q. refl)
  give_term-typed term None names es us has shape.Unit cursor after e = err_ok e
  give_term-typed term None names es us has (End f) cursor after e = err_ok e
  give_term-typed term None names es us has (Pair r s) cursor after e = err_ok e
  give_term-typed term None names es us has (Sum rs) cursor after e = err_ok e

  pub give_shape-typed : (s : Supply) → SupplyNames names_of_env s → Gives s
  give_shape-typed supply.Unit names es us has shape.Unit proper deep cursor after e = (value.Unit, [], us, es, refl, (refl, refl), sym (ap (λ z. z.context) (one_ok e)), has, λ q. refl)
  give_shape-typed supply.Unit names es us has (Int f) proper deep cursor after e = err_ok e
  give_shape-typed supply.Unit names es us has (End f) proper deep cursor after e = err_ok e
  give_shape-typed supply.Unit names es us has (Pair r s) proper deep cursor after e = err_ok e
  give_shape-typed supply.Unit names es us has (Sum rs) proper deep cursor after e = err_ok e
  give_shape-typed (supply.Pair s t) names es us has shape.Unit proper deep cursor after e = err_ok e
  give_shape-typed (supply.Pair s t) names es us has (Int f) proper deep cursor after e = err_ok e
  give_shape-typed (supply.Pair s t) names es us has (End f) proper deep cursor after e = err_ok e
  give_shape-typed (supply.Pair s t) names es us has (Sum rs) proper deep cursor after e = err_ok e
  give_shape-typed (supply.Pair s t) names es us has (Pair r u) proper deep cursor after e = go (at_res-typed s (give_shape-typed s (names.0))) (at_res-typed t (give_shape-typed t (names.1))) (and_then-ok (at_res (give_shape s) r (given_of es cursor)) (at_res (give_shape t) u) after e)
    where
      go : GivesAt s → GivesAt t → (g : Given) × (at_res (give_shape s) r (given_of es cursor) ≡ Ok g) × (at_res (give_shape t) u g ≡ Ok after) → GivenAs (supplied unbounded F (supply.Pair s t)) (HasShape w [] (Pair r u)) after us
      go ih ih' (g, e₁, e₂) = by (ih es us has r (proper.0) (omega (arith, deep)) cursor g e₁)
        where
          by : GivenAs (supplied unbounded F s) (Has w [] r) g us → GivenAs (supplied unbounded F (supply.Pair s t)) (HasShape w [] (Pair r u)) after us
          by (a, vs, rest, es', is, typed, ctx', stays, split) = last (ih' es' rest stays u (proper.1) (omega (arith, deep)) (g.cursor) after (subst (λ z. at_res (give_shape t) u (record { context = z; cursor = g.cursor }) ≡ Ok after) ctx' e₂))
            where
              last : GivenAs (supplied unbounded F t) (Has w [] u) after rest → GivenAs (supplied unbounded F (supply.Pair s t)) (HasShape w [] (Pair r u)) after us
              last (b, vs', rest', es'', is', typed', ctx'', stays', split') =
                  (value.Pair a b, vs ++ vs', rest', es'', rw (is, is') (shallow-is (Pair r u) (value.Pair a b) (vs ++ vs') whole deep), whole, ctx'', stays', λ q. omega (arith, split q, split' q, count-append q vs rest, count-append q vs' rest', count-append q (vs ++ vs') rest', count-append q vs vs'))
                where
                  whole : HasShape w [] (Pair r u) (value.Pair a b) (vs ++ vs')
                  whole = (a, b, vs, vs', refl, refl, typed, typed')
  give_shape-typed (supply.Arm i s) names es us has shape.Unit proper deep cursor after e = err_ok e
  give_shape-typed (supply.Arm i s) names es us has (Int f) proper deep cursor after e = err_ok e
  give_shape-typed (supply.Arm i s) names es us has (End f) proper deep cursor after e = err_ok e
  give_shape-typed (supply.Arm i s) names es us has (Pair r u) proper deep cursor after e = err_ok e
  give_shape-typed (supply.Arm i s) names es us has (Sum rs) proper deep cursor after e = go (at_res-typed s (give_shape-typed s names)) (and_then-ok (or_why (resource_at rs i) WrongForm) (λ res. at_res (give_shape s) res (given_of es cursor)) after e)
    where
      go : GivesAt s → (r : Res) × (or_why (resource_at rs i) WrongForm ≡ Ok r) × (at_res (give_shape s) r (given_of es cursor) ≡ Ok after) → GivenAs (supplied unbounded F (supply.Arm i s)) (HasShape w [] (Sum rs)) after us
      go ih (r, e₁, e₂) = by (arm-at rs i r (or_why-ok _ WrongForm r e₁) proper (omega (arith, deep)))
        where
          by : ProperRes protos n 0 r × (nest_res r ≤ deepest) × ((v : Value) (us : List Use) → Has w [] r v us → HasArm w [] rs i v us) → GivenAs (supplied unbounded F (supply.Arm i s)) (HasShape w [] (Sum rs)) after us
          by (r_proper, r_deep, into) = last (ih es us has r r_proper r_deep cursor after e₂)
            where
              last : GivenAs (supplied unbounded F s) (Has w [] r) after us → GivenAs (supplied unbounded F (supply.Arm i s)) (HasShape w [] (Sum rs)) after us
              last (a, vs, rest, es', is, typed, ctx', stays, split) =
                  (value.Arm i a, vs, rest, es', rw is (shallow-is (Sum rs) (value.Arm i a) vs (i, a, refl, into a vs typed) deep), (i, a, refl, into a vs typed), ctx', stays, split)
  give_shape-typed (supply.Sum term) names es us has asked proper deep cursor after e = give_term-typed term (bare_name term) names es us has asked cursor after e

  pub give-typed : (s : Supply) → SupplyNames names_of_env s → GivesAt s
  give-typed s names = at_res-typed s (give_shape-typed s names)

  -- ---- values for parameters

  abbrev pub AllGivenAs : List LinearForm → List Supply → List Shape → Given → List Use → Type 0
  AllGivenAs forms ss shapes after us =
      (vs : List Value) × (us₁ rest : List Use) × (es : List Entry) × (all_supplied unbounded F ss ≡ Done vs) × HasShapes w (values_of forms) shapes vs us₁ × (after.context ≡ ctx_of es) × HasEntries protos n w F es rest × AreSame us (us₁ ++ rest)

  pub give_all-typed : (forms : List LinearForm) → ProperForms n 0 forms → (ss : List Supply) → SuppliesNames names_of_env ss → (shapes : List Shape) → ProperShapes protos n (length forms) shapes → (es : List Entry) (us : List Use) → HasEntries protos n w F es us → (cursor : Cursor) (after : Given) → give_all forms ss shapes (given_of es cursor) ≡ Ok after → AllGivenAs forms ss shapes after us
  give_all-typed forms forms_proper [] names [] proper es us has cursor after e = ([], [], us, es, refl, refl, sym (ap (λ z. z.context) (one_ok e)), has, λ q. refl)
  give_all-typed forms forms_proper [] names (s ∷ ss) proper es us has cursor after e = err_ok e
  give_all-typed forms forms_proper (v ∷ vs) names [] proper es us has cursor after e = err_ok e
  give_all-typed forms forms_proper (v ∷ vs) names (s ∷ ss) proper es us has cursor after e = go (and_then-ok (put_in_shape forms s) _ after e) (λ es' us' has' cursor' e'. give_all-typed forms forms_proper vs (names.1) ss (proper.1) es' us' has' cursor' after e')
    where
      go : (asked : Shape) × (put_in_shape forms s ≡ Ok asked) × (and_then (give_shape v asked (given_of es cursor)) (give_all forms vs ss) ≡ Ok after)
          → ((es' : List Entry) (us' : List Use) → HasEntries protos n w F es' us' → (cursor' : Cursor) → give_all forms vs ss (given_of es' cursor') ≡ Ok after → AllGivenAs forms vs ss after us') → AllGivenAs forms (v ∷ vs) (s ∷ ss) after us
      go (asked, e₁, e₂) ih = by (put-typed forms forms_proper s asked ((proper.0).0) e₁) (and_then-ok (give_shape v asked (given_of es cursor)) (give_all forms vs ss) after e₂)
        where
          by : ProperShape protos n 0 asked × (nest asked ≡ nest s) × ((v : Value) (us : List Use) → HasShape w [] asked v us → HasShape w (values_of forms) s v us) × ((v : Value) (us : List Use) → HasShape w (values_of forms) s v us → HasShape w [] asked v us)
              → (g : Given) × (give_shape v asked (given_of es cursor) ≡ Ok g) × (give_all forms vs ss g ≡ Ok after) → AllGivenAs forms (v ∷ vs) (s ∷ ss) after us
          by (asked_proper, same_nest, into, out) (g, e₃, e₄) = last (give_shape-typed v (names.0) es us has asked asked_proper (omega (arith, same_nest, (proper.0).1)) cursor g e₃)
            where
              last : GivenAs (supplied unbounded F v) (HasShape w [] asked) g us → AllGivenAs forms (v ∷ vs) (s ∷ ss) after us
              last (a, us₁, rest, es', is, typed, ctx', stays, split) = end (ih es' rest stays (g.cursor) (subst (λ z. give_all forms vs ss (record { context = z; cursor = g.cursor }) ≡ Ok after) ctx' e₄))
                where
                  end : AllGivenAs forms vs ss after rest → AllGivenAs forms (v ∷ vs) (s ∷ ss) after us
                  end (as', us₂, rest', es'', all, typed', ctx'', stays', split') =
                      (a ∷ as', us₁ ++ us₂, rest', es'', rw (is, all) refl, (us₁, us₂, refl, into a us₁ typed, typed'), ctx'', stays', λ q. omega (arith, split q, split' q, count-append q us₁ rest, count-append q us₂ rest', count-append q (us₁ ++ us₂) rest', count-append q us₁ us₂))
