-- Shapes whose variables are those of a context or of binders, and whose ends have as many arguments as there are parameters.
use Rattle.std.proofs.Common.{◌≡◌, ℕ, zero, suc, ◌+◌, ◌-◌, ◌≤◌, ◌<◌, ℤ, pos, ◌+ℤ◌, ◌*ℤ◌, Bool, true, false, if◌then◌else◌, nat_lt, List, [], ◌∷◌, ◌++◌, map, length, length-append, append_assoc, Option, Some, None, slice_get, unwrap_or, option_map, refl, ap, sym, subst, ◌∙◌, arith}
use Rattle.std.proofs.lemmas.Int.{ints}
use Rattle.std.proofs.lemmas.Bool.{ltb-true, ltb-false}
use Rattle.std.specs.Ordering.{int_eq}
use Rattle.std.specs.declared.cmp.Ordering.{Ordering}
use Rattle.std.specs.declared.cmp.Ordering.TheVariants.{Less, Equal, Greater}
use Rattle.core_language.specs.Names.{Ident, same}
use Rattle.core_language.specs.Terms.{Term, Limit as WrittenLimit}
use Rattle.core_language.specs.Resources.{Proto}
use Rattle.core_language.specs.Resources as written
use Rattle.linear_forms.specs.Terms.{times_of}
use Rattle.linear_forms.specs.Substitution.{place_of}
use Rattle.outline_language.specs.LinearForms.{Var, Free, Inside, Multiple, LinearForm, variable_order, unless_zero, by_order, add_multiple, add_multiples, add_times, constant_form, variable_form, of_name, form_of_term, put_multiples, put_form, multiples_at, form_at}
use Rattle.outline_language.specs.Nameless.{Ref, Limit, Shape, Res, Resources, Int, End, Pair, Sum, Binds, NoMore, More, at_place, named_form, nameless_term, nameless_limit, nameless_ref, nameless_shape, nameless_res, nameless_resources, instance_for, form_with, limit_with, ref_with, shape_with, res_with, resources_with}
use Rattle.outline_language.specs.Nameless as shape
use Rattle.outline_language.specs.Equations.{proto_named}
use Rattle.good_configurations.specs.Ends.{at, integer_at}
use Rattle.outline_values.specs.Proper.{ProperVar, ProperParts, ProperForm, ProperForms, ProperLimits, ProperRef, ProperShape, ProperRes, ProperResources}
use Rattle.outline_values.specs.Formed.{Knows, KnowsShape, KnowsRes, KnowsResources}
use Rattle.outline_values.proofs.Forms.{term-agree}
use Rattle.outline_language.proofs.Values.{put-at, constant-at, variable-at}
use Rattle.outline_values.proofs.Alike.{OneValue, FormsAlike, LimitsAlike, RefAlike, ShapeAlike, ResAlike, ResourcesAlike}

-- ---- integers by their places

low : (xs ys : List ℤ) (i : ℕ) → i < length xs → integer_at (xs ++ ys) i ≡ integer_at xs i
low [] ys i le = absurd (omega arith)
low (x ∷ xs) ys zero le = refl
low (x ∷ xs) ys (suc i) le = low xs ys i (omega arith)

pub high : (xs ys : List ℤ) (i j : ℕ) → j ≡ length xs + i → integer_at (xs ++ ys) j ≡ integer_at ys i
high [] ys i j e = ap (integer_at ys) (omega (arith, e))
high (x ∷ xs) ys i zero e = absurd (omega arith)
high (x ∷ xs) ys i (suc j) e = high xs ys i j (omega arith)

pub past : (xs : List ℤ) (i : ℕ) → length xs ≤ i → integer_at xs i ≡ pos 0
past [] i le = refl
past (x ∷ xs) zero le = absurd (omega arith)
past (x ∷ xs) (suc i) le = past xs i (omega arith)

pub low_values : (xs ys : List ℤ) (i : ℕ) → i < length xs → integer_at (xs ++ ys) i ≡ integer_at xs i
low_values = low

-- ---- of a larger context

module _ (n m d e : ℕ) (more : (v : Var) → ProperVar n d v → ProperVar m e v) where
  pub parts-weak : (ms : List Multiple) → ProperParts n d ms → ProperParts m e ms
  parts-weak [] h = tt
  parts-weak (p ∷ ms) h = (more p.0 (h.0), parts-weak ms (h.1))

  pub forms-weak : (fs : List LinearForm) → ProperForms n d fs → ProperForms m e fs
  forms-weak [] h = tt
  forms-weak (f ∷ fs) h = (parts-weak (f.multiples) (h.0), forms-weak fs (h.1))

  limits-weak : (ls : List Limit) → ProperLimits n d ls → ProperLimits m e ls
  limits-weak [] h = tt
  limits-weak (l ∷ ls) h = ((parts-weak (l.left.multiples) ((h.0).0), parts-weak (l.right.multiples) ((h.0).1)), limits-weak ls (h.1))

pub var-more : (n m d : ℕ) → n ≤ m → (v : Var) → ProperVar n d v → ProperVar m d v
var-more n m d le (Free i) h = omega arith
var-more n m d le (Inside i) h = h

pub var-deeper : (n d e : ℕ) → d ≤ e → (v : Var) → ProperVar n d v → ProperVar n e v
var-deeper n d e le (Free i) h = h
var-deeper n d e le (Inside i) h = omega arith

module _ (protos : List Proto) (n m : ℕ) (le : n ≤ m) where
  mutual
    pub shape-more : (d : ℕ) (s : Shape) → ProperShape protos n d s → ProperShape protos m d s
    shape-more d shape.Unit h = tt
    shape-more d (Int f) h = parts-weak n m d d (var-more n m d le) (f.multiples) h
    shape-more d (End e) h = (forms-weak n m d d (var-more n m d le) (e.args) (h.0), h.1)
    shape-more d (Pair r s) h = (res-more d r (h.0), res-more d s (h.1))
    shape-more d (Sum rs) h = resources-more d rs h

    pub res-more : (d : ℕ) (r : Res) → ProperRes protos n d r → ProperRes protos m d r
    res-more d (Binds k limits s) h = (limits-weak n m (k + d) (k + d) (var-more n m (k + d) le) limits (h.0), shape-more (k + d) s (h.1))

    pub resources-more : (d : ℕ) (rs : Resources) → ProperResources protos n d rs → ProperResources protos m d rs
    resources-more d NoMore h = tt
    resources-more d (More r rs) h = (res-more d r (h.0), resources-more d rs (h.1))

-- ---- sums are proper

module _ (n d : ℕ) where
  unless_zero-proper : (v : Var) (z : ℤ) (ms : List Multiple) → ProperVar n d v → ProperParts n d ms → ProperParts n d (unless_zero v z ms)
  unless_zero-proper v z ms h hs = go (int_eq z (pos 0))
    where
      go : (b : Bool) → ProperParts n d (if b then ms else ((v, z) ∷ ms))
      go true = hs
      go false = (h, hs)

  add_multiple-proper : (v : Var) (z : ℤ) (ms : List Multiple) → ProperVar n d v → ProperParts n d ms → ProperParts n d (add_multiple v z ms)
  add_multiple-proper v z [] h hs = unless_zero-proper v z [] h hs
  add_multiple-proper v z (m ∷ ms) h hs = go (variable_order v m.0) (add_multiple-proper v z ms h (hs.1))
    where
      go : (o : Ordering) → ProperParts n d (add_multiple v z ms) → ProperParts n d (by_order o (unless_zero v z (m ∷ ms)) (unless_zero v (z +ℤ m.1) ms) (m ∷ add_multiple v z ms))
      go Less ih = unless_zero-proper v z (m ∷ ms) h hs
      go Equal ih = unless_zero-proper v (z +ℤ m.1) ms h (hs.1)
      go Greater ih = (hs.0, ih)

  add_multiples-proper : (k : ℤ) (ms ns : List Multiple) → ProperParts n d ms → ProperParts n d ns → ProperParts n d (add_multiples k ms ns)
  add_multiples-proper k [] ns h hs = hs
  add_multiples-proper k (m ∷ ms) ns h hs = add_multiple-proper m.0 (k *ℤ m.1) (add_multiples k ms ns) (h.0) (add_multiples-proper k ms ns (h.1) hs)

  pub add_times-proper : (k : ℤ) (a b : LinearForm) → ProperForm n d a → ProperForm n d b → ProperForm n d (add_times k a b)
  add_times-proper k a b h hs = add_multiples-proper k (a.multiples) (b.multiples) h hs

  pub term-proper : (a : Ident → LinearForm) → ((x : Ident) → ProperForm n d (a x)) → (t : Term) → ProperForm n d (form_of_term a t)
  term-proper a h [] = tt
  term-proper a h (p ∷ ps) = add_times-proper (times_of p) (of_name a p.name) (form_of_term a ps) (one p.name) (term-proper a h ps)
    where
      one : (x : Option Ident) → ProperForm n d (of_name a x)
      one None = tt
      one (Some x) = h x

  put_multiples-proper : (put : Var → LinearForm) (m e : ℕ) → ((v : Var) → ProperVar m e v → ProperForm n d (put v)) → (z : ℤ) (ms : List Multiple) → ProperParts m e ms → ProperForm n d (put_multiples put z ms)
  put_multiples-proper put m e h z [] hs = tt
  put_multiples-proper put m e h z (p ∷ ms) hs = add_times-proper p.1 (put p.0) (put_multiples put z ms) (h p.0 (hs.0)) (put_multiples-proper put m e h z ms (hs.1))

  pub put-proper : (put : Var → LinearForm) (m e : ℕ) → ((v : Var) → ProperVar m e v → ProperForm n d (put v)) → (a : LinearForm) → ProperForm m e a → ProperForm n d (put_form put a)
  put-proper put m e h a hs = put_multiples-proper put m e h (a.constant) (a.multiples) hs

-- ---- what is read is proper

pub place-within : (xs : List Ident) (x : Ident) (i : ℕ) → place_of xs x ≡ Some i → i < length xs
place-within [] x i e = cc
place-within (y ∷ xs) x i e = go (same y x) (place_of xs x) (λ j f. place-within xs x j f) e
  where
    some_is : {a b : ℕ} → Some a ≡ Some b → a ≡ b
    some_is e = cc

    none_some : {A : Type 0} {a : ℕ} → None ≡ Some a → A
    none_some e = cc

    go : (b : Bool) (o : Option ℕ) → ((j : ℕ) → o ≡ Some j → j < length xs) → (if b then Some 0 else option_map suc o) ≡ Some i → i < suc (length xs)
    go true o ih e = omega (arith, some_is e)
    go false None ih e = none_some e
    go false (Some j) ih e = omega (arith, some_is e, ih j refl)

named-proper : (n d : ℕ) (ints around : List Ident) → length ints ≤ n → length around ≤ d → (x : Ident) → ProperForm n d (named_form ints around x)
named-proper n d ints around le le' x = go (place_of around x) refl
  where
    free : (o : Option ℕ) → place_of ints x ≡ o → ProperForm n d (at_place o (constant_form (pos 0)) Free)
    free None e = tt
    free (Some i) e = (omega (arith, le, place-within ints x i e), tt)

    go : (o : Option ℕ) → place_of around x ≡ o → ProperForm n d (at_place o (at_place (place_of ints x) (constant_form (pos 0)) Free) Inside)
    go None e = free (place_of ints x) refl
    go (Some i) e = (omega (arith, le', place-within around x i e), tt)

-- ---- declared shapes, whose references know their protocols

pub length-map : {X Y : Type 0} (f : X → Y) (xs : List X) → length (map f xs) ≡ length xs
length-map f [] = refl
length-map f (x ∷ xs) = ap suc (length-map f xs)

module _ (protos : List Proto) (n : ℕ) (ints : List Ident) (le : length ints ≤ n) where
  pub term-read : (d : ℕ) (around : List Ident) → length around ≤ d → (t : Term) → ProperForm n d (nameless_term ints around t)
  term-read d around le' t = term-proper n d (named_form ints around) (λ x. named-proper n d ints around le le' x) t

  pub terms-read : (d : ℕ) (around : List Ident) → length around ≤ d → (ts : List Term) → ProperForms n d (map (nameless_term ints around) ts)
  terms-read d around le' [] = tt
  terms-read d around le' (t ∷ ts) = (term-read d around le' t, terms-read d around le' ts)

  pub limits-read : (d : ℕ) (around : List Ident) → length around ≤ d → (ls : List WrittenLimit) → ProperLimits n d (map (nameless_limit ints around) ls)
  limits-read d around le' [] = tt
  limits-read d around le' (l ∷ ls) = ((term-read d around le' (l.left), term-read d around le' (l.right)), limits-read d around le' ls)

  mutual
    pub shape-read : (d : ℕ) (around : List Ident) → length around ≤ d → (s : written.Shape) → KnowsShape protos s → ProperShape protos n d (nameless_shape ints around s)
    shape-read d around le' written.Unit h = tt
    shape-read d around le' (written.Int t) h = term-read d around le' t
    shape-read d around le' (written.End ref) h = (terms-read d around le' (ref.args), subst (λ k. Knows protos (ref.name) k) (sym (length-map (nameless_term ints around) (ref.args))) h)
    shape-read d around le' (written.Pair r s) h = (res-read d around le' r (h.0), res-read d around le' s (h.1))
    shape-read d around le' (written.Sum rs) h = resources-read d around le' rs h

    pub res-read : (d : ℕ) (around : List Ident) → length around ≤ d → (r : written.Res) → KnowsRes protos r → ProperRes protos n d (nameless_res ints around r)
    res-read d around le' (written.Binds b s) h =
        (limits-read (length (b.names) + d) (b.names ++ around) (longer b.names) (b.limits), shape-read (length (b.names) + d) (b.names ++ around) (longer b.names) s h)
      where
        longer : (xs : List Ident) → length (xs ++ around) ≤ length xs + d
        longer xs = omega (arith, length-append xs around, le')

    pub resources-read : (d : ℕ) (around : List Ident) → length around ≤ d → (rs : written.Resources) → KnowsResources protos rs → ProperResources protos n d (nameless_resources ints around rs)
    resources-read d around le' written.NoMore h = tt
    resources-read d around le' (written.More r rs) h = (res-read d around le' r (h.0), resources-read d around le' rs (h.1))

-- ---- instances put in

module _ (protos : List Proto) (n : ℕ) (insts : List LinearForm) (insts_proper : ProperForms n 0 insts) where
  got-proper : (d : ℕ) (fs : List LinearForm) → ProperForms n 0 fs → (i : ℕ) (other : LinearForm) → i < length fs → ProperForm n d (unwrap_or (slice_get fs i) other)
  got-proper d [] h i other le = absurd (omega arith)
  got-proper d (f ∷ fs) h zero other le = parts-weak n n 0 d (var-deeper n 0 d (omega arith)) (f.multiples) (h.0)
  got-proper d (f ∷ fs) h (suc i) other le = got-proper d fs (h.1) i other (omega arith)

  instance-proper : (d e : ℕ) → e ≡ d + length insts → (v : Var) → ProperVar n e v → ProperForm n d (instance_for insts d v)
  instance-proper d e is (Free i) h = (h, tt)
  instance-proper d e is (Inside i) h = go (nat_lt i d) refl
    where
      go : (b : Bool) → nat_lt i d ≡ b → ProperForm n d (if b then variable_form (Inside i) else unwrap_or (slice_get insts (i - d)) (variable_form (Inside i)))
      go true f = (ltb-true i d f, tt)
      go false f = got-proper d insts insts_proper (i - d) (variable_form (Inside i)) (omega (arith, ltb-false i d f, is, h))

  form_with-proper : (d e : ℕ) → e ≡ d + length insts → (a : LinearForm) → ProperForm n e a → ProperForm n d (form_with insts d a)
  form_with-proper d e is a h = put-proper n d (instance_for insts d) n e (instance-proper d e is) a h

  pub forms_with-proper : (d e : ℕ) → e ≡ d + length insts → (fs : List LinearForm) → ProperForms n e fs → ProperForms n d (map (form_with insts d) fs)
  forms_with-proper d e is [] h = tt
  forms_with-proper d e is (f ∷ fs) h = (form_with-proper d e is f (h.0), forms_with-proper d e is fs (h.1))

  limits_with-proper : (d e : ℕ) → e ≡ d + length insts → (ls : List Limit) → ProperLimits n e ls → ProperLimits n d (map (limit_with insts d) ls)
  limits_with-proper d e is [] h = tt
  limits_with-proper d e is (l ∷ ls) h = ((form_with-proper d e is (l.left) ((h.0).0), form_with-proper d e is (l.right) ((h.0).1)), limits_with-proper d e is ls (h.1))

  mutual
    pub shape_with-proper : (d e : ℕ) → e ≡ d + length insts → (s : Shape) → ProperShape protos n e s → ProperShape protos n d (shape_with insts d s)
    shape_with-proper d e is shape.Unit h = tt
    shape_with-proper d e is (Int f) h = form_with-proper d e is f h
    shape_with-proper d e is (End f) h = (forms_with-proper d e is (f.args) (h.0), subst (λ k. Knows protos (f.name) k) (sym (length-map (form_with insts d) (f.args))) (h.1))
    shape_with-proper d e is (Pair r s) h = (res_with-proper d e is r (h.0), res_with-proper d e is s (h.1))
    shape_with-proper d e is (Sum rs) h = resources_with-proper d e is rs h

    pub res_with-proper : (d e : ℕ) → e ≡ d + length insts → (r : Res) → ProperRes protos n e r → ProperRes protos n d (res_with insts d r)
    res_with-proper d e is (Binds k limits s) h = (limits_with-proper (k + d) (k + e) (omega (arith, is)) limits (h.0), shape_with-proper (k + d) (k + e) (omega (arith, is)) s (h.1))

    pub resources_with-proper : (d e : ℕ) → e ≡ d + length insts → (rs : Resources) → ProperResources protos n e rs → ProperResources protos n d (resources_with insts d rs)
    resources_with-proper d e is NoMore h = tt
    resources_with-proper d e is (More r rs) h = (res_with-proper d e is r (h.0), resources_with-proper d e is rs (h.1))
