-- Proper shapes at valuations that agree, shapes with instances put in, and shapes that are read, are alike.
use Rattle.std.proofs.Common.{◌≡◌, ℕ, zero, suc, ◌+◌, ◌-◌, ◌≤◌, ◌<◌, ℤ, pos, ◌+ℤ◌, Bool, true, false, if◌then◌else◌, nat_lt, List, [], ◌∷◌, ◌++◌, map, length, length-append, append_assoc, append-nil, Option, Some, None, slice_get, unwrap_or, option_map, refl, ap, sym, subst, ◌∙◌, arith}
use Rattle.std.proofs.lemmas.Int.{ints}
use Rattle.std.proofs.lemmas.Bool.{ltb-true, ltb-false}
use Rattle.core_language.specs.Names.{Ident, same}
use Rattle.core_language.specs.Terms.{Term, Limit as WrittenLimit}
use Rattle.core_language.specs.Resources.{Proto}
use Rattle.core_language.specs.Resources as written
use Rattle.core_language.specs.Values.{Value}
use Rattle.linear_forms.specs.Substitution.{place_of}
use Rattle.outline_language.specs.LinearForms.{Var, Free, Inside, Multiple, LinearForm, constant_form, variable_form, multiples_at, form_at}
use Rattle.outline_language.specs.Nameless.{Ref, Limit, Shape, Res, Resources, Int, End, Pair, Sum, Binds, NoMore, More, at_place, named_form, nameless_term, nameless_limit, nameless_ref, nameless_shape, nameless_res, nameless_resources, instance_for, form_with, limit_with, ref_with, shape_with, res_with, resources_with}
use Rattle.outline_language.specs.Nameless as shape
use Rattle.good_configurations.specs.Ends.{at, integer_at}
use Rattle.good_configurations.specs.Values.{Use, KeepsAll, Has, HasShape}
use Rattle.outline_values.specs.Proper.{ProperForm, ProperForms, ProperLimits, ProperParts, ProperRef, ProperRes, ProperResources, ProperShape, ProperVar}
use Rattle.outline_values.proofs.Forms.{term-agree}
use Rattle.outline_language.proofs.Values.{put-at, constant-at, variable-at}
use Rattle.outline_values.proofs.Alike.{OneValue, FormsAlike, LimitsAlike, RefAlike, ShapeAlike, ResAlike, ResourcesAlike, has_shape-alike, has-alike, keeps-alike, shape-turned, res-turned}
use Rattle.outline_values.proofs.Proper.{low_values, high, past}

parts-agree : (f g : Var → ℤ) (n d : ℕ) → ((v : Var) → ProperVar n d v → f v ≡ g v) → (ms : List Multiple) → ProperParts n d ms → multiples_at f ms ≡ multiples_at g ms
parts-agree f g n d h [] proper = refl
parts-agree f g n d h (m ∷ ms) proper = rw (h m.0 (proper.0), parts-agree f g n d h ms (proper.1)) refl

pub proper-agree : (f g : Var → ℤ) (n d : ℕ) → ((v : Var) → ProperVar n d v → f v ≡ g v) → (a : LinearForm) → ProperForm n d a → form_at f a ≡ form_at g a
proper-agree f g n d h a proper = rw (parts-agree f g n d h (a.multiples) proper) refl

-- ---- valuations that agree on what is proper

-- under binders with the same values, valuations agree where those below do
module _ (w u : ℕ → ℤ) (b c : List ℤ) (n e : ℕ) (base : (v : Var) → ProperVar n e v → at w b v ≡ at u c v) where
  under : (ks : List ℤ) (D : ℕ) → D ≡ length ks + e → (v : Var) → ProperVar n D v → at w (ks ++ b) v ≡ at u (ks ++ c) v
  under [] D is v h = let same : D ≡ e = omega (arith, is) in base v (subst (λ z. ProperVar n z v) same h)
  under (k ∷ ks) D is (Free i) h = base (Free i) h
  under (k ∷ ks) zero is (Inside i) h = absurd (omega arith)
  under (k ∷ ks) (suc D) is (Inside zero) h = refl
  under (k ∷ ks) (suc D) is (Inside (suc i)) h = under ks D (omega arith) (Inside i) (omega arith)

  one-agree : (d D : ℕ) → D ≡ d + e → (a : LinearForm) → ProperForm n D a → OneValue w u b c d a a
  one-agree d D is a h ks len = proper-agree (at w (ks ++ b)) (at u (ks ++ c)) n D (under ks D (omega (arith, is, len))) a h

  forms-agree : (d D : ℕ) → D ≡ d + e → (fs : List LinearForm) → ProperForms n D fs → FormsAlike w u b c d fs fs
  forms-agree d D is [] h = tt
  forms-agree d D is (f ∷ fs) h = (one-agree d D is f (h.0), forms-agree d D is fs (h.1))

  pub limits-agree : (d D : ℕ) → D ≡ d + e → (ls : List Limit) → ProperLimits n D ls → LimitsAlike w u b c d ls ls
  limits-agree d D is [] h = tt
  limits-agree d D is (l ∷ ls) h = ((one-agree d D is (l.left) ((h.0).0), refl, one-agree d D is (l.right) ((h.0).1)), limits-agree d D is ls (h.1))

  module _ (protos : List Proto) where
    mutual
      pub shape-agree : (d D : ℕ) → D ≡ d + e → (s : Shape) → ProperShape protos n D s → ShapeAlike w u b c d s s
      shape-agree d D is shape.Unit h = tt
      shape-agree d D is (Int f) h = one-agree d D is f h
      shape-agree d D is (End f) h = (refl, refl, forms-agree d D is (f.args) (h.0))
      shape-agree d D is (Pair r s) h = (res-agree d D is r (h.0), res-agree d D is s (h.1))
      shape-agree d D is (Sum rs) h = resources-agree d D is rs h

      pub res-agree : (d D : ℕ) → D ≡ d + e → (r : Res) → ProperRes protos n D r → ResAlike w u b c d r r
      res-agree d D is (Binds k limits s) h = (refl, limits-agree (k + d) (k + D) (omega (arith, is)) limits (h.0), shape-agree (k + d) (k + D) (omega (arith, is)) s (h.1))

      pub resources-agree : (d D : ℕ) → D ≡ d + e → (rs : Resources) → ProperResources protos n D rs → ResourcesAlike w u b c d rs rs
      resources-agree d D is NoMore h = tt
      resources-agree d D is (More r rs) h = (res-agree d D is r (h.0), resources-agree d D is rs (h.1))

-- ---- instances put in

module _ (w : ℕ → ℤ) (n : ℕ) (insts : List LinearForm) (insts_proper : ProperForms n 0 insts) where
  -- what the instances are worth
  abbrev pub worths : List ℤ
  worths = map (form_at (at w [])) insts

  free_only : (c : List ℤ) (v : Var) → ProperVar n 0 v → at w c v ≡ at w [] v
  free_only c (Free i) h = refl
  free_only c (Inside i) h = absurd (omega arith)

  got-at : (c : List ℤ) (fs : List LinearForm) → ProperForms n 0 fs → (i : ℕ) (other : LinearForm) → i < length fs → form_at (at w c) (unwrap_or (slice_get fs i) other) ≡ integer_at (map (form_at (at w [])) fs) i
  got-at c [] h i other le = absurd (omega arith)
  got-at c (f ∷ fs) h zero other le = proper-agree (at w c) (at w []) n 0 (free_only c) f (h.0)
  got-at c (f ∷ fs) h (suc i) other le = got-at c fs (h.1) i other (omega arith)

  instance-at : (ks : List ℤ) (d D : ℕ) → length ks ≡ d → D ≡ d + length insts → (v : Var) → ProperVar n D v → form_at (at w (ks ++ [])) (instance_for insts d v) ≡ at w (ks ++ worths) v
  instance-at ks d D len is (Free i) h = variable-at (at w (ks ++ [])) (Free i)
  instance-at ks d D len is (Inside i) h = go (nat_lt i d) refl
    where
      go : (b : Bool) → nat_lt i d ≡ b → form_at (at w (ks ++ [])) (if b then variable_form (Inside i) else unwrap_or (slice_get insts (i - d)) (variable_form (Inside i))) ≡ integer_at (ks ++ worths) i
      go true f = variable-at (at w (ks ++ [])) (Inside i) ∙ low_values ks [] i (omega (arith, ltb-true i d f, len)) ∙ sym (low_values ks worths i (omega (arith, ltb-true i d f, len)))
      go false f = got-at (ks ++ []) insts insts_proper (i - d) (variable_form (Inside i)) (omega (arith, ltb-false i d f, is, h)) ∙ sym (high ks worths (i - d) i (omega (arith, ltb-false i d f, len)))

  pub one-open : (d D : ℕ) → D ≡ d + length insts → (a : LinearForm) → ProperForm n D a → OneValue w w [] worths d (form_with insts d a) a
  one-open d D is a h ks len = put-at (at w (ks ++ [])) (instance_for insts d) a ∙ proper-agree _ (at w (ks ++ worths)) n D (instance-at ks d D len is) a h

  pub forms-open : (d D : ℕ) → D ≡ d + length insts → (fs : List LinearForm) → ProperForms n D fs → FormsAlike w w [] worths d (map (form_with insts d) fs) fs
  forms-open d D is [] h = tt
  forms-open d D is (f ∷ fs) h = (one-open d D is f (h.0), forms-open d D is fs (h.1))

  pub limits-open : (d D : ℕ) → D ≡ d + length insts → (ls : List Limit) → ProperLimits n D ls → LimitsAlike w w [] worths d (map (limit_with insts d) ls) ls
  limits-open d D is [] h = tt
  limits-open d D is (l ∷ ls) h = ((one-open d D is (l.left) ((h.0).0), refl, one-open d D is (l.right) ((h.0).1)), limits-open d D is ls (h.1))

  module _ (protos : List Proto) where
    mutual
      pub shape-open : (d D : ℕ) → D ≡ d + length insts → (s : Shape) → ProperShape protos n D s → ShapeAlike w w [] worths d (shape_with insts d s) s
      shape-open d D is shape.Unit h = tt
      shape-open d D is (Int f) h = one-open d D is f h
      shape-open d D is (End f) h = (refl, refl, forms-open d D is (f.args) (h.0))
      shape-open d D is (Pair r s) h = (res-open d D is r (h.0), res-open d D is s (h.1))
      shape-open d D is (Sum rs) h = resources-open d D is rs h

      pub res-open : (d D : ℕ) → D ≡ d + length insts → (r : Res) → ProperRes protos n D r → ResAlike w w [] worths d (res_with insts d r) r
      res-open d D is (Binds k limits s) h = (refl, limits-open (k + d) (k + D) (omega (arith, is)) limits (h.0), shape-open (k + d) (k + D) (omega (arith, is)) s (h.1))

      pub resources-open : (d D : ℕ) → D ≡ d + length insts → (rs : Resources) → ProperResources protos n D rs → ResourcesAlike w w [] worths d (resources_with insts d rs) rs
      resources-open d D is NoMore h = tt
      resources-open d D is (More r rs) h = (res-open d D is r (h.0), resources-open d D is rs (h.1))

-- ---- shapes that are read

-- what a name has: a binder around, or an integer variable
abbrev pub tail_of : List ℤ → List ℤ
tail_of [] = []
tail_of (k ∷ ks) = ks

abbrev pub int_named : (ℕ → ℤ) → Option ℕ → ℤ
int_named w None = pos 0
int_named w (Some i) = w i

abbrev pub value_named : (ℕ → ℤ) → (ints around : List Ident) → List ℤ → Ident → ℤ
value_named w ints [] bs x = int_named w (place_of ints x)
value_named w ints (y ∷ ys) bs x = if same y x then integer_at bs 0 else value_named w ints ys (tail_of bs) x

tail-at : (bs : List ℤ) (i : ℕ) → integer_at bs (suc i) ≡ integer_at (tail_of bs) i
tail-at [] i = refl
tail-at (k ∷ ks) i = refl

pub named-at : (w : ℕ → ℤ) (ints around : List Ident) (bs : List ℤ) (x : Ident) → form_at (at w bs) (named_form ints around x) ≡ value_named w ints around bs x
named-at w ints [] bs x = go (place_of ints x)
  where
    go : (o : Option ℕ) → form_at (at w bs) (at_place o (constant_form (pos 0)) Free) ≡ int_named w o
    go None = constant-at (at w bs) (pos 0)
    go (Some i) = variable-at (at w bs) (Free i)
named-at w ints (y ∷ ys) bs x = go (same y x) (place_of ys x) (named-at w ints ys (tail_of bs) x)
  where
    go : (b : Bool) (o : Option ℕ) → form_at (at w (tail_of bs)) (at_place o (at_place (place_of ints x) (constant_form (pos 0)) Free) Inside) ≡ value_named w ints ys (tail_of bs) x
        → form_at (at w bs) (at_place (if b then Some 0 else option_map suc o) (at_place (place_of ints x) (constant_form (pos 0)) Free) Inside) ≡ (if b then integer_at bs 0 else value_named w ints ys (tail_of bs) x)
    go true o ih = variable-at (at w bs) (Inside 0)
    go false (Some i) ih = variable-at (at w bs) (Inside (suc i)) ∙ tail-at bs i ∙ sym (variable-at (at w (tail_of bs)) (Inside i)) ∙ ih
    go false None ih = other (place_of ints x) ih
      where
        other : (o : Option ℕ) → form_at (at w (tail_of bs)) (at_place o (constant_form (pos 0)) Free) ≡ value_named w ints ys (tail_of bs) x → form_at (at w bs) (at_place o (constant_form (pos 0)) Free) ≡ value_named w ints ys (tail_of bs) x
        other None ih = constant-at (at w bs) (pos 0) ∙ sym (constant-at (at w (tail_of bs)) (pos 0)) ∙ ih
        other (Some i) ih = variable-at (at w bs) (Free i) ∙ sym (variable-at (at w (tail_of bs)) (Free i)) ∙ ih

module _ (w u : ℕ → ℤ) (ints ints' A A' : List Ident) (b c : List ℤ) (base : (x : Ident) → value_named w ints A b x ≡ value_named u ints' A' c x) where
  names-under : (ns : List Ident) (ks : List ℤ) → length ks ≡ length ns → (x : Ident) → value_named w ints (ns ++ A) (ks ++ b) x ≡ value_named u ints' (ns ++ A') (ks ++ c) x
  names-under [] [] len x = base x
  names-under [] (k ∷ ks) len x = absurd (omega (arith, len))
  names-under (n ∷ ns) [] len x = absurd (omega (arith, len))
  names-under (n ∷ ns) (k ∷ ks) len x = ap (λ z. if same n x then k else z) (names-under ns ks (omega (arith, len)) x)

  one-like : (ns : List Ident) (t : Term) → OneValue w u b c (length ns) (nameless_term ints (ns ++ A) t) (nameless_term ints' (ns ++ A') t)
  one-like ns t ks len = term-agree (at w (ks ++ b)) (at u (ks ++ c)) (named_form ints (ns ++ A)) (named_form ints' (ns ++ A')) (λ x. named-at w ints (ns ++ A) (ks ++ b) x ∙ names-under ns ks len x ∙ sym (named-at u ints' (ns ++ A') (ks ++ c) x)) t

  terms-like : (ns : List Ident) (ts : List Term) → FormsAlike w u b c (length ns) (map (nameless_term ints (ns ++ A)) ts) (map (nameless_term ints' (ns ++ A')) ts)
  terms-like ns [] = tt
  terms-like ns (t ∷ ts) = (one-like ns t, terms-like ns ts)

  pub limits-like : (ns : List Ident) (ls : List WrittenLimit) → LimitsAlike w u b c (length ns) (map (nameless_limit ints (ns ++ A)) ls) (map (nameless_limit ints' (ns ++ A')) ls)
  limits-like ns [] = tt
  limits-like ns (l ∷ ls) = ((one-like ns (l.left), refl, one-like ns (l.right)), limits-like ns ls)

  mutual
    pub shape-like : (ns : List Ident) (s : written.Shape) → ShapeAlike w u b c (length ns) (nameless_shape ints (ns ++ A) s) (nameless_shape ints' (ns ++ A') s)
    shape-like ns written.Unit = tt
    shape-like ns (written.Int t) = one-like ns t
    shape-like ns (written.End ref) = (refl, refl, terms-like ns (ref.args))
    shape-like ns (written.Pair r s) = (res-like ns r, res-like ns s)
    shape-like ns (written.Sum rs) = resources-like ns rs

    pub res-like : (ns : List Ident) (r : written.Res) → ResAlike w u b c (length ns) (nameless_res ints (ns ++ A) r) (nameless_res ints' (ns ++ A') r)
    res-like ns (written.Binds d s) = (refl, rw (← length-append (d.names) ns, ← append_assoc (d.names) ns A, ← append_assoc (d.names) ns A') (limits-like (d.names ++ ns) (d.limits)), rw (← length-append (d.names) ns, ← append_assoc (d.names) ns A, ← append_assoc (d.names) ns A') (shape-like (d.names ++ ns) s))

    pub resources-like : (ns : List Ident) (rs : written.Resources) → ResourcesAlike w u b c (length ns) (nameless_resources ints (ns ++ A) rs) (nameless_resources ints' (ns ++ A') rs)
    resources-like ns written.NoMore = tt
    resources-like ns (written.More r rs) = (res-like ns r, resources-like ns rs)
