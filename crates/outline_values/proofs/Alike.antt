-- Shapes that are alike have the same values.
use Rattle.std.proofs.Common.{◌≡◌, ℕ, zero, suc, ◌+◌, ◌≤◌, ◌<◌, ℤ, List, [], ◌∷◌, ◌++◌, map, length, length-append, append_assoc, Option, Some, None, refl, ap, sym, subst, ◌∙◌, arith, pos, ◌+ℤ◌, ◌≤ℤ◌}
use Rattle.core_language.specs.Names.{Name}
use Rattle.core_language.specs.Terms.{Relation}
use Rattle.core_language.specs.Values.{Value}
use Rattle.core_language.specs.Values as value
use Rattle.outline_language.specs.LinearForms.{Var, Free, Inside, LinearForm, form_at}
use Rattle.outline_language.specs.Nameless.{Ref, Limit, Shape, Res, Resources, Int, End, Pair, Sum, Binds, NoMore, More}
use Rattle.outline_language.specs.Nameless as shape
use Rattle.good_configurations.specs.Ends.{at, concrete}
use Rattle.outline_language.specs.Equations.{Concrete}
use Rattle.good_configurations.specs.Values.{Use, InRelation, Keeps, KeepsAll, Has, HasShape, HasArm}

-- under so many binders the first form has at w and b the value that the second has at u and c
module _ (w u : ℕ → ℤ) (b c : List ℤ) where
  abbrev pub OneValue : ℕ → LinearForm → LinearForm → Type 0
  OneValue d a a' = (ks : List ℤ) → length ks ≡ d → form_at (at w (ks ++ b)) a ≡ form_at (at u (ks ++ c)) a'

  abbrev pub FormsAlike : ℕ → List LinearForm → List LinearForm → Type 0
  FormsAlike d [] [] = Unit {0}
  FormsAlike d [] (a' ∷ gs) = ⊥
  FormsAlike d (a ∷ fs) [] = ⊥
  FormsAlike d (a ∷ fs) (a' ∷ gs) = OneValue d a a' × FormsAlike d fs gs

  abbrev pub LimitsAlike : ℕ → List Limit → List Limit → Type 0
  LimitsAlike d [] [] = Unit {0}
  LimitsAlike d [] (m ∷ ms) = ⊥
  LimitsAlike d (l ∷ ls) [] = ⊥
  LimitsAlike d (l ∷ ls) (m ∷ ms) = (OneValue d l.left m.left × (l.relation ≡ m.relation) × OneValue d l.right m.right) × LimitsAlike d ls ms

  abbrev pub RefAlike : ℕ → Ref → Ref → Type 0
  RefAlike d e f = (e.dual ≡ f.dual) × (e.name ≡ f.name) × FormsAlike d e.args f.args

  abbrev mutual
    pub ShapeAlike : ℕ → Shape → Shape → Type 0
    ShapeAlike d shape.Unit shape.Unit = Unit {0}
    ShapeAlike d (Int a) (Int a') = OneValue d a a'
    ShapeAlike d (End e) (End f) = RefAlike d e f
    ShapeAlike d (Pair r s) (Pair r' s') = ResAlike d r r' × ResAlike d s s'
    ShapeAlike d (Sum rs) (Sum rs') = ResourcesAlike d rs rs'
    ShapeAlike d _ _ = ⊥

    pub ResAlike : ℕ → Res → Res → Type 0
    ResAlike d (Binds n limits s) (Binds m others t) = (n ≡ m) × LimitsAlike (n + d) limits others × ShapeAlike (n + d) s t

    pub ResourcesAlike : ℕ → Resources → Resources → Type 0
    ResourcesAlike d NoMore NoMore = Unit {0}
    ResourcesAlike d (More r rs) (More s ss) = ResAlike d r s × ResourcesAlike d rs ss
    ResourcesAlike d _ _ = ⊥

module _ (w u : ℕ → ℤ) (b c : List ℤ) where
  pub forms-alike : (d : ℕ) (fs gs : List LinearForm) (ks : List ℤ) → length ks ≡ d → FormsAlike w u b c d fs gs → map (form_at (at w (ks ++ b))) fs ≡ map (form_at (at u (ks ++ c))) gs
  forms-alike d [] [] ks len h = refl
  forms-alike d [] (a' ∷ gs) ks len h = absurd h
  forms-alike d (a ∷ fs) [] ks len h = absurd h
  forms-alike d (a ∷ fs) (a' ∷ gs) ks len h = joined (h.0 ks len) (forms-alike d fs gs ks len (h.1))
    where
      joined : {x y : ℤ} {xs ys : List ℤ} → x ≡ y → xs ≡ ys → x ∷ xs ≡ y ∷ ys
      joined p q = λ i. p i ∷ q i

  pub concrete-alike : (d : ℕ) (e f : Ref) (ks : List ℤ) → length ks ≡ d → RefAlike w u b c d e f → concrete (at w (ks ++ b)) e ≡ concrete (at u (ks ++ c)) f
  concrete-alike d e f ks len (p, q, r) = let s = forms-alike d (e.args) (f.args) ks len r in λ i. record { dual = p i; name = q i; args = s i }

  pub keeps-alike : (d : ℕ) (ls ms : List Limit) (ks : List ℤ) → length ks ≡ d → LimitsAlike w u b c d ls ms → KeepsAll (at w (ks ++ b)) ls → KeepsAll (at u (ks ++ c)) ms
  keeps-alike d [] [] ks len h k = tt
  keeps-alike d [] (m ∷ ms) ks len h k = absurd h
  keeps-alike d (l ∷ ls) [] ks len h k = absurd h
  keeps-alike d (l ∷ ls) (m ∷ ms) ks len ((p, q, r), h) (k, rest) = (
    subst (λ z. InRelation z (form_at (at u (ks ++ c)) (m.left)) (form_at (at u (ks ++ c)) (m.right))) q
        (subst (λ z. InRelation (l.relation) z (form_at (at u (ks ++ c)) (m.right))) (p ks len)
        (subst (λ z. InRelation (l.relation) (form_at (at w (ks ++ b)) (l.left)) z) (r ks len) k)),
    keeps-alike d ls ms ks len h rest,
  )

  mutual
    pub has_shape-alike : (d : ℕ) (s t : Shape) (ks : List ℤ) → length ks ≡ d → ShapeAlike w u b c d s t → (v : Value) (us : List Use) → HasShape w (ks ++ b) s v us → HasShape u (ks ++ c) t v us
    has_shape-alike d shape.Unit shape.Unit ks len h v us has = has
    has_shape-alike d (Int a) (Int a') ks len h v us (is, none) = (is ∙ ap value.Int (h ks len), none)
    has_shape-alike d (End e) (End f) ks len h v us (n, is, its) = (n, is, its ∙ ap (λ z. (n, z) ∷ []) (concrete-alike d e f ks len h))
    has_shape-alike d (Pair r s) (Pair r' s') ks len h v us (a, a', vs, ws, is, split, first, second) =
        (a, a', vs, ws, is, split, has-alike d r r' ks len (h.0) a vs first, has-alike d s s' ks len (h.1) a' ws second)
    has_shape-alike d (Sum rs) (Sum rs') ks len h v us (i, a, is, arm) = (i, a, is, has_arm-alike d rs rs' ks len h i a us arm)
    has_shape-alike d shape.Unit (Int a') ks len h v us has = absurd h
    has_shape-alike d shape.Unit (End f) ks len h v us has = absurd h
    has_shape-alike d shape.Unit (Pair r' s') ks len h v us has = absurd h
    has_shape-alike d shape.Unit (Sum rs') ks len h v us has = absurd h
    has_shape-alike d (Int a) shape.Unit ks len h v us has = absurd h
    has_shape-alike d (Int a) (End f) ks len h v us has = absurd h
    has_shape-alike d (Int a) (Pair r' s') ks len h v us has = absurd h
    has_shape-alike d (Int a) (Sum rs') ks len h v us has = absurd h
    has_shape-alike d (End e) shape.Unit ks len h v us has = absurd h
    has_shape-alike d (End e) (Int a') ks len h v us has = absurd h
    has_shape-alike d (End e) (Pair r' s') ks len h v us has = absurd h
    has_shape-alike d (End e) (Sum rs') ks len h v us has = absurd h
    has_shape-alike d (Pair r s) shape.Unit ks len h v us has = absurd h
    has_shape-alike d (Pair r s) (Int a') ks len h v us has = absurd h
    has_shape-alike d (Pair r s) (End f) ks len h v us has = absurd h
    has_shape-alike d (Pair r s) (Sum rs') ks len h v us has = absurd h
    has_shape-alike d (Sum rs) shape.Unit ks len h v us has = absurd h
    has_shape-alike d (Sum rs) (Int a') ks len h v us has = absurd h
    has_shape-alike d (Sum rs) (End f) ks len h v us has = absurd h
    has_shape-alike d (Sum rs) (Pair r' s') ks len h v us has = absurd h

    pub has-alike : (d : ℕ) (r s : Res) (ks : List ℤ) → length ks ≡ d → ResAlike w u b c d r s → (v : Value) (us : List Use) → Has w (ks ++ b) r v us → Has u (ks ++ c) s v us
    has-alike d (Binds n limits s) (Binds m others t) ks len (same, ls, ss) v us (js, count, keeps, has) = (
      js,
      count ∙ same,
      subst (λ z. KeepsAll (at u z) others) (append_assoc js ks c) (keeps-alike (n + d) limits others (js ++ ks) longer ls (subst (λ z. KeepsAll (at w z) limits) (sym (append_assoc js ks b)) keeps)),
      subst (λ z. HasShape u z t v us) (append_assoc js ks c) (has_shape-alike (n + d) s t (js ++ ks) longer ss v us (subst (λ z. HasShape w z s v us) (sym (append_assoc js ks b)) has)),
    )
      where
        longer : length (js ++ ks) ≡ n + d
        longer = length-append js ks ∙ omega (arith, count, len)

    pub has_arm-alike : (d : ℕ) (rs ss : Resources) (ks : List ℤ) → length ks ≡ d → ResourcesAlike w u b c d rs ss → (i : ℕ) (v : Value) (us : List Use) → HasArm w (ks ++ b) rs i v us → HasArm u (ks ++ c) ss i v us
    has_arm-alike d NoMore NoMore ks len h i v us has = has
    has_arm-alike d NoMore (More s ss) ks len h i v us has = absurd h
    has_arm-alike d (More r rs) NoMore ks len h i v us has = absurd h
    has_arm-alike d (More r rs) (More s ss) ks len h zero v us has = has-alike d r s ks len (h.0) v us has
    has_arm-alike d (More r rs) (More s ss) ks len h (suc i) v us has = has_arm-alike d rs ss ks len (h.1) i v us has

-- the other way round
module _ (w u : ℕ → ℤ) (b c : List ℤ) where
  forms-turned : (d : ℕ) (fs gs : List LinearForm) → FormsAlike w u b c d fs gs → FormsAlike u w c b d gs fs
  forms-turned d [] [] h = tt
  forms-turned d [] (a' ∷ gs) h = absurd h
  forms-turned d (a ∷ fs) [] h = absurd h
  forms-turned d (a ∷ fs) (a' ∷ gs) (h, hs) = (λ ks len. sym (h ks len), forms-turned d fs gs hs)

  pub limits-turned : (d : ℕ) (ls ms : List Limit) → LimitsAlike w u b c d ls ms → LimitsAlike u w c b d ms ls
  limits-turned d [] [] h = tt
  limits-turned d [] (m ∷ ms) h = absurd h
  limits-turned d (l ∷ ls) [] h = absurd h
  limits-turned d (l ∷ ls) (m ∷ ms) ((p, q, r), h) = ((λ ks len. sym (p ks len), sym q, λ ks len. sym (r ks len)), limits-turned d ls ms h)

  mutual
    pub shape-turned : (d : ℕ) (s t : Shape) → ShapeAlike w u b c d s t → ShapeAlike u w c b d t s
    shape-turned d shape.Unit shape.Unit h = tt
    shape-turned d (Int a) (Int a') h = λ ks len. sym (h ks len)
    shape-turned d (End e) (End f) (p, q, r) = (sym p, sym q, forms-turned d (e.args) (f.args) r)
    shape-turned d (Pair r s) (Pair r' s') h = (res-turned d r r' (h.0), res-turned d s s' (h.1))
    shape-turned d (Sum rs) (Sum rs') h = resources-turned d rs rs' h
    shape-turned d shape.Unit (Int a') h = absurd h
    shape-turned d shape.Unit (End f) h = absurd h
    shape-turned d shape.Unit (Pair r' s') h = absurd h
    shape-turned d shape.Unit (Sum rs') h = absurd h
    shape-turned d (Int a) shape.Unit h = absurd h
    shape-turned d (Int a) (End f) h = absurd h
    shape-turned d (Int a) (Pair r' s') h = absurd h
    shape-turned d (Int a) (Sum rs') h = absurd h
    shape-turned d (End e) shape.Unit h = absurd h
    shape-turned d (End e) (Int a') h = absurd h
    shape-turned d (End e) (Pair r' s') h = absurd h
    shape-turned d (End e) (Sum rs') h = absurd h
    shape-turned d (Pair r s) shape.Unit h = absurd h
    shape-turned d (Pair r s) (Int a') h = absurd h
    shape-turned d (Pair r s) (End f) h = absurd h
    shape-turned d (Pair r s) (Sum rs') h = absurd h
    shape-turned d (Sum rs) shape.Unit h = absurd h
    shape-turned d (Sum rs) (Int a') h = absurd h
    shape-turned d (Sum rs) (End f) h = absurd h
    shape-turned d (Sum rs) (Pair r' s') h = absurd h

    pub res-turned : (d : ℕ) (r s : Res) → ResAlike w u b c d r s → ResAlike u w c b d s r
    res-turned d (Binds n limits s) (Binds m others t) (same, ls, ss) =
        (sym same, subst (λ z. LimitsAlike u w c b (z + d) others limits) same (limits-turned (n + d) limits others ls), subst (λ z. ShapeAlike u w c b (z + d) t s) same (shape-turned (n + d) s t ss))

    pub resources-turned : (d : ℕ) (rs ss : Resources) → ResourcesAlike w u b c d rs ss → ResourcesAlike u w c b d ss rs
    resources-turned d NoMore NoMore h = tt
    resources-turned d NoMore (More s ss) h = absurd h
    resources-turned d (More r rs) NoMore h = absurd h
    resources-turned d (More r rs) (More s ss) h = (res-turned d r s (h.0), resources-turned d rs ss (h.1))
