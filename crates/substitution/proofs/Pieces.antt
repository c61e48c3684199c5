-- What stands in a text, of resources and of what they hold.
use Rattle.std.proofs.Common.{◌≡◌, ℕ, ◌+◌, ◌<◌, List, [], ◌∷◌, ◌++◌, flat_map, take, get_or, length, refl, sym, ◌∙◌, ap, subst}
use denote.Hole.Carrier.{hidden}
use mathlib.Core.Former.{this, list_count, list_put}
use mathlib.Core.List.{map}
use Rattle.std.proofs.lemmas.List.{map-append, append-nil}
use Rattle.std.proofs.lemmas.List.Concat.{flat_map-append}
use Rattle.core_language.specs.Names.{Ident}
use Rattle.linear_forms.specs.Substitution.{Each}
use Rattle.chan_syntax.specs.declared.linear.Bound.{Bound}
use Rattle.chan_syntax.specs.declared.resources.Shape.{Shape}
use Rattle.chan_syntax.specs.declared.resources.Res.{Res}
use Rattle.chan_syntax.specs.declared.resources.Shape.TheVariants as shape
use Rattle.chan_syntax.specs.declared.resources.Shape.TheBlock.{hidden-the_row-Res-0, hidden-the_row-Res-1, back-the_row-Res}
use Rattle.substitution.specs.declared.scope.Binder.{Binder}
use Rattle.substitution.specs.declared.scope.Put.{Put}
use Rattle.substitution.specs.Places.{IsPlaced, pieces_of_limit, pieces_of_bound, pieces_of_shape, pieces_in, pieces_of_res}
use Rattle.substitution.specs.Scopes.{before_of, after_of}
use Rattle.substitution.proofs.Lists.{flat_taken}

pub pieces_pair : (binders : List Ident) (a b : Res) → pieces_of_shape binders (shape.Pair a b) ≡ pieces_of_res binders a ++ pieces_of_res binders b
unfolding hidden hidden-the_row-Res-0
pieces_pair binders a b =
    ap (λ l. l ++ (pieces_of_res binders b ++ [])) (append-nil (pieces_of_res binders a)) ∙ ap (λ l. pieces_of_res binders a ++ l) (append-nil (pieces_of_res binders b))

rows : (binders : List Ident) (rs : List Res) → pieces_in binders (back-the_row-Res (list_count (this {0}) (map ((this {0}).shape Res) rs) 0) (list_put (this {0}) Res rs 0 (tt {0}))) ≡ flat_map (pieces_of_res binders) rs
rows binders [] = refl
rows binders (r ∷ rs) = ap (λ l. pieces_of_res binders r ++ l) (rows binders rs)

pub pieces_sum : (binders : List Ident) (rs : List Res) → pieces_of_shape binders (shape.Sum rs) ≡ flat_map (pieces_of_res binders) rs
unfolding hidden hidden-the_row-Res-1
pieces_sum binders rs = rows binders rs

-- ---- two lists, item by item

pub each_append : {X : Type 0} (R : X → X → Type 0) (xs ys us vs : List X) → Each R xs ys → Each R us vs → Each R (xs ++ us) (ys ++ vs)
each_append R [] [] us vs e f = f
each_append R [] (y ∷ ys) us vs e f = absurd e
each_append R (x ∷ xs) [] us vs e f = absurd e
each_append R (x ∷ xs) (y ∷ ys) us vs e f = (e.0, each_append R xs ys us vs e.1 f)

-- as both grow by what one more holds
pub each_flat_next : {X Z : Type 0} (R : Z → Z → Type 0) (f g : X → List Z) (xs : List X) (i : ℕ) (x : X) (ys : List X) (y : X) → i < length xs → get_or xs i x ≡ x → Each R (flat_map f (take i xs)) (flat_map g ys) → Each R (f x) (g y) → Each R (flat_map f (take (i + 1) xs)) (flat_map g (ys ++ y ∷ []))
each_flat_next R f g xs i x ys y l e h r =
    let right : flat_map g (ys ++ y ∷ []) ≡ flat_map g ys ++ g y = flat_map-append g ys (y ∷ []) ∙ ap (λ l. flat_map g ys ++ l) (append-nil (g y)) in
    rw (flat_taken f xs i x l e, right) (each_append R (flat_map f (take i xs)) (flat_map g ys) (f x) (g y) h r)

module _ (put : List Put) (before after : List Ident) (x y : Shape) where
  pub pair_placed : (a b c d : Res) → x ≡ shape.Pair a b → y ≡ shape.Pair c d → Each (IsPlaced put) (pieces_of_res before a) (pieces_of_res after c) → Each (IsPlaced put) (pieces_of_res before b) (pieces_of_res after d) → Each (IsPlaced put) (pieces_of_shape before x) (pieces_of_shape after y)
  pair_placed a b c d left right first second =
      rw (left, right, pieces_pair before a b, pieces_pair after c d) (each_append (IsPlaced put) (pieces_of_res before a) (pieces_of_res after c) (pieces_of_res before b) (pieces_of_res after d) first second)

  pub sum_placed : (rs ss : List Res) → x ≡ shape.Sum rs → y ≡ shape.Sum ss → Each (IsPlaced put) (flat_map (pieces_of_res before) rs) (flat_map (pieces_of_res after) ss) → Each (IsPlaced put) (pieces_of_shape before x) (pieces_of_shape after y)
  sum_placed rs ss left right each = rw (left, right, pieces_sum before rs, pieces_sum after ss) each

pub placed_same : (put : List Put) (before after : List Ident) (r s u v : Res) → r ≡ s → u ≡ v → Each (IsPlaced put) (pieces_of_res before r) (pieces_of_res after v) → Each (IsPlaced put) (pieces_of_res before s) (pieces_of_res after u)
placed_same put before after r s u v e d each =
    subst (λ (x : Res). Each (IsPlaced put) (pieces_of_res before s) (pieces_of_res after x)) (sym d) (subst (λ (x : Res). Each (IsPlaced put) (pieces_of_res before x) (pieces_of_res after v)) e each)

-- a resource under a scope, whose own binders stand before those of the scope
pub res_placed : (put : List Put) (scope group joined : List Binder) (b c : Bound) (x y : Shape) → before_of group ≡ b.names → joined ≡ group ++ scope → c.names ≡ after_of group → c.names_spans ≡ b.names_spans
    → Each (IsPlaced put) (flat_map (pieces_of_limit (before_of joined)) b.limits) (flat_map (pieces_of_limit (after_of joined)) c.limits)
    → Each (IsPlaced put) (pieces_of_shape (before_of joined) x) (pieces_of_shape (after_of joined) y)
    → Each (IsPlaced put) (pieces_of_bound (before_of scope) b ++ pieces_of_shape (b.names ++ before_of scope) x) (pieces_of_bound (after_of scope) c ++ pieces_of_shape (c.names ++ after_of scope) y)
res_placed put scope group joined b c x y names all made spans limits shape = (
  spans,
  each_append (IsPlaced put)
      (flat_map (pieces_of_limit (b.names ++ before_of scope)) b.limits) (flat_map (pieces_of_limit (c.names ++ after_of scope)) c.limits)
      (pieces_of_shape (b.names ++ before_of scope) x) (pieces_of_shape (c.names ++ after_of scope) y)
      (subst (λ l. Each (IsPlaced put) (flat_map (pieces_of_limit l) b.limits) (flat_map (pieces_of_limit (c.names ++ after_of scope)) c.limits)) before
      (subst (λ l. Each (IsPlaced put) (flat_map (pieces_of_limit (before_of joined)) b.limits) (flat_map (pieces_of_limit l) c.limits)) after limits))
      (subst (λ l. Each (IsPlaced put) (pieces_of_shape l x) (pieces_of_shape (c.names ++ after_of scope) y)) before
      (subst (λ l. Each (IsPlaced put) (pieces_of_shape (before_of joined) x) (pieces_of_shape l y)) after shape)),
)
  where
    before : before_of joined ≡ b.names ++ before_of scope
    before = ap before_of all ∙ map-append (λ (x : Binder). x.name) group scope ∙ ap (λ l. l ++ before_of scope) names

    after : after_of joined ≡ c.names ++ after_of scope
    after = ap after_of all ∙ map-append (λ (x : Binder). x.made) group scope ∙ ap (λ l. l ++ after_of scope) (sym made)
