-- A resource under the binders around it, and what is inside under its own as well.
use Rattle.std.proofs.Common.{◌≡◌, ℕ, ◌≤◌, List, ◌++◌, All, flat_map, length, take, sym, ◌∙◌, ap, subst, arith}
use Rattle.std.proofs.lemmas.List.{map-append, length-map, length-append, take_at}
use Rattle.core_language.specs.Names.{Ident}
use Rattle.core_language.specs.Terms.{Bound}
use Rattle.core_language.specs.Resources.{Shape, Binds}
use Rattle.linear_forms.specs.Terms.{IntVar}
use Rattle.linear_forms.specs.Substitution.{Scoped, scoped, puts, terms_of_limit, terms_of_shape, terms_of_res, Fits, AllFit, Each, IsRenamed, IsNormalPut, IsLimitLike, IsShapeLike, IsResLike}
use Rattle.linear_forms.specs.Replacing.{IsShortLimit, IsShortRes, ArePutShort, AreSafe, IsLonger, IsReadyLimit, FitsLimit}
use Rattle.linear_forms.proofs.Places.{safe_for}
use Rattle.linear_forms.proofs.Rebuilt.{none_left, none_right, safe_join, ready_limits, fit_limits}
use Rattle.linear_forms.proofs.NewNames.{all_renamed}
use Rattle.linear_forms.proofs.Shorts.{all_left, all_right}
use Rattle.substitution.specs.declared.scope.Binder.{Binder}
use Rattle.substitution.specs.Scopes.{before_of, after_of}

-- the scope inside begins with the resource's own binders
module _ (scope group joined : List Binder) (b : Bound) (names : before_of group ≡ b.names) (all : joined ≡ group ++ scope) where
  as_many : length group ≡ length b.names
  as_many = sym (length-map group (λ (x : Binder). x.name)) ∙ ap length names

  pub held_by_joined : length b.names ≤ length joined
  held_by_joined = rw all (omega (arith, as_many, length-append group scope))

  pub made_of_group : after_of (take (length b.names) joined) ≡ after_of group
  made_of_group = ap after_of (ap (take (length b.names)) all ∙ take_at group scope (length b.names) as_many)

module _ (most : ℕ) (put : List IntVar) (scope group joined : List Binder) (b : Bound) (s : Shape) (names : before_of group ≡ b.names) (all : joined ≡ group ++ scope) where
  abbrev whole : List Scoped
  whole = terms_of_res (before_of scope) (Binds b s)

  abbrev in_limits : List Ident → List Scoped
  in_limits binders = scoped binders (flat_map terms_of_limit b.limits)

  before : before_of joined ≡ before_of group ++ before_of scope
  before = ap before_of all ∙ map-append (λ (x : Binder). x.name) group scope

  after : after_of joined ≡ after_of group ++ after_of scope
  after = ap after_of all ∙ map-append (λ (x : Binder). x.made) group scope

  inner : b.names ++ before_of scope ≡ before_of joined
  inner = sym (before ∙ ap (λ l. l ++ before_of scope) names)

  abbrev AllSafe : Type 0
  AllSafe = AreSafe most put whole 0 (before_of joined) (after_of joined)

  -- the binders inside are safe for all terms of the resource
  pub scope_safe : AreSafe most put whole (length scope) (before_of group) (after_of group) → AreSafe most put whole 0 (before_of scope) (after_of scope) → AllSafe
  scope_safe own around =
      let here : AreSafe most put whole (length (before_of scope)) (before_of group) (after_of group) = subst (λ (n : ℕ). AreSafe most put whole n (before_of group) (after_of group)) (sym (length-map scope (λ (x : Binder). x.name))) own in
      let both : AreSafe most put whole 0 (before_of group ++ before_of scope) (after_of group ++ after_of scope) = safe_join most put whole (before_of group) (after_of group) (before_of scope) (after_of scope) here around in
      subst (λ (l : List Ident). AreSafe most put whole 0 l (after_of joined)) (sym before) (subst (λ (l : List Ident). AreSafe most put whole 0 (before_of group ++ before_of scope) l) (sym after) both)

  pub limits_ready : AllSafe → ArePutShort most put → All (IsShortLimit most) b.limits → All (IsReadyLimit put (before_of joined) (after_of joined)) b.limits
  limits_ready safe put_short short =
      let outer = b.names ++ before_of scope in
      let own : AreSafe most put (in_limits outer) 0 (before_of joined) (after_of joined) = safe_for most put whole (in_limits outer) 0 (before_of joined) (after_of joined) (λ y. none_left (puts put y) (in_limits outer) (terms_of_shape outer s)) safe in
      ready_limits most put (before_of joined) (after_of joined) put_short b.limits (subst (λ (l : List Ident). AreSafe most put (in_limits l) 0 (before_of joined) (after_of joined)) inner own) short

  pub shape_safe : AllSafe → AreSafe most put (terms_of_shape (before_of joined) s) 0 (before_of joined) (after_of joined)
  shape_safe safe =
      let outer = b.names ++ before_of scope in
      let own : AreSafe most put (terms_of_shape outer s) 0 (before_of joined) (after_of joined) = safe_for most put whole (terms_of_shape outer s) 0 (before_of joined) (after_of joined) (λ y. none_right (puts put y) (in_limits outer) (terms_of_shape outer s)) safe in
      subst (λ (l : List Ident). AreSafe most put (terms_of_shape l s) 0 (before_of joined) (after_of joined)) inner own

  pub limits_too_large : (All (FitsLimit put (before_of joined)) b.limits → ⊥) → AllFit put whole → ⊥
  limits_too_large none fit =
      let outer = b.names ++ before_of scope in
      none (subst (λ (l : List Ident). All (FitsLimit put l) b.limits) inner (fit_limits put outer b.limits (all_left (λ (t : Scoped). Fits put t.binders t.term) (in_limits outer) (terms_of_shape outer s) fit)))

  pub shape_too_large : (AllFit put (terms_of_shape (before_of joined) s) → ⊥) → AllFit put whole → ⊥
  shape_too_large none fit =
      let outer = b.names ++ before_of scope in
      none (subst (λ (l : List Ident). AllFit put (terms_of_shape l s)) inner (all_right (λ (t : Scoped). Fits put t.binders t.term) (in_limits outer) (terms_of_shape outer s) fit))

  -- the resource with its parts put in, whose binders are those of the group
  pub res_like : (c : Bound) (t : Shape) → c.names ≡ after_of group → AllSafe → IsShortRes most (Binds b s) → ArePutShort most put → Each (IsLonger most put (before_of scope) (Binds b s)) b.names (after_of group)
      → Each (IsLimitLike (IsNormalPut put) (before_of joined) (after_of joined)) b.limits c.limits → IsShapeLike (IsRenamed put) (IsNormalPut put) (before_of joined) (after_of joined) s t
      → IsResLike (IsRenamed put) (IsNormalPut put) (before_of scope) (after_of scope) (Binds b s) (Binds c t)
  res_like c t made safe short put_short longer limits shape = (
    subst (λ (l : List Ident). Each (IsRenamed put (before_of scope) (l ++ after_of scope) (Binds b s)) b.names l) (sym made)
        (all_renamed most put whole (before_of scope) (Binds b s) (before_of joined) b.names (after_of group) (after_of scope) (subst (λ (l : List Ident). AreSafe most put whole 0 (before_of joined) l) after safe) short put_short longer),
    subst (λ (l : List Ident). Each (IsLimitLike (IsNormalPut put) l (c.names ++ after_of scope)) b.limits c.limits) (sym inner)
        (subst (λ (l : List Ident). Each (IsLimitLike (IsNormalPut put) (before_of joined) l) b.limits c.limits) outer limits),
    subst (λ (l : List Ident). IsShapeLike (IsRenamed put) (IsNormalPut put) l (c.names ++ after_of scope) s t) (sym inner)
        (subst (λ (l : List Ident). IsShapeLike (IsRenamed put) (IsNormalPut put) (before_of joined) l s t) outer shape),
  )
    where
      outer : after_of joined ≡ c.names ++ after_of scope
      outer = after ∙ ap (λ l. l ++ after_of scope) (sym made)
