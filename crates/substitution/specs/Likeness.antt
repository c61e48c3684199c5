-- What a tree and the same tree with terms put in have to do with each other, in a scope.
use Rattle.std.specs.Prelude.{◌≡◌, ℕ, ℤ, Bool, ◌&&◌, is_none, List, All, map, flat_map, length, Option, Some}
use Rattle.std.specs.List.{list_any}
use Rattle.core_language.specs.Names.{Ident}
use Rattle.core_language.specs.Terms.{Term as Sum}
use Rattle.core_language.specs.Resources as resource
use Rattle.linear_forms.specs.Substitution.{Scoped, Fits, AllFit, Each, IsNormalPut, IsLimitLike, IsRefLike, IsShapeLike, IsResLike, IsRenamed, place_of, put_names, puts, terms_of_shape, terms_of_res}
use Rattle.linear_forms.specs.Replacing.{FitsLimit, AreSafe, IsLonger, replaced_name}
use Rattle.chan_base.specs.declared.spans.Span.{Span}
use Rattle.chan_syntax.specs.Reading.{term_of, limit_of, ref_of, shape_of, res_of}
use Rattle.chan_syntax.specs.declared.linear.Term.{Term}
use Rattle.chan_syntax.specs.declared.linear.Limit.{Limit}
use Rattle.chan_syntax.specs.declared.resources.Ref.{Ref}
use Rattle.chan_syntax.specs.declared.resources.Shape.{Shape}
use Rattle.chan_syntax.specs.declared.resources.Res.{Res}
use Rattle.substitution.specs.declared.faults.SubstFault.{SubstFault}
use Rattle.substitution.specs.declared.faults.SubstFault.TheVariants.{TooLarge}
use Rattle.substitution.specs.declared.scope.Put.{Put}
use Rattle.substitution.specs.declared.scope.Binder.{Binder}
use Rattle.substitution.specs.Places.{Token, Piece, IsPlaced, token_put, pieces_of_limit}
use Rattle.substitution.specs.Scopes.{put_in, before_of, after_of}

module _ (put : List Put) (scope : List Binder) where
  -- the second is the first with the terms put in, in normal form, up to the names of binders
  abbrev pub TermLike : Term → Term → Type 0
  TermLike t u = IsNormalPut (map put_in put) (before_of scope) (after_of scope) (term_of t) (term_of u)

  abbrev pub TermsLike : List Term → List Term → Type 0
  TermsLike ts us = Each (IsNormalPut (map put_in put) (before_of scope) (after_of scope)) (map term_of ts) (map term_of us)

  abbrev pub LimitLike : Limit → Limit → Type 0
  LimitLike l m = IsLimitLike (IsNormalPut (map put_in put)) (before_of scope) (after_of scope) (limit_of l) (limit_of m)

  abbrev pub LimitsLike : List Limit → List Limit → Type 0
  LimitsLike ls ms = Each (IsLimitLike (IsNormalPut (map put_in put)) (before_of scope) (after_of scope)) (map limit_of ls) (map limit_of ms)

  abbrev pub RefLike : Ref → Ref → Type 0
  RefLike e f = IsRefLike (IsNormalPut (map put_in put)) (before_of scope) (after_of scope) (ref_of e) (ref_of f)

  abbrev pub ShapeLike : resource.Shape → Shape → Type 0
  ShapeLike s t = IsShapeLike (IsRenamed (map put_in put)) (IsNormalPut (map put_in put)) (before_of scope) (after_of scope) s (shape_of t)

  abbrev pub ResLike : Res → Res → Type 0
  ResLike r s = IsResLike (IsRenamed (map put_in put)) (IsNormalPut (map put_in put)) (before_of scope) (after_of scope) (res_of r) (res_of s)

  abbrev pub ResourcesLike : List Res → List Res → Type 0
  ResourcesLike rs ss = Each (IsResLike (IsRenamed (map put_in put)) (IsNormalPut (map put_in put)) (before_of scope) (after_of scope)) (map res_of rs) (map res_of ss)

  -- what a name becomes that counts so often
  abbrev pub name_put : ℤ → Ident → Sum
  name_put times x = replaced_name (before_of scope) (after_of scope) (map put_in put) times (Some x)

  -- and the token at its place
  abbrev pub tokens_put : Ident → Option Span → List Token
  tokens_put x place = token_put (before_of scope) (after_of scope) put (record { name = x; place = place })

  -- the name is free, and the term that is put in for it has this other name
  abbrev pub catches_at : Ident → Ident → Bool
  catches_at x name = is_none (place_of (before_of scope) x) && put_names (map put_in put) x name

  -- so for some name of these terms
  abbrev pub puts_below : List Res → Ident → Bool
  puts_below resources x = list_any (puts (map put_in put) x) (flat_map (terms_of_res (before_of scope)) (map res_of resources))

  -- what stands in the text of the first stands at its place in the second
  abbrev pub Keeps : (from to : List Ident → List Piece) → Type 0
  Keeps from to = Each (IsPlaced put) (from (before_of scope)) (to (after_of scope))

  -- 64 bits hold the numbers, with the terms put in
  abbrev pub TermFits : Term → Type 0
  TermFits t = Fits (map put_in put) (before_of scope) (term_of t)

  abbrev pub TermsFit : List Term → Type 0
  TermsFit ts = All (Fits (map put_in put) (before_of scope)) (map term_of ts)

  abbrev pub LimitFits : Limit → Type 0
  LimitFits l = FitsLimit (map put_in put) (before_of scope) (limit_of l)

  abbrev pub LimitsFit : List Limit → Type 0
  LimitsFit ls = All (FitsLimit (map put_in put) (before_of scope)) (map limit_of ls)

  abbrev pub ShapeFits : resource.Shape → Type 0
  ShapeFits s = AllFit (map put_in put) (terms_of_shape (before_of scope) s)

  abbrev pub ResFits : resource.Res → Type 0
  ResFits r = AllFit (map put_in put) (terms_of_res (before_of scope) r)

  abbrev pub ResourcesFit : List Res → Type 0
  ResourcesFit rs = All (λ r. AllFit (map put_in put) (terms_of_res (before_of scope) r)) (map res_of rs)

-- a number of 64 bits is wanting only where it is
abbrev pub IsMisfit : SubstFault → Type 0 → Type 0
IsMisfit fault Fit = fault ≡ TooLarge → Fit → ⊥

abbrev pub pieces_of_limits : List Limit → List Ident → List Piece
pieces_of_limits limits binders = flat_map (pieces_of_limit binders) limits

module _ (longest : ℕ) (put : List Put) (scope : List Binder) where
  -- no name that is put in is caught by a binder of the scope
  abbrev pub AreSafeIn : List Scoped → Type 0
  AreSafeIn terms = AreSafe longest (map put_in put) terms 0 (before_of scope) (after_of scope)

  -- nor by the binders of the resource, in the scope
  abbrev pub AreSafeBelow : resource.Res → List Binder → Type 0
  AreSafeBelow res group = AreSafe longest (map put_in put) (terms_of_res (before_of scope) res) (length scope) (before_of group) (after_of group)

  -- a new name is longer than all names around
  abbrev pub AreLonger : resource.Res → List Ident → List Binder → Type 0
  AreLonger res names group = Each (IsLonger longest (map put_in put) (before_of scope) res) names (after_of group)
