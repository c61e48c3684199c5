-- Resources in which terms are put in for names, up to the names of binders.
use Rattle.std.specs.Prelude.{◌≡◌, ℕ, suc, nat_eq, ℤ, pos, true, false, Bool, ◌&&◌, if◌then◌else◌, List, [], ◌∷◌, ◌++◌, All, map, flat_map, Option, Some, None, option_map, is_none}
use Rattle.std.specs.List.{list_any}
use Rattle.core_language.specs.Names.{Ident, same}
use Rattle.core_language.specs.Terms.{Term, Limit}
use Rattle.core_language.specs.Resources.{Ref, Shape, Res, Resources}
use Rattle.core_language.specs.Resources as resource
use Rattle.linear_forms.specs.Terms.{IntVar, sum_of, named}
use Rattle.linear_forms.specs.Normal.{fits, names_of}
use Rattle.linear_forms.specs.NormalTerms.{IsNormal}

-- ---- terms under binders

-- a variable of a term under binders: a free one by its name, a bound one counted outwards
pub data Var : Type 0 where
  Free : Ident → Var
  Inside : ℕ → Var

-- the place of a name among binders
abbrev pub place_of : List Ident → Ident → Option ℕ
place_of [] x = None
place_of (y ∷ ys) x = if same y x then Some 0 else option_map suc (place_of ys x)

abbrev pub at_place : (Var → ℤ) → ℤ → Option ℕ → ℤ
at_place at free None = free
at_place at free (Some i) = at (Inside i)

-- the sum of a term under binders, where terms over free names are put in for the names of a list
abbrev pub sum_under : List Ident → List IntVar → ℤ → (Var → ℤ) → Term → ℤ
sum_under binders put unit at term =
    sum_of unit (λ x. at_place at (named put unit (λ y. at (Free y)) x) (place_of binders x)) term

-- the second term is the first with the terms put in: they have one value everywhere
abbrev pub IsPutTerm : List IntVar → (before after : List Ident) → Term → Term → Type 0
IsPutTerm put before after t u = (at : Var → ℤ) → sum_under after [] (pos 1) at u ≡ sum_under before put (pos 1) at t

abbrev pub same_var : Var → Var → Bool
same_var (Free x) (Free y) = same x y
same_var (Inside i) (Inside j) = nat_eq i j
same_var _ _ = false

abbrev pub one_var : Var → Var → ℤ
one_var v w = if same_var v w then pos 1 else pos 0

-- with the terms put in, each variable counts so often that 64 bits hold it, and they hold the constant
pub record Fits (put : List IntVar) (binders : List Ident) (term : Term) : Type 0 where
  pub counts : (v : Var) → fits (sum_under binders put (pos 0) (one_var v) term) ≡ true
  pub constant : fits (sum_under binders put (pos 1) (λ v. pos 0) term) ≡ true

-- ---- the terms of a resource

-- a term, and the binders around it, the innermost first
pub record Scoped : Type 0 where
  pub binders : List Ident
  pub term : Term

abbrev pub scoped : List Ident → List Term → List Scoped
scoped binders terms = map (λ t. record { binders = binders; term = t }) terms

abbrev pub terms_of_limit : Limit → List Term
terms_of_limit limit = limit.left ∷ limit.right ∷ []

abbrev mutual
  pub terms_of_shape : List Ident → Shape → List Scoped
  terms_of_shape binders resource.Unit = []
  terms_of_shape binders (resource.Int t) = scoped binders (t ∷ [])
  terms_of_shape binders (resource.End r) = scoped binders r.args
  terms_of_shape binders (resource.Pair a b) = terms_of_res binders a ++ terms_of_res binders b
  terms_of_shape binders (resource.Sum rs) = terms_of_resources binders rs

  pub terms_of_res : List Ident → Res → List Scoped
  terms_of_res binders (resource.Binds b s) =
      scoped (b.names ++ binders) (flat_map terms_of_limit b.limits) ++ terms_of_shape (b.names ++ binders) s

  pub terms_of_resources : List Ident → Resources → List Scoped
  terms_of_resources binders resource.NoMore = []
  terms_of_resources binders (resource.More r rs) = terms_of_res binders r ++ terms_of_resources binders rs

-- ---- binders that would catch a name

-- the term at a name of the list, if one stands there, names y
abbrev pub put_names : List IntVar → Ident → Ident → Bool
put_names [] x y = false
put_names (v ∷ vs) x y = if same v.name x then list_any (λ z. same z y) (names_of v.term) else put_names vs x y

-- a free name of the term is one for which a term is put in that names y
abbrev pub puts : List IntVar → Ident → Scoped → Bool
puts put y s = list_any (λ x. is_none (place_of s.binders x) && put_names put x y) (names_of s.term)

-- a binder of the resource with this name would catch a name of a term that is put in
abbrev pub catches : List IntVar → List Ident → Res → Ident → Bool
catches put binders res y = list_any (puts put y) (terms_of_res binders res)

-- ---- two resources

-- two lists, item by item
abbrev pub Each : {X : Type 0} → (X → X → Type 0) → List X → List X → Type 0
Each R [] [] = Unit {0}
Each R [] (y ∷ ys) = ⊥
Each R (x ∷ xs) [] = ⊥
Each R (x ∷ xs) (y ∷ ys) = R x y × Each R xs ys

-- two names of binders, of a resource under binders, and the binders around the second with its own
abbrev pub OnNames : Type 1
OnNames = (before scope : List Ident) → Res → Ident → Ident → Type 0

-- two terms, each under binders of its own
abbrev pub OnTerms : Type 1
OnTerms = (before after : List Ident) → Term → Term → Type 0

pub record IsLimitLike (T : OnTerms) (before after : List Ident) (l m : Limit) : Type 0 where
  pub left : T before after l.left m.left
  pub relation : l.relation ≡ m.relation
  pub right : T before after l.right m.right

pub record IsRefLike (T : OnTerms) (before after : List Ident) (r s : Ref) : Type 0 where
  pub dual : r.dual ≡ s.dual
  pub name : r.name ≡ s.name
  pub args : Each (T before after) r.args s.args

-- two resources of one form, whose binders and terms are related one by one
abbrev mutual
  pub IsShapeLike : OnNames → OnTerms → (before after : List Ident) → Shape → Shape → Type 0
  IsShapeLike N T before after resource.Unit resource.Unit = Unit {0}
  IsShapeLike N T before after (resource.Int t) (resource.Int u) = T before after t u
  IsShapeLike N T before after (resource.End r) (resource.End s) = IsRefLike T before after r s
  IsShapeLike N T before after (resource.Pair a b) (resource.Pair c d) = IsResLike N T before after a c × IsResLike N T before after b d
  IsShapeLike N T before after (resource.Sum rs) (resource.Sum ss) = AreResourcesLike N T before after rs ss
  IsShapeLike N T before after _ _ = ⊥

  pub IsResLike : OnNames → OnTerms → (before after : List Ident) → Res → Res → Type 0
  IsResLike N T before after (resource.Binds b s) (resource.Binds c t) =
      Each (N before (c.names ++ after) (resource.Binds b s)) b.names c.names
      × Each (IsLimitLike T (b.names ++ before) (c.names ++ after)) b.limits c.limits
      × IsShapeLike N T (b.names ++ before) (c.names ++ after) s t

  pub AreResourcesLike : OnNames → OnTerms → (before after : List Ident) → Resources → Resources → Type 0
  AreResourcesLike N T before after resource.NoMore resource.NoMore = Unit {0}
  AreResourcesLike N T before after resource.NoMore (resource.More s ss) = ⊥
  AreResourcesLike N T before after (resource.More r rs) resource.NoMore = ⊥
  AreResourcesLike N T before after (resource.More r rs) (resource.More s ss) = IsResLike N T before after r s × AreResourcesLike N T before after rs ss

abbrev pub AnyNames : OnNames
AnyNames before scope res y z = Unit {0}

-- the second resource is the first with the terms put in, up to the names of binders
abbrev pub IsPutRes : List IntVar → (before after : List Ident) → Res → Res → Type 0
IsPutRes put = IsResLike AnyNames (IsPutTerm put)

-- one resource up to the names of binders, and up to how its terms are written
abbrev pub IsSameRes : Res → Res → Type 0
IsSameRes = IsPutRes [] [] []

-- how often a name stands in a list
abbrev pub times_in : Ident → List Ident → ℕ
times_in x [] = 0
times_in x (y ∷ ys) = if same x y then suc (times_in x ys) else times_in x ys

-- the names of terms, and of the binders around them
abbrev pub names_around : List Scoped → List Ident
names_around terms = flat_map (λ s. s.binders ++ names_of s.term) terms

-- the name is that of one binder alone, and no name of the resource or of a term that is put in
pub record IsNewName (put : List IntVar) (scope : List Ident) (res : Res) (z : Ident) : Type 0 where
  pub once : times_in z scope ≡ 1
  pub elsewhere : times_in z (names_around (terms_of_res [] res) ++ flat_map (λ v. names_of v.term) put) ≡ 0

-- a binder has another name, and a new one, exactly where it would catch a name of a term that is put in
pub record IsRenamed (put : List IntVar) (before scope : List Ident) (res : Res) (y z : Ident) : Type 0 where
  pub kept : catches put before res y ≡ false → z ≡ y
  pub renamed : catches put before res y ≡ true → z ≡ y → ⊥
  pub new : catches put before res y ≡ true → IsNewName put scope res z

-- a term with the terms put in, in normal form
pub record IsNormalPut (put : List IntVar) (before after : List Ident) (t u : Term) : Type 0 where
  pub value : IsPutTerm put before after t u
  pub normal : IsNormal u
  pub fits : Fits put before t

-- a resource with the terms put in at once
abbrev pub IsSubst : List IntVar → Res → Res → Type 0
IsSubst put = IsResLike (IsRenamed put) (IsNormalPut put) [] []

-- each normal form has numbers of 64 bits
abbrev pub AllFit : List IntVar → List Scoped → Type 0
AllFit put terms = All (λ s. Fits put s.binders s.term) terms
