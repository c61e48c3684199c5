-- Substitution has one result, up to the names of binders.
use Rattle.std.proofs.Common.{◌≡◌, Bool, List, [], ◌∷◌, ◌++◌, All, flat_map, refl, sym, ap, ◌∙◌, subst}
use Rattle.std.proofs.lemmas.List.Elements.{All-nil, All-cons, All-append}
use Rattle.core_language.specs.Names.{Ident}
use Rattle.core_language.specs.Terms.{Term, Limit, Bound, Relation}
use Rattle.core_language.specs.Resources.{Ref, Shape, Res, Resources}
use Rattle.core_language.specs.Resources as resource
use Rattle.linear_forms.specs.Terms.{IntVar}
use Rattle.linear_forms.specs.NormalTerms.{IsNormal}
use Rattle.linear_forms.specs.Substitution.{Fits, Scoped, scoped, terms_of_limit, terms_of_shape, terms_of_res, terms_of_resources, Each, OnNames, OnTerms, AnyNames, IsPutTerm, IsLimitLike, IsShapeLike, IsResLike, AreResourcesLike, IsRenamed, IsNormalPut, IsSubst, AllFit}
use Rattle.unfold_laws.specs.Answers.{SameNames, AnyTerms, AreOneRes}
use Rattle.unfold_laws.proofs.OneSpelling.{one_term_under}

-- ---- lists, item by item

each_both : {X : Type 0} (R Q S : X → X → Type 0) (xs ys zs : List X) → ((x y z : X) → R x y → Q x z → S y z) → Each R xs ys → Each Q xs zs → Each S ys zs
each_both R Q S [] [] [] k h g = tt
each_both R Q S [] [] (z ∷ zs) k h g = absurd g
each_both R Q S [] (y ∷ ys) zs k h g = absurd h
each_both R Q S (x ∷ xs) [] zs k h g = absurd h
each_both R Q S (x ∷ xs) (y ∷ ys) [] k h g = absurd g
each_both R Q S (x ∷ xs) (y ∷ ys) (z ∷ zs) k h g = (k x y z h.0 g.0, each_both R Q S xs ys zs k h.1 g.1)

pub each_same : {X : Type 0} (R : X → X → Type 0) (xs ys : List X) → ((x y : X) → R x y → x ≡ y) → Each R xs ys → xs ≡ ys
each_same R [] [] k h = refl
each_same R [] (y ∷ ys) k h = absurd h
each_same R (x ∷ xs) [] k h = absurd h
each_same R (x ∷ xs) (y ∷ ys) k h = rw (k x y h.0, each_same R xs ys k h.1) refl

pub each_all : {X : Type 0} (R : X → X → Type 0) (P : X → Type 0) (xs ys : List X) → ((x y : X) → R x y → P x) → Each R xs ys → All P xs
each_all R P [] [] k h = All-nil P
each_all R P [] (y ∷ ys) k h = absurd h
each_all R P (x ∷ xs) [] k h = absurd h
each_all R P (x ∷ xs) (y ∷ ys) k h = All-cons P x xs (k x y h.0) (each_all R P xs ys k h.1)

pub made_ref : (r s : Ref) → r.dual ≡ s.dual → r.name ≡ s.name → r.args ≡ s.args → r ≡ s
made_ref r s dual name args = built r.dual s.dual r.name s.name r.args s.args dual name args
  where
    built : (d e : Bool) (x y : Ident) (ts us : List Term) → d ≡ e → x ≡ y → ts ≡ us → ◌≡◌ {A = Ref} (record { dual = d; name = x; args = ts }) (record { dual = e; name = y; args = us })
    built d e x y ts us dual name args = rw (dual, name, args) refl

-- ---- two resources that are like a third one

module _ (N M : OnNames) (T U V : OnTerms) (both : (before after other : List Ident) (t u v : Term) → T before after t u → U before other t v → V after other u v) where
  limit_both : (before after other : List Ident) (l m n : Limit) → IsLimitLike T before after l m → IsLimitLike U before other l n → IsLimitLike V after other m n
  limit_both before after other l m n h g = record {
    left = both before after other l.left m.left n.left h.left g.left;
    relation = sym h.relation ∙ g.relation;
    right = both before after other l.right m.right n.right h.right g.right;
  }

  mutual
    shape_both : (before after other : List Ident) (x y z : Shape) → IsShapeLike N T before after x y → IsShapeLike M U before other x z → IsShapeLike AnyNames V after other y z
    shape_both before after other resource.Unit resource.Unit resource.Unit h g = tt
    shape_both before after other (resource.Int t) (resource.Int u) (resource.Int v) h g = both before after other t u v h g
    shape_both before after other (resource.End r) (resource.End q) (resource.End p) h g = record {
      dual = sym h.dual ∙ g.dual;
      name = sym h.name ∙ g.name;
      args = each_both (T before after) (U before other) (V after other) r.args q.args p.args (both before after other) h.args g.args;
    }
    shape_both before after other (resource.Pair a b) (resource.Pair c d) (resource.Pair e f) h g = (res_both before after other a c e h.0 g.0, res_both before after other b d f h.1 g.1)
    shape_both before after other (resource.Sum rs) (resource.Sum qs) (resource.Sum ps) h g = resources_both before after other rs qs ps h g
    shape_both before after other resource.Unit (resource.Int u) z h g = absurd h
    shape_both before after other resource.Unit (resource.End q) z h g = absurd h
    shape_both before after other resource.Unit (resource.Pair c d) z h g = absurd h
    shape_both before after other resource.Unit (resource.Sum qs) z h g = absurd h
    shape_both before after other resource.Unit resource.Unit (resource.Int v) h g = absurd g
    shape_both before after other resource.Unit resource.Unit (resource.End p) h g = absurd g
    shape_both before after other resource.Unit resource.Unit (resource.Pair e f) h g = absurd g
    shape_both before after other resource.Unit resource.Unit (resource.Sum ps) h g = absurd g
    shape_both before after other (resource.Int t) resource.Unit z h g = absurd h
    shape_both before after other (resource.Int t) (resource.End q) z h g = absurd h
    shape_both before after other (resource.Int t) (resource.Pair c d) z h g = absurd h
    shape_both before after other (resource.Int t) (resource.Sum qs) z h g = absurd h
    shape_both before after other (resource.Int t) (resource.Int u) resource.Unit h g = absurd g
    shape_both before after other (resource.Int t) (resource.Int u) (resource.End p) h g = absurd g
    shape_both before after other (resource.Int t) (resource.Int u) (resource.Pair e f) h g = absurd g
    shape_both before after other (resource.Int t) (resource.Int u) (resource.Sum ps) h g = absurd g
    shape_both before after other (resource.End r) resource.Unit z h g = absurd h
    shape_both before after other (resource.End r) (resource.Int u) z h g = absurd h
    shape_both before after other (resource.End r) (resource.Pair c d) z h g = absurd h
    shape_both before after other (resource.End r) (resource.Sum qs) z h g = absurd h
    shape_both before after other (resource.End r) (resource.End q) resource.Unit h g = absurd g
    shape_both before after other (resource.End r) (resource.End q) (resource.Int v) h g = absurd g
    shape_both before after other (resource.End r) (resource.End q) (resource.Pair e f) h g = absurd g
    shape_both before after other (resource.End r) (resource.End q) (resource.Sum ps) h g = absurd g
    shape_both before after other (resource.Pair a b) resource.Unit z h g = absurd h
    shape_both before after other (resource.Pair a b) (resource.Int u) z h g = absurd h
    shape_both before after other (resource.Pair a b) (resource.End q) z h g = absurd h
    shape_both before after other (resource.Pair a b) (resource.Sum qs) z h g = absurd h
    shape_both before after other (resource.Pair a b) (resource.Pair c d) resource.Unit h g = absurd g
    shape_both before after other (resource.Pair a b) (resource.Pair c d) (resource.Int v) h g = absurd g
    shape_both before after other (resource.Pair a b) (resource.Pair c d) (resource.End p) h g = absurd g
    shape_both before after other (resource.Pair a b) (resource.Pair c d) (resource.Sum ps) h g = absurd g
    shape_both before after other (resource.Sum rs) resource.Unit z h g = absurd h
    shape_both before after other (resource.Sum rs) (resource.Int u) z h g = absurd h
    shape_both before after other (resource.Sum rs) (resource.End q) z h g = absurd h
    shape_both before after other (resource.Sum rs) (resource.Pair c d) z h g = absurd h
    shape_both before after other (resource.Sum rs) (resource.Sum qs) resource.Unit h g = absurd g
    shape_both before after other (resource.Sum rs) (resource.Sum qs) (resource.Int v) h g = absurd g
    shape_both before after other (resource.Sum rs) (resource.Sum qs) (resource.End p) h g = absurd g
    shape_both before after other (resource.Sum rs) (resource.Sum qs) (resource.Pair e f) h g = absurd g

    pub res_both : (before after other : List Ident) (x y z : Res) → IsResLike N T before after x y → IsResLike M U before other x z → IsResLike AnyNames V after other y z
    res_both before after other (resource.Binds b s) (resource.Binds c t) (resource.Binds d u) h g = (
      each_both (N before (c.names ++ after) (resource.Binds b s)) (M before (d.names ++ other) (resource.Binds b s)) (AnyNames after (d.names ++ other) (resource.Binds c t)) b.names c.names d.names (λ x y z k l. tt) h.0 g.0,
      each_both (IsLimitLike T (b.names ++ before) (c.names ++ after)) (IsLimitLike U (b.names ++ before) (d.names ++ other)) (IsLimitLike V (c.names ++ after) (d.names ++ other)) b.limits c.limits d.limits
          (limit_both (b.names ++ before) (c.names ++ after) (d.names ++ other)) h.1 g.1,
      shape_both (b.names ++ before) (c.names ++ after) (d.names ++ other) s t u h.2 g.2,
    )

    resources_both : (before after other : List Ident) (rs qs ps : Resources) → AreResourcesLike N T before after rs qs → AreResourcesLike M U before other rs ps → AreResourcesLike AnyNames V after other qs ps
    resources_both before after other resource.NoMore resource.NoMore resource.NoMore h g = tt
    resources_both before after other resource.NoMore resource.NoMore (resource.More p ps) h g = absurd g
    resources_both before after other resource.NoMore (resource.More q qs) ps h g = absurd h
    resources_both before after other (resource.More r rs) resource.NoMore ps h g = absurd h
    resources_both before after other (resource.More r rs) (resource.More q qs) resource.NoMore h g = absurd g
    resources_both before after other (resource.More r rs) (resource.More q qs) (resource.More p ps) h g = (res_both before after other r q p h.0 g.0, resources_both before after other rs qs ps h.1 g.1)

-- ---- two resources whose terms are in normal form

abbrev AreNormalSame : OnTerms
AreNormalSame before after t u = IsNormal t × IsNormal u × IsPutTerm [] before after t u

same_term : (binders : List Ident) (t u : Term) → AreNormalSame binders binders t u → t ≡ u
same_term binders t u (first, second, is) = one_term_under binders t u first second (λ at. sym (is at))

same_limit : (binders : List Ident) (l m : Limit) → IsLimitLike AreNormalSame binders binders l m → l ≡ m
same_limit binders l m h = built l.left m.left l.relation m.relation l.right m.right (same_term binders l.left m.left h.left) h.relation (same_term binders l.right m.right h.right)
  where
    built : (t u : Term) (o p : Relation) (v w : Term) → t ≡ u → o ≡ p → v ≡ w → ◌≡◌ {A = Limit} (record { left = t; relation = o; right = v }) (record { left = u; relation = p; right = w })
    built t u o p v w left relation right = rw (left, relation, right) refl

made_res : (b c : Bound) (s t : Shape) → b.names ≡ c.names → b.limits ≡ c.limits → s ≡ t → resource.Binds b s ≡ resource.Binds c t
made_res b c s t names limits shape = built b.names c.names b.limits c.limits s t names limits shape
  where
    built : (xs ys : List Ident) (ls ms : List Limit) (s t : Shape) → xs ≡ ys → ls ≡ ms → s ≡ t
        → ◌≡◌ {A = Res} (resource.Binds (record { names = xs; limits = ls }) s) (resource.Binds (record { names = ys; limits = ms }) t)
    built xs ys ls ms s t names limits shape = rw (names, limits, shape) refl

mutual
  same_shape : (binders : List Ident) (x y : Shape) → IsShapeLike SameNames AnyTerms binders binders x y → IsShapeLike AnyNames AreNormalSame binders binders x y → x ≡ y
  same_shape binders resource.Unit resource.Unit h g = refl
  same_shape binders (resource.Int t) (resource.Int u) h g = ap resource.Int (same_term binders t u g)
  same_shape binders (resource.End r) (resource.End q) h g = ap resource.End (made_ref r q g.dual g.name (each_same (AreNormalSame binders binders) r.args q.args (same_term binders) g.args))
  same_shape binders (resource.Pair a b) (resource.Pair c d) h g = ap (λ x. resource.Pair x b) (same_res binders a c h.0 g.0) ∙ ap (resource.Pair c) (same_res binders b d h.1 g.1)
  same_shape binders (resource.Sum rs) (resource.Sum qs) h g = ap resource.Sum (same_resources binders rs qs h g)
  same_shape binders resource.Unit (resource.Int u) h g = absurd h
  same_shape binders resource.Unit (resource.End q) h g = absurd h
  same_shape binders resource.Unit (resource.Pair c d) h g = absurd h
  same_shape binders resource.Unit (resource.Sum qs) h g = absurd h
  same_shape binders (resource.Int t) resource.Unit h g = absurd h
  same_shape binders (resource.Int t) (resource.End q) h g = absurd h
  same_shape binders (resource.Int t) (resource.Pair c d) h g = absurd h
  same_shape binders (resource.Int t) (resource.Sum qs) h g = absurd h
  same_shape binders (resource.End r) resource.Unit h g = absurd h
  same_shape binders (resource.End r) (resource.Int u) h g = absurd h
  same_shape binders (resource.End r) (resource.Pair c d) h g = absurd h
  same_shape binders (resource.End r) (resource.Sum qs) h g = absurd h
  same_shape binders (resource.Pair a b) resource.Unit h g = absurd h
  same_shape binders (resource.Pair a b) (resource.Int u) h g = absurd h
  same_shape binders (resource.Pair a b) (resource.End q) h g = absurd h
  same_shape binders (resource.Pair a b) (resource.Sum qs) h g = absurd h
  same_shape binders (resource.Sum rs) resource.Unit h g = absurd h
  same_shape binders (resource.Sum rs) (resource.Int u) h g = absurd h
  same_shape binders (resource.Sum rs) (resource.End q) h g = absurd h
  same_shape binders (resource.Sum rs) (resource.Pair c d) h g = absurd h

  same_res : (binders : List Ident) (x y : Res) → IsResLike SameNames AnyTerms binders binders x y → IsResLike AnyNames AreNormalSame binders binders x y → x ≡ y
  same_res binders (resource.Binds b s) (resource.Binds c t) h g =
      let names : b.names ≡ c.names = each_same (SameNames binders (c.names ++ binders) (resource.Binds b s)) b.names c.names (λ x y is. is) h.0 in
      let limits = subst (λ xs. Each (IsLimitLike AreNormalSame (b.names ++ binders) (xs ++ binders)) b.limits c.limits) (sym names) g.1 in
      let named = subst (λ xs. IsShapeLike SameNames AnyTerms (b.names ++ binders) (xs ++ binders) s t) (sym names) h.2 in
      let valued = subst (λ xs. IsShapeLike AnyNames AreNormalSame (b.names ++ binders) (xs ++ binders) s t) (sym names) g.2 in
      made_res b c s t names (each_same (IsLimitLike AreNormalSame (b.names ++ binders) (b.names ++ binders)) b.limits c.limits (same_limit (b.names ++ binders)) limits) (same_shape (b.names ++ binders) s t named valued)

  same_resources : (binders : List Ident) (rs qs : Resources) → AreResourcesLike SameNames AnyTerms binders binders rs qs → AreResourcesLike AnyNames AreNormalSame binders binders rs qs → rs ≡ qs
  same_resources binders resource.NoMore resource.NoMore h g = refl
  same_resources binders resource.NoMore (resource.More q qs) h g = absurd h
  same_resources binders (resource.More r rs) resource.NoMore h g = absurd h
  same_resources binders (resource.More r rs) (resource.More q qs) h g = ap (λ x. resource.More x rs) (same_res binders r q h.0 g.0) ∙ ap (resource.More q) (same_resources binders rs qs h.1 g.1)

-- ---- results of a substitution

pub one_subst : (put : List IntVar) (x first second : Res) → IsSubst put x first → IsSubst put x second → AreOneRes first second
one_subst put x first second h g = record {
  same = res_both (IsRenamed put) (IsRenamed put) (IsNormalPut put) (IsNormalPut put) (IsPutTerm [])
      (λ before after other t u v one two. λ at. two.value at ∙ sym (one.value at)) [] [] [] x first second h g;
  written = λ names. same_res [] first second names
      (res_both (IsRenamed put) (IsRenamed put) (IsNormalPut put) (IsNormalPut put) AreNormalSame
      (λ before after other t u v one two. (one.normal, two.normal, λ at. two.value at ∙ sym (one.value at))) [] [] [] x first second h g);
}

-- ---- what has a result fits

module _ (put : List IntVar) where
  abbrev FitsHere : Scoped → Type 0
  FitsHere s = Fits put s.binders s.term

  terms_fit : (before after : List Ident) (ts us : List Term) → Each (IsNormalPut put before after) ts us → AllFit put (scoped before ts)
  terms_fit before after [] [] h = All-nil FitsHere
  terms_fit before after [] (u ∷ us) h = absurd h
  terms_fit before after (t ∷ ts) [] h = absurd h
  terms_fit before after (t ∷ ts) (u ∷ us) h = All-cons FitsHere (record { binders = before; term = t }) (scoped before ts) h.0.fits (terms_fit before after ts us h.1)

  limits_fit : (before after : List Ident) (ls ms : List Limit) → Each (IsLimitLike (IsNormalPut put) before after) ls ms → AllFit put (scoped before (flat_map terms_of_limit ls))
  limits_fit before after [] [] h = All-nil FitsHere
  limits_fit before after [] (m ∷ ms) h = absurd h
  limits_fit before after (l ∷ ls) [] h = absurd h
  limits_fit before after (l ∷ ls) (m ∷ ms) h =
      All-cons FitsHere (record { binders = before; term = l.left }) (record { binders = before; term = l.right } ∷ scoped before (flat_map terms_of_limit ls)) h.0.left.fits
      (All-cons FitsHere (record { binders = before; term = l.right }) (scoped before (flat_map terms_of_limit ls)) h.0.right.fits (limits_fit before after ls ms h.1))

  mutual
    shape_fits : (before after : List Ident) (x y : Shape) → IsShapeLike (IsRenamed put) (IsNormalPut put) before after x y → AllFit put (terms_of_shape before x)
    shape_fits before after resource.Unit resource.Unit h = All-nil FitsHere
    shape_fits before after (resource.Int t) (resource.Int u) h = All-cons FitsHere (record { binders = before; term = t }) [] h.fits (All-nil FitsHere)
    shape_fits before after (resource.End r) (resource.End q) h = terms_fit before after r.args q.args h.args
    shape_fits before after (resource.Pair a b) (resource.Pair c d) h = All-append FitsHere (terms_of_res before a) (terms_of_res before b) (res_fits before after a c h.0) (res_fits before after b d h.1)
    shape_fits before after (resource.Sum rs) (resource.Sum qs) h = resources_fit before after rs qs h
    shape_fits before after resource.Unit (resource.Int u) h = absurd h
    shape_fits before after resource.Unit (resource.End q) h = absurd h
    shape_fits before after resource.Unit (resource.Pair c d) h = absurd h
    shape_fits before after resource.Unit (resource.Sum qs) h = absurd h
    shape_fits before after (resource.Int t) resource.Unit h = absurd h
    shape_fits before after (resource.Int t) (resource.End q) h = absurd h
    shape_fits before after (resource.Int t) (resource.Pair c d) h = absurd h
    shape_fits before after (resource.Int t) (resource.Sum qs) h = absurd h
    shape_fits before after (resource.End r) resource.Unit h = absurd h
    shape_fits before after (resource.End r) (resource.Int u) h = absurd h
    shape_fits before after (resource.End r) (resource.Pair c d) h = absurd h
    shape_fits before after (resource.End r) (resource.Sum qs) h = absurd h
    shape_fits before after (resource.Pair a b) resource.Unit h = absurd h
    shape_fits before after (resource.Pair a b) (resource.Int u) h = absurd h
    shape_fits before after (resource.Pair a b) (resource.End q) h = absurd h
    shape_fits before after (resource.Pair a b) (resource.Sum qs) h = absurd h
    shape_fits before after (resource.Sum rs) resource.Unit h = absurd h
    shape_fits before after (resource.Sum rs) (resource.Int u) h = absurd h
    shape_fits before after (resource.Sum rs) (resource.End q) h = absurd h
    shape_fits before after (resource.Sum rs) (resource.Pair c d) h = absurd h

    pub res_fits : (before after : List Ident) (x y : Res) → IsResLike (IsRenamed put) (IsNormalPut put) before after x y → AllFit put (terms_of_res before x)
    res_fits before after (resource.Binds b s) (resource.Binds c t) h =
        All-append FitsHere (scoped (b.names ++ before) (flat_map terms_of_limit b.limits)) (terms_of_shape (b.names ++ before) s)
        (limits_fit (b.names ++ before) (c.names ++ after) b.limits c.limits h.1) (shape_fits (b.names ++ before) (c.names ++ after) s t h.2)

    resources_fit : (before after : List Ident) (rs qs : Resources) → AreResourcesLike (IsRenamed put) (IsNormalPut put) before after rs qs → AllFit put (terms_of_resources before rs)
    resources_fit before after resource.NoMore resource.NoMore h = All-nil FitsHere
    resources_fit before after resource.NoMore (resource.More q qs) h = absurd h
    resources_fit before after (resource.More r rs) resource.NoMore h = absurd h
    resources_fit before after (resource.More r rs) (resource.More q qs) h = All-append FitsHere (terms_of_res before r) (terms_of_resources before rs) (res_fits before after r q h.0) (resources_fit before after rs qs h.1)
