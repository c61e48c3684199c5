-- A resource with terms put in is the nameless resource with the instances.
use Rattle.std.proofs.Common.{◌≡◌, suc, List, [], ◌∷◌, ◌++◌, map, length, refl, sym, ap, append_assoc, length-append}
use Rattle.core_language.specs.Names.{Ident}
use Rattle.core_language.specs.Terms.{Term, Limit}
use Rattle.core_language.specs.Resources as written
use Rattle.linear_forms.specs.Terms.{IntVar}
use Rattle.linear_forms.specs.Substitution.{Each, OnNames, AnyNames, IsPutTerm, IsLimitLike, IsRefLike, IsShapeLike, IsResLike, AreResourcesLike}
use Rattle.outline_language.specs.Nameless as nameless
use Rattle.outline_language.specs.Nameless.{nameless_term, nameless_limit, nameless_ref, nameless_shape, nameless_res, nameless_resources, form_with, limit_with, ref_with, shape_with, res_with, resources_with}
use Rattle.nameless_ties.specs.Ties.{names_put, forms_put, PutResIsInstance}
use Rattle.nameless_ties.proofs.Instances.{put_term_is_instance}

module _ (N : OnNames) (ints : List Ident) (put : List IntVar) where
  as_long : (before scope : List Ident) (r : written.Res) (xs ys : List Ident) → Each (N before scope r) xs ys → length ys ≡ length xs
  as_long before scope r [] [] each = refl
  as_long before scope r [] (y ∷ ys) each = absurd each
  as_long before scope r (x ∷ xs) [] each = absurd each
  as_long before scope r (x ∷ xs) (y ∷ ys) (one, each) = ap suc (as_long before scope r xs ys each)

  abbrev around : List Ident → List Ident
  around before = before ++ names_put put

  terms_put : (before after : List Ident) (ts us : List Term) → Each (IsPutTerm put before after) ts us
      → map (nameless_term ints after) us ≡ map (form_with (forms_put ints put) (length before)) (map (nameless_term ints (around before)) ts)
  terms_put before after [] [] each = refl
  terms_put before after [] (u ∷ us) each = absurd each
  terms_put before after (t ∷ ts) [] each = absurd each
  terms_put before after (t ∷ ts) (u ∷ us) (one, each) = rw (put_term_is_instance ints before after put t u one, terms_put before after ts us each) refl

  limit_put : (before after : List Ident) (l m : Limit) → IsLimitLike (IsPutTerm put) before after l m
      → nameless_limit ints after m ≡ limit_with (forms_put ints put) (length before) (nameless_limit ints (around before) l)
  limit_put before after l m like =
      rw (put_term_is_instance ints before after put l.left m.left like.left, sym like.relation, put_term_is_instance ints before after put l.right m.right like.right) refl

  limits_put : (before after : List Ident) (ls ms : List Limit) → Each (IsLimitLike (IsPutTerm put) before after) ls ms
      → map (nameless_limit ints after) ms ≡ map (limit_with (forms_put ints put) (length before)) (map (nameless_limit ints (around before)) ls)
  limits_put before after [] [] each = refl
  limits_put before after [] (m ∷ ms) each = absurd each
  limits_put before after (l ∷ ls) [] each = absurd each
  limits_put before after (l ∷ ls) (m ∷ ms) (one, each) = rw (limit_put before after l m one, limits_put before after ls ms each) refl

  ref_put : (before after : List Ident) (r s : written.Ref) → IsRefLike (IsPutTerm put) before after r s
      → nameless_ref ints after s ≡ ref_with (forms_put ints put) (length before) (nameless_ref ints (around before) r)
  ref_put before after r s like = rw (sym like.dual, sym like.name, terms_put before after r.args s.args like.args) refl

  mutual
    shape_put : (before after : List Ident) (s t : written.Shape) → IsShapeLike N (IsPutTerm put) before after s t
        → nameless_shape ints after t ≡ shape_with (forms_put ints put) (length before) (nameless_shape ints (around before) s)
    shape_put before after written.Unit written.Unit like = refl
    shape_put before after (written.Int t) (written.Int u) like = ap nameless.Int (put_term_is_instance ints before after put t u like)
    shape_put before after (written.End r) (written.End s) like = ap nameless.End (ref_put before after r s like)
    shape_put before after (written.Pair a b) (written.Pair c d) (first, second) = rw (res_put before after a c first, res_put before after b d second) refl
    shape_put before after (written.Sum rs) (written.Sum ss) like = ap nameless.Sum (resources_put before after rs ss like)
    shape_put before after _ _ like = absurd like

    res_put : (before after : List Ident) (r s : written.Res) → IsResLike N (IsPutTerm put) before after r s
        → nameless_res ints after s ≡ res_with (forms_put ints put) (length before) (nameless_res ints (around before) r)
    res_put before after (written.Binds b s) (written.Binds c t) (names, limits, shape) =
        let long = as_long before (c.names ++ after) (written.Binds b s) b.names c.names names in
        let deeper = length-append b.names before in
        let further = append_assoc b.names before (names_put put) in
        let first = rw (deeper, further) at (limits_put (b.names ++ before) (c.names ++ after) b.limits c.limits limits) in
        let second = rw (deeper, further) at (shape_put (b.names ++ before) (c.names ++ after) s t shape) in
        rw (long, first, second) refl

    resources_put : (before after : List Ident) (rs ss : written.Resources) → AreResourcesLike N (IsPutTerm put) before after rs ss
        → nameless_resources ints after ss ≡ resources_with (forms_put ints put) (length before) (nameless_resources ints (around before) rs)
    resources_put before after written.NoMore written.NoMore like = refl
    resources_put before after (written.More r rs) (written.More s ss) (one, more) = rw (res_put before after r s one, resources_put before after rs ss more) refl
    resources_put before after _ _ like = absurd like

pub put_res_is_instance : PutResIsInstance
put_res_is_instance ints put r s like = res_put AnyNames ints put [] [] r s like
