-- What holds of the resources of a sum is what holds of each of a list.
use Rattle.std.proofs.Common.{◌≡◌, ℕ, List, [], ◌∷◌, ◌++◌, All, flat_map, refl, sym, ap, subst}
use Rattle.std.proofs.lemmas.List.Elements.{All-nil, All-cons, All-head, All-tail}
use Rattle.core_language.specs.Names.{Ident}
use Rattle.core_language.specs.Resources.{Shape, Res, Sum}
use Rattle.linear_forms.specs.Terms.{IntVar}
use Rattle.linear_forms.specs.Substitution.{Scoped, puts, terms_of_shape, terms_of_res, terms_of_resources, Fits, AllFit, Each, OnNames, OnTerms, IsShapeLike, IsResLike, AreResourcesLike}
use Rattle.linear_forms.specs.Replacing.{IsShortShape, IsShortRes, AreShortResources, AreSafe}
use Rattle.linear_forms.proofs.Places.{safe_for}
use Rattle.linear_forms.proofs.Rebuilt.{none_left, none_right}
use Rattle.linear_forms.proofs.Shorts.{all_left, all_right}
use Rattle.core_language.specs.Resources.{resources_from}

pub short_from : (most : ℕ) (rs : List Res) → All (IsShortRes most) rs → AreShortResources most (resources_from rs)
short_from most [] h = tt
short_from most (r ∷ rs) h = (All-head (IsShortRes most) r rs h, short_from most rs (All-tail (IsShortRes most) r rs h))

pub short_each : (most : ℕ) (rs : List Res) → AreShortResources most (resources_from rs) → All (IsShortRes most) rs
short_each most [] h = All-nil (IsShortRes most)
short_each most (r ∷ rs) h = All-cons (IsShortRes most) r rs h.0 (short_each most rs h.1)

pub terms_from : (binders : List Ident) (rs : List Res) → terms_of_resources binders (resources_from rs) ≡ flat_map (terms_of_res binders) rs
terms_from binders [] = refl
terms_from binders (r ∷ rs) = ap (λ ts. terms_of_res binders r ++ ts) (terms_from binders rs)

pub like_from : (N : OnNames) (T : OnTerms) (before after : List Ident) (rs ss : List Res) → Each (IsResLike N T before after) rs ss → AreResourcesLike N T before after (resources_from rs) (resources_from ss)
like_from N T before after [] [] e = tt
like_from N T before after [] (s ∷ ss) e = absurd e
like_from N T before after (r ∷ rs) [] e = absurd e
like_from N T before after (r ∷ rs) (s ∷ ss) e = (e.0, like_from N T before after rs ss e.1)

-- the terms of each are safe
pub safe_each : (most : ℕ) (put : List IntVar) (before after : List Ident) (rs : List Res) → AreSafe most put (flat_map (terms_of_res before) rs) 0 before after
    → All (λ r. AreSafe most put (terms_of_res before r) 0 before after) rs
safe_each most put before after [] h = All-nil (λ r. AreSafe most put (terms_of_res before r) 0 before after)
safe_each most put before after (r ∷ rs) h =
    All-cons (λ q. AreSafe most put (terms_of_res before q) 0 before after) r rs
    (safe_for most put (terms_of_res before r ++ flat_map (terms_of_res before) rs) (terms_of_res before r) 0 before after (λ y. none_left (puts put y) (terms_of_res before r) (flat_map (terms_of_res before) rs)) h)
    (safe_each most put before after rs
    (safe_for most put (terms_of_res before r ++ flat_map (terms_of_res before) rs) (flat_map (terms_of_res before) rs) 0 before after (λ y. none_right (puts put y) (terms_of_res before r) (flat_map (terms_of_res before) rs)) h))

-- and fit
pub fit_each : (put : List IntVar) (before : List Ident) (rs : List Res) → AllFit put (flat_map (terms_of_res before) rs) → All (λ r. AllFit put (terms_of_res before r)) rs
fit_each put before [] h = All-nil (λ r. AllFit put (terms_of_res before r))
fit_each put before (r ∷ rs) h =
    All-cons (λ q. AllFit put (terms_of_res before q)) r rs
    (all_left (λ (t : Scoped). Fits put t.binders t.term) (terms_of_res before r) (flat_map (terms_of_res before) rs) h)
    (fit_each put before rs (all_right (λ (t : Scoped). Fits put t.binders t.term) (terms_of_res before r) (flat_map (terms_of_res before) rs) h))

-- ---- a shape that is a sum

pub sum_safe : (most : ℕ) (put : List IntVar) (before after : List Ident) (x : Shape) (rs : List Res) → x ≡ Sum (resources_from rs) → AreSafe most put (terms_of_shape before x) 0 before after
    → All (λ r. AreSafe most put (terms_of_res before r) 0 before after) rs
sum_safe most put before after x rs is safe =
    let of_sum : AreSafe most put (terms_of_shape before (Sum (resources_from rs))) 0 before after = subst (λ (y : Shape). AreSafe most put (terms_of_shape before y) 0 before after) is safe in
    safe_each most put before after rs (subst (λ (l : List Scoped). AreSafe most put l 0 before after) (terms_from before rs) of_sum)

pub sum_short : (most : ℕ) (x : Shape) (rs : List Res) → x ≡ Sum (resources_from rs) → IsShortShape most x → All (IsShortRes most) rs
sum_short most x rs is short = short_each most rs (subst (IsShortShape most) is short)

pub sum_too_large : (put : List IntVar) (before : List Ident) (x : Shape) (rs : List Res) → x ≡ Sum (resources_from rs) → (All (λ r. AllFit put (terms_of_res before r)) rs → ⊥) → AllFit put (terms_of_shape before x) → ⊥
sum_too_large put before x rs is none fit =
    let of_sum : AllFit put (terms_of_shape before (Sum (resources_from rs))) = subst (λ (y : Shape). AllFit put (terms_of_shape before y)) is fit in
    none (fit_each put before rs (subst (λ (l : List Scoped). AllFit put l) (terms_from before rs) of_sum))

pub sum_like : (N : OnNames) (T : OnTerms) (before after : List Ident) (x y : Shape) (rs ss : List Res) → x ≡ Sum (resources_from rs) → y ≡ Sum (resources_from ss) → Each (IsResLike N T before after) rs ss → IsShapeLike N T before after x y
sum_like N T before after x y rs ss left right each =
    let it : IsShapeLike N T before after (Sum (resources_from rs)) (Sum (resources_from ss)) = like_from N T before after rs ss each in
    subst (λ (z : Shape). IsShapeLike N T before after x z) (sym right) (subst (λ (z : Shape). IsShapeLike N T before after z (Sum (resources_from ss))) (sym left) it)
