-- The forms of a shape, and what each hands on to its parts.
use Rattle.std.proofs.Common.{◌≡◌, ℕ, List, [], ◌∷◌, ◌++◌, All, refl, sym, subst}
use Rattle.std.proofs.lemmas.List.Elements.{All-head}
use Rattle.core_language.specs.Names.{Ident}
use Rattle.core_language.specs.Terms.{Term}
use Rattle.core_language.specs.Resources.{Ref, Shape, Res, Int, End, Pair}
use Rattle.chan_syntax.specs.Reading.{res_of}
use Rattle.chan_syntax.specs.declared.resources.Res.{Res as Tree}
use Rattle.linear_forms.specs.Terms.{IntVar}
use Rattle.linear_forms.specs.Substitution.{Scoped, puts, terms_of_shape, terms_of_res, Fits, AllFit, OnNames, OnTerms, IsShapeLike, IsResLike}
use Rattle.linear_forms.specs.Replacing.{IsShortShape, IsShortRes, ArePutShort, AreSafe, IsReady}
use Rattle.linear_forms.proofs.Places.{safe_for}
use Rattle.linear_forms.proofs.Rebuilt.{none_left, none_right, ready_terms, fit_terms}
use Rattle.linear_forms.proofs.Shorts.{all_left, all_right}

-- a shape of two resources
pub record IsOfTwo (x : Shape) (a b : Res) : Type 0 where
  pub terms : (binders : List Ident) → terms_of_shape binders x ≡ terms_of_res binders a ++ terms_of_res binders b
  pub first_short : (most : ℕ) → IsShortShape most x → IsShortRes most a
  pub second_short : (most : ℕ) → IsShortShape most x → IsShortRes most b

pub pair_of_two : (x : Shape) (a b : Res) → x ≡ Pair a b → IsOfTwo x a b
pair_of_two x a b is =
    let it : IsOfTwo (Pair a b) a b = record { terms = λ binders. refl; first_short = λ most h. h.0; second_short = λ most h. h.1 } in
    subst (λ (y : Shape). IsOfTwo y a b) (sym is) it

module _ (most : ℕ) (put : List IntVar) (before after : List Ident) (x : Shape) (a b : Res) (two : IsOfTwo x a b) where
  both_safe : AreSafe most put (terms_of_shape before x) 0 before after → AreSafe most put (terms_of_res before a ++ terms_of_res before b) 0 before after
  both_safe safe = subst (λ (l : List Scoped). AreSafe most put l 0 before after) (two.terms before) safe

  pub first_safe : AreSafe most put (terms_of_shape before x) 0 before after → AreSafe most put (terms_of_res before a) 0 before after
  first_safe safe = safe_for most put (terms_of_res before a ++ terms_of_res before b) (terms_of_res before a) 0 before after (λ y. none_left (puts put y) (terms_of_res before a) (terms_of_res before b)) (both_safe safe)

  pub second_safe : AreSafe most put (terms_of_shape before x) 0 before after → AreSafe most put (terms_of_res before b) 0 before after
  second_safe safe = safe_for most put (terms_of_res before a ++ terms_of_res before b) (terms_of_res before b) 0 before after (λ y. none_right (puts put y) (terms_of_res before a) (terms_of_res before b)) (both_safe safe)

module _ (put : List IntVar) (before : List Ident) (x : Shape) (a b : Res) (two : IsOfTwo x a b) where
  both_fit : AllFit put (terms_of_shape before x) → AllFit put (terms_of_res before a ++ terms_of_res before b)
  both_fit fit = subst (λ (l : List Scoped). AllFit put l) (two.terms before) fit

  pub first_too_large : (AllFit put (terms_of_res before a) → ⊥) → AllFit put (terms_of_shape before x) → ⊥
  first_too_large none fit = none (all_left (λ (t : Scoped). Fits put t.binders t.term) (terms_of_res before a) (terms_of_res before b) (both_fit fit))

  pub second_too_large : (AllFit put (terms_of_res before b) → ⊥) → AllFit put (terms_of_shape before x) → ⊥
  second_too_large none fit = none (all_right (λ (t : Scoped). Fits put t.binders t.term) (terms_of_res before a) (terms_of_res before b) (both_fit fit))

-- ---- one term, and the terms of an end

pub term_too_large : (put : List IntVar) (before : List Ident) (x : Shape) (t : Term) → x ≡ Int t → (Fits put before t → ⊥) → AllFit put (terms_of_shape before x) → ⊥
term_too_large put before x t is none fit =
    let one : AllFit put (terms_of_shape before (Int t)) = subst (λ (y : Shape). AllFit put (terms_of_shape before y)) is fit in
    none (All-head (Fits put before) t [] (fit_terms put before (t ∷ []) one))

pub end_too_large : (put : List IntVar) (before : List Ident) (x : Shape) (r : Ref) → x ≡ End r → (All (Fits put before) r.args → ⊥) → AllFit put (terms_of_shape before x) → ⊥
end_too_large put before x r is none fit =
    none (fit_terms put before r.args (subst (λ (y : Shape). AllFit put (terms_of_shape before y)) is fit))

pub end_ready : (most : ℕ) (put : List IntVar) (before after : List Ident) (x : Shape) (r : Ref) → x ≡ End r → ArePutShort most put → AreSafe most put (terms_of_shape before x) 0 before after → IsShortShape most x → All (IsReady put before after) r.args
end_ready most put before after x r is put_short safe short =
    ready_terms most put before after put_short r.args (subst (λ (y : Shape). AreSafe most put (terms_of_shape before y) 0 before after) is safe) (subst (IsShortShape most) is short)

-- ---- resources and shapes that are alike

pub like_same : (N : OnNames) (T : OnTerms) (before after : List Ident) (r s u v : Tree) → r ≡ s → u ≡ v → IsResLike N T before after (res_of r) (res_of v) → IsResLike N T before after (res_of s) (res_of u)
like_same N T before after r s u v e d like =
    subst (λ (x : Tree). IsResLike N T before after (res_of s) (res_of x)) (sym d) (subst (λ (x : Tree). IsResLike N T before after (res_of x) (res_of v)) e like)

module _ (N : OnNames) (T : OnTerms) (before after : List Ident) (x y : Shape) (a b c d : Res) where
  pub pair_like : x ≡ Pair a b → y ≡ Pair c d → IsResLike N T before after a c → IsResLike N T before after b d → IsShapeLike N T before after x y
  pair_like left right first second =
      let it : IsShapeLike N T before after (Pair a b) (Pair c d) = (first, second) in
      subst (λ (z : Shape). IsShapeLike N T before after x z) (sym right) (subst (λ (z : Shape). IsShapeLike N T before after z (Pair c d)) (sym left) it)
