-- Steps that are made one after the other, one for each element of a list.
use Rattle.std.proofs.Common.{◌≡◌, ℕ, suc, ◌+◌, ◌<◌, ◌≤◌, List, [], ◌∷◌, ◌++◌, flat_map, length, drop, drop-cons, get_or, refl, sym, ap, ◌∙◌, Result, Ok, Err, arith}
use Rattle.std.proofs.lemmas.List.{drop_all}
use Rattle.outline_language.specs.Contexts.{Why, and_then}
use Rattle.outline_obligations.proofs.Reasons.{then_ok, then_err}

pub drop_here : {X : Type 0} (xs : List X) (i : ℕ) (x : X) → i < length xs → x ≡ get_or xs i x → drop i xs ≡ x ∷ drop (i + 1) xs
drop_here xs i x lt is =
    let next : suc i ≡ i + 1 = omega arith in
    drop-cons xs i x lt ∙ ap (λ y. y ∷ drop (suc i) xs) (sym is) ∙ ap (λ n. x ∷ drop n xs) next

-- one step more
module _ {S X : Type 0} (F : S → List X → Result S Why) (f : S → X → Result S Why)
    (cons : (s : S) (x : X) (xs : List X) → F s (x ∷ xs) ≡ and_then (f s x) (λ t. F t xs)) where
  pub step_ok : (s t : S) (xs : List X) (i : ℕ) (x : X) → i < length xs → x ≡ get_or xs i x → f s x ≡ Ok t → F s (drop i xs) ≡ F t (drop (i + 1) xs)
  step_ok s t xs i x lt is ok = ap (F s) (drop_here xs i x lt is) ∙ cons s x (drop (i + 1) xs) ∙ then_ok (f s x) t (λ u. F u (drop (i + 1) xs)) ok

  pub step_err : (s : S) (w : Why) (xs : List X) (i : ℕ) (x : X) → i < length xs → x ≡ get_or xs i x → f s x ≡ Err w → F s (drop i xs) ≡ Err w
  step_err s w xs i x lt is err = ap (F s) (drop_here xs i x lt is) ∙ cons s x (drop (i + 1) xs) ∙ then_err (f s x) w (λ u. F u (drop (i + 1) xs)) err

-- none is left
pub steps_end : {S X : Type 0} (F : S → List X → Result S Why) (s : S) (xs : List X) (i : ℕ) → length xs ≤ i → F s [] ≡ Ok s → F s (drop i xs) ≡ Ok s
steps_end F s xs i end nil = ap (F s) (drop_all i xs end) ∙ nil

-- the steps of two lists
module _ {S Y : Type 0} (G : S → List Y → Result S Why) (g : S → Y → Result S Why) (nil : (s : S) → G s [] ≡ Ok s)
    (cons : (s : S) (y : Y) (ys : List Y) → G s (y ∷ ys) ≡ and_then (g s y) (λ t. G t ys)) where
  pub steps-append : (s : S) (xs ys : List Y) → G s (xs ++ ys) ≡ and_then (G s xs) (λ t. G t ys)
  steps-append s [] ys = sym (ap (λ r. and_then r (λ t. G t ys)) (nil s))
  steps-append s (x ∷ xs) ys =
      cons s x (xs ++ ys) ∙ pick (g s x) (λ t. steps-append t xs ys) ∙ sym (ap (λ r. and_then r (λ t. G t ys)) (cons s x xs))
    where
      pick : (r : Result S Why) → ((t : S) → G t (xs ++ ys) ≡ and_then (G t xs) (λ u. G u ys))
          → and_then r (λ t. G t (xs ++ ys)) ≡ and_then (and_then r (λ t. G t xs)) (λ t. G t ys)
      pick (Ok t) rest = rest t
      pick (Err w) rest = refl

  -- the steps of one element after another
  pub steps-flat_map : {X : Type 0} (f : X → List Y) (s : S) (x : X) (xs : List X) → G s (flat_map f (x ∷ xs)) ≡ and_then (G s (f x)) (λ t. G t (flat_map f xs))
  steps-flat_map f s x xs = steps-append s (f x) (flat_map f xs)
