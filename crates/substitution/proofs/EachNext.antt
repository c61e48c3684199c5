-- Two lists, item by item, as both grow by one.
use Rattle.std.proofs.Common.{◌≡◌, ℕ, ◌+◌, ◌<◌, List, [], ◌∷◌, ◌++◌, map, take, get_or, length, sym, ◌∙◌, ap, subst}
use Rattle.std.proofs.lemmas.List.{map-append}
use Rattle.linear_forms.specs.Substitution.{Each}
use Rattle.linear_forms.proofs.Rebuilt.{each_more}
use Rattle.substitution.proofs.Lists.{map_more}

pub each_next : {X Y Z : Type 0} (R : Z → Z → Type 0) (f : X → Z) (g : Y → Z) (xs : List X) (i : ℕ) (x : X) (ys : List Y) (y : Y) → i < length xs → get_or xs i x ≡ x → Each R (map f (take i xs)) (map g ys) → R (f x) (g y) → Each R (map f (take (i + 1) xs)) (map g (ys ++ y ∷ []))
each_next R f g xs i x ys y l e h r =
    let left : map f (take i xs) ++ f x ∷ [] ≡ map f (take (i + 1) xs) = sym (map_more f xs i x l ∙ ap (λ z. map f (take i xs) ++ f z ∷ []) e) in
    let right : map g ys ++ g y ∷ [] ≡ map g (ys ++ y ∷ []) = sym (map-append g ys (y ∷ [])) in
    subst (λ bs. Each R (map f (take (i + 1) xs)) bs) right (subst (λ zs. Each R zs (map g ys ++ g y ∷ [])) left (each_more R (map f (take i xs)) (map g ys) (f x) (g y) h r))
