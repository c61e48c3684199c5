-- What holds of each element of a list.
use Rattle.std.proofs.Common.{◌≡◌, ℕ, zero, suc, List, [], ◌∷◌, ◌++◌, map, Some, slice_get, subst}
use Rattle.std.proofs.lemmas.Option.{same_Some}
use Rattle.fault_places.specs.Spans.{Every}

pub every_append : {X : Type 0} (Q : X → Type 0) (xs ys : List X) → Every Q xs → Every Q ys → Every Q (xs ++ ys)
every_append Q [] ys p q = q
every_append Q (x ∷ xs) ys p q = (p.0, every_append Q xs ys p.1 q)

pub every_map : {X Y : Type 0} (Q : Y → Type 0) (f : X → Y) (xs : List X) → Every (λ x. Q (f x)) xs → Every Q (map f xs)
every_map Q f [] p = tt
every_map Q f (x ∷ xs) p = (p.0, every_map Q f xs p.1)

pub every_middle : {X : Type 0} (Q : X → Type 0) (front back : List X) (x : X) → Every Q (front ++ x ∷ back) → Q x
every_middle Q [] back x p = p.0
every_middle Q (y ∷ front) back x p = every_middle Q front back x p.1

pub every_get : {X : Type 0} (Q : X → Type 0) (xs : List X) (i : ℕ) (x : X) → Every Q xs → slice_get xs i ≡ Some x → Q x
every_get Q [] i x p is = cc
every_get Q (y ∷ ys) zero x p is = subst Q (same_Some y x is) p.0
every_get Q (y ∷ ys) (suc i) x p is = every_get Q ys i x p.1 is

pub every_to : {X : Type 0} (Q R : X → Type 0) → ((x : X) → Q x → R x) → (xs : List X) → Every Q xs → Every R xs
every_to Q R each [] p = tt
every_to Q R each (x ∷ xs) p = (each x p.0, every_to Q R each xs p.1)
