-- Two lists that are gone through in step, of which one ends first.
use Rattle.std.proofs.Common.{◌≡◌, ℕ, false, min, nat_eq, List, [], ◌∷◌, length, drop, Result, Err, arith}
use Rattle.std.proofs.lemmas.Bool.Decides.{nat_tests}
use Rattle.std.proofs.lemmas.List.{length-drop}
use Rattle.outline_language.specs.Contexts.{Why, WrongForm}

module _ {S X Y : Type 0} (F : List X → List Y → Result S Why) (left : (x : X) (xs : List X) → F (x ∷ xs) [] ≡ Err WrongForm) (right : (y : Y) (ys : List Y) → F [] (y ∷ ys) ≡ Err WrongForm) where
  one_ends : (xs : List X) (ys : List Y) → nat_eq (length xs) (length ys) ≡ false → min (length xs) (length ys) ≡ 0 → F xs ys ≡ Err WrongForm
  one_ends [] [] apart least = absurd cc
  one_ends (x ∷ xs) [] apart least = left x xs
  one_ends [] (y ∷ ys) apart least = right y ys
  one_ends (x ∷ xs) (y ∷ ys) apart least = absurd (omega (arith, least))

  pub one_ends_first : (xs : List X) (ys : List Y) (i : ℕ) → nat_eq (length xs) (length ys) ≡ false → i ≡ min (length xs) (length ys) → F (drop i xs) (drop i ys) ≡ Err WrongForm
  one_ends_first xs ys i apart end =
      let us = length-drop i xs in
      let vs = length-drop i ys in
      let still : nat_eq (length (drop i xs)) (length (drop i ys)) ≡ false = grind (arith, nat_tests) in
      let least : min (length (drop i xs)) (length (drop i ys)) ≡ 0 = omega (arith, us, vs, end) in
      one_ends (drop i xs) (drop i ys) still least
