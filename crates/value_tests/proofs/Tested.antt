-- A property of each element of a list, by a test of one after the other.
use Rattle.std.proofs.Common.{◌≡◌, ℕ, suc, ◌+◌, ◌<◌, List, All, length, drop, drop-cons, get_or, sym, subst, arith}
use Rattle.std.proofs.lemmas.List.Elements.{All-cons}

pub one_passes : {X : Type 0} (P : X → Type 0) (xs : List X) (i : ℕ) (x : X) → i < length xs → P (get_or xs i x) → (All P (drop i xs) → All P xs) → All P (drop (i + 1) xs) → All P xs
one_passes P xs i x lt passes before rest =
    let next : i + 1 ≡ suc i = omega arith in
    before (subst (All P) (sym (drop-cons xs i x lt)) (All-cons P (get_or xs i x) (drop (suc i) xs) passes (subst (λ n. All P (drop n xs)) next rest)))
