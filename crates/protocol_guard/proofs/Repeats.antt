-- One more of the same.
use Rattle.std.proofs.Common.{◌≡◌, ℕ, zero, suc, ◌+◌, false, Bool, List, [], ◌∷◌, ◌++◌, replicate, refl, ap, arith}

last : (n : ℕ) → replicate n false ++ false ∷ [] ≡ false ∷ replicate n false
last zero = refl
last (suc n) = ap (λ (bs : List Bool). false ∷ bs) (last n)

pub replicate_more : (n : ℕ) → replicate n false ++ false ∷ [] ≡ replicate (n + 1) false
replicate_more n = let e : n + 1 ≡ suc n = omega arith in rw e (last n)
