-- One more space.
use Rattle.std.proofs.Common.{◌≡◌, ℕ, List, zero, suc, ◌+◌, [], ◌∷◌, ◌++◌, refl, ap, arith}
use Rattle.std.specs.List.{repeat}

last_space : (n : ℕ) → repeat {A = ℕ} n (32 ∷ []) ++ 32 ∷ [] ≡ 32 ∷ repeat {A = ℕ} n (32 ∷ [])
last_space zero = refl
last_space (suc n) = ap (λ (v : List ℕ). 32 ∷ v) (last_space n)

pub repeat_more : (n : ℕ) → repeat {A = ℕ} n (32 ∷ []) ++ 32 ∷ [] ≡ repeat {A = ℕ} (n + 1) (32 ∷ [])
repeat_more n = let e : n + 1 ≡ suc n = omega arith in rw e (last_space n)
