-- Numbers in a row, from one on.
use Rattle.std.proofs.Common.{◌≡◌, ◌+◌, ◌-◌, ◌≤◌, ℕ, suc, [], ◌∷◌, sym, ap, ◌∙◌, arith}
use Rattle.std.specs.List.{range_with_len}

pub next_number : (i n : ℕ) → i ≤ n → range_with_len i (n + 1 - i) ≡ i ∷ range_with_len (i + 1) (n + 1 - (i + 1))
next_number i n within =
    let here : n + 1 - i ≡ suc (n - i) = omega (arith, within) in
    let behind : n + 1 - (i + 1) ≡ n - i = omega (arith, within) in
    ap (range_with_len i) here ∙ ap (λ k. i ∷ range_with_len (i + 1) k) (sym behind)

pub no_number : (i n : ℕ) → n + 1 ≤ i → range_with_len i (n + 1 - i) ≡ []
no_number i n past = let none : n + 1 - i ≡ 0 = omega (arith, past) in ap (range_with_len i) none
