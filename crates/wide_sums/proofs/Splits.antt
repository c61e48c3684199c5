use Rattle.std.proofs.Common.{◌≡◌, ◌/◌, ◌^◌, ℤ, pos, negsuc, ◌+ℤ◌, ◌*ℤ◌, ap, ◌∙◌, arith}
use Rattle.std.proofs.lemmas.Int.{ints}
use Rattle.std.proofs.Math.IntN as Z
use Rattle.std.specs.Int.{int_div_euclid, int_rem_euclid}
use Rattle.wide_sums.specs.Parts.{IsSplit, value_of_parts}
use Rattle.farkas_check.proofs.Products.{distribute, times_times}

pub split_at : (x : ℤ) → IsSplit x (int_div_euclid x (pos (2 ^ 62))) (int_rem_euclid x (pos (2 ^ 62)))
split_at (pos a) = record { sum = omega (arith, ints, Z.pos-*ℤ-pos (2 ^ 62) (a / 2 ^ 62)); part = (omega (arith, ints), omega (arith, ints)) }
split_at (negsuc a) = record { sum = omega (arith, ints, Z.pos-*ℤ-negsuc (2 ^ 62) (a / 2 ^ 62)); part = (omega (arith, ints), omega (arith, ints)) }

scaled : (f p l : ℤ) → f *ℤ ((pos (2 ^ 62) *ℤ p) +ℤ l) ≡ (pos (2 ^ 62) *ℤ (f *ℤ p)) +ℤ (f *ℤ l)
scaled f p l = distribute f (pos (2 ^ 62) *ℤ p) l ∙ ap (λ (x : ℤ). x +ℤ (f *ℤ l)) (Z.*ℤ_comm f (pos (2 ^ 62) *ℤ p) ∙ times_times (pos (2 ^ 62)) p f ∙ ap (λ (x : ℤ). pos (2 ^ 62) *ℤ x) (Z.*ℤ_comm p f))

pub added : (h m l f n ph pl lh ll mh ml : ℤ) → n ≡ (pos (2 ^ 62) *ℤ ph) +ℤ pl → l +ℤ (f *ℤ pl) ≡ (pos (2 ^ 62) *ℤ lh) +ℤ ll → (m +ℤ lh) +ℤ (f *ℤ ph) ≡ (pos (2 ^ 62) *ℤ mh) +ℤ ml → value_of_parts (h +ℤ mh) ml ll ≡ value_of_parts h m l +ℤ (f *ℤ n)
added h m l f n ph pl lh ll mh ml number low middle = rw number (omega (arith, ints, scaled f ph pl, low, middle))
