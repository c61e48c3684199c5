use Rattle.std.proofs.Common.{◌≡◌, ℕ, ◌+◌, ◌*◌, ◌≤◌, ◌<◌, ◌^◌, ℤ, ◌*ℤ◌, unsigned_abs, to_z, of_z, arith}
use Rattle.std.specs.Int.{w128}
use Rattle.std.proofs.lemmas.Int.{ints, to_z-of_z, fits_signed_from_abs, unsigned_abs-mul}
use Rattle.wide_sums.specs.Parts.{IsPart, IsSplit, value_of_parts}

pub size-mul : (a b : ℤ) (m n : ℕ) → unsigned_abs a ≤ m → unsigned_abs b ≤ n → unsigned_abs (a *ℤ b) ≤ m * n
size-mul a b m n h k = rw (unsigned_abs-mul a b) (grind arith)

pub part-size : (z : ℤ) → IsPart z → unsigned_abs z < 2 ^ 62
part-size z h = omega (arith, ints, h.0, h.1)

pub split-size : (x high low : ℤ) (k : ℕ) → IsSplit x high low → unsigned_abs x ≤ k * 2 ^ 62 → unsigned_abs high ≤ k + 1
split-size x high low k s h = omega (arith, ints, s.sum, s.part.0, s.part.1)

pub high-size : (high middle low : ℤ) → IsPart middle → IsPart low → unsigned_abs (value_of_parts high middle low) ≤ 2 ^ 248 → unsigned_abs high ≤ 2 ^ 124 + 1
high-size high middle low m l h = omega (arith, ints, m.0, m.1, l.0, l.1)

pub kept : (z : ℤ) → unsigned_abs z < 2 ^ 127 → to_z w128 (of_z w128 z) ≡ z
kept z h = to_z-of_z w128 z (fits_signed_from_abs w128 z h)

-- a split of what the code has in 128 bits
pub split_of : (z high low : ℤ) → unsigned_abs z < 2 ^ 127 → IsSplit (to_z w128 (of_z w128 z)) high low → IsSplit z high low
split_of z high low h s = rw (kept z h) at s
