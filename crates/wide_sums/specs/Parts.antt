-- Integers in base 2^62.
use Rattle.std.specs.Prelude.{◌≡◌, ◌^◌, ℤ, pos, ◌+ℤ◌, ◌*ℤ◌, ◌≤ℤ◌, ◌<ℤ◌}

abbrev pub value_of_parts : ℤ → ℤ → ℤ → ℤ
value_of_parts high middle low = (pos (2 ^ 124) *ℤ high) +ℤ (pos (2 ^ 62) *ℤ middle) +ℤ low

abbrev pub IsPart : ℤ → Type 0
IsPart z = (pos 0 ≤ℤ z) × (z <ℤ pos (2 ^ 62))

pub record IsSplit (x high low : ℤ) : Type 0 where
  pub sum : x ≡ (pos (2 ^ 62) *ℤ high) +ℤ low
  pub part : IsPart low
