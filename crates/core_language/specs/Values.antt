-- The values of a run, and how deep they are nested.
use Rattle.std.specs.Prelude.{ℕ, ℤ, suc, max, nat_le, Bool}
use Rattle.core_language.specs.Names.{Name}

-- an arm has its number, from 0; an end is the name of its channel
pub data Value : Type 0 where
  Int : ℤ → Value
  Unit : Value
  Pair : Value → Value → Value
  Arm : (number : ℕ) → Value → Value
  End : Name → Value

abbrev pub depth : Value → ℕ
depth (Int z) = 0
depth Unit = 0
depth (Pair a b) = suc (max (depth a) (depth b))
depth (Arm i a) = suc (depth a)
depth (End c) = 0

-- no value of a run is nested deeper
abbrev pub is_shallow : Value → Bool
is_shallow v = nat_le (depth v) 256
